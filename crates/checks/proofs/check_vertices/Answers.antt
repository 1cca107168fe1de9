use mathlib.Core.Path.{◌∙◌}
use native.Mathlib.Omega.{arith}
use Rattle.table.specs.Record.{no_vertex, vertex_of}
use Rattle.checks.proofs.InOrder.{mapped_next, passed_on, rest_broken, rest_kept}
use Rattle.checks.proofs.check_vertices.Goals as goal

pub returns-in_err-check_vertex : goal.returns-in_err-check_vertex
returns-in_err-check_vertex c =
    let next = mapped_next vertex_of c.args.vertices.now c.loop-i.i no_vertex c.loop-i-test.true in
    passed_on c.from_residual.result c.in_err-check_vertex.field-0.0 c.from_residual.ensures.1
    ∙ rest_broken c.loop-i.invariant next c.check_vertex.ensures c.in_err-check_vertex.was

pub loop-i-preserved : goal.loop-i-preserved
loop-i-preserved c =
    let next = mapped_next vertex_of c.args.vertices.now c.loop-i.i no_vertex c.loop-i-test.true in
    rest_kept c.loop-i.invariant next c.check_vertex.ensures c.in_ok-check_vertex.was (omega arith)
