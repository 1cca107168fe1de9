use mathlib.Core.Path.{ap₂, ◌∙◌}
use Prim.Native.Nat.{ℕ}
use native.Mathlib.Omega.{arith}
use Rattle.table.specs.Record.{no_edge, edge_of}
use Rattle.checks.proofs.InOrder.{mapped_next, passed_on, rest_broken, rest_kept}
use Rattle.checks.proofs.check_edges.Goals as goal

pub returns-in_err-check_edge : goal.returns-in_err-check_edge
returns-in_err-check_edge c =
    let next = mapped_next edge_of c.args.edges.now c.loop-i.i no_edge c.loop-i-test.true in
    passed_on c.from_residual.result c.in_err-check_edge.field-0.0 c.from_residual.ensures.1
    ∙ rest_broken c.loop-i.invariant next c.check_edge.ensures c.in_err-check_edge.was

pub loop-i-preserved : goal.loop-i-preserved
loop-i-preserved c =
    let next = mapped_next edge_of c.args.edges.now c.loop-i.i no_edge c.loop-i-test.true in
    let state = ap₂ {C = ℕ × ℕ} (λ (least line : ℕ). (least, line)) c.least_after-least.ensures (omega arith) in
    rest_kept c.loop-i.invariant next c.check_edge.ensures c.in_ok-check_edge.was state
