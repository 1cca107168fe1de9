use Rattle.lines.proofs.Turns.{vertices_end, vertices_stop, vertices_more}
use Rattle.std.proofs.lemmas.Result.{err_from_is_err_and}
use Rattle.lines.proofs.read_vertices.Goals as goal

pub returns-in_err-vertices : goal.returns-in_err-vertices
returns-in_err-vertices c =
    let p = err_from_is_err_and c.from_residual.result c.from_residual.ensures.1 in
    rw (p.1, p.2) (vertices_stop c.loop-i.invariant c.loop-i-test.true c.vertex_line-line.ensures c.in_err-vertices.ensures)

pub loop-i-preserved : goal.loop-i-preserved
loop-i-preserved c = vertices_more c.loop-i.invariant c.loop-i-test.true c.vertex_line-line.ensures c.in_ok-vertices.ensures

pub returns : goal.returns
returns c = vertices_end c.loop-i.invariant c.loop-i-test.false
