use Rattle.lines.proofs.Turns.{edges_end, edges_stop, edges_more}
use Rattle.std.proofs.lemmas.Result.{err_from_is_err_and}
use Rattle.lines.proofs.read_edges.Goals as goal

pub returns-in_err-edge : goal.returns-in_err-edge
returns-in_err-edge c =
    let p = err_from_is_err_and c.from_residual.result c.from_residual.ensures.1 in
    rw (p.1, p.2) (edges_stop c.loop-i.invariant c.loop-i-test.true c.edge_line-line.ensures c.in_err-edge.ensures)

pub loop-i-preserved : goal.loop-i-preserved
loop-i-preserved c = edges_more c.loop-i.invariant c.loop-i-test.true c.edge_line-line.ensures c.in_ok-edge.ensures c.least_after-least.ensures

pub returns : goal.returns
returns c = edges_end c.loop-i.invariant c.loop-i-test.false
