use Rattle.lines.proofs.LinkTurns.{links_end, links_stop, links_more}
use Rattle.std.proofs.lemmas.Result.{err_from_is_err_and}
use Rattle.lines.proofs.read_links.Goals as goal

pub returns-in_err-link : goal.returns-in_err-link
returns-in_err-link c =
    let p = err_from_is_err_and c.from_residual.result c.from_residual.ensures.1 in
    rw (p.1, p.2) (links_stop c.loop-i.invariant c.loop-i-test.true c.link_line-line.ensures c.in_err-link.ensures)

pub loop-i-preserved : goal.loop-i-preserved
loop-i-preserved c = links_more c.loop-i.invariant c.loop-i-test.true c.link_line-line.ensures c.in_ok-link.ensures c.link_edge.ensures

pub returns : goal.returns
returns c = rw (c.task_of.ensures) (links_end c.loop-i.invariant c.loop-i-test.false)
