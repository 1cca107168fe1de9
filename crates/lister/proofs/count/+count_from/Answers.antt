use mathlib.Core.Path.{◌∙◌}
use native.Mathlib.Omega.{arith}
use Rattle.lister.proofs.CountLoop.{counting_skip, counting_on, counting_full, counted}
use Rattle.lister.proofs.count.+count_from.Goals as goal

pub loop-k-preserved-then-s-edge : goal.loop-k-preserved-then-s-edge
loop-k-preserved-then-s-edge t c = counting_skip c.loop-k.invariant c.loop-k-test.true (omega arith)

pub returns-then-sum-cap : goal.returns-then-sum-cap
returns-then-sum-cap t c =
    let e = c.edge-edge.ensures in
    counting_full c.loop-k.invariant c.count_from-sum.result c.loop-k-test.true (omega arith) (rw (e.0, e.1) at c.count_from-sum.ensures)
    c.args.columns.now.sound c.follow-s.ensures c.if-sum-cap.true

pub loop-k-preserved : goal.loop-k-preserved
loop-k-preserved t c =
    let e = c.edge-edge.ensures in
    counting_on c.loop-k.invariant c.count_from-sum.result c.loop-k-test.true (omega arith) (rw (e.0, e.1) at c.count_from-sum.ensures)
    c.if-sum-cap.false

pub returns : goal.returns
returns t c = c.max.ensures ∙ counted c.loop-k.invariant c.args.columns.now.sound c.loop-k-test.false c.follow-s.ensures
