use Rattle.lister.proofs.CountLoop.{Counting}
use Rattle.lister.proofs.count.+count_from.Given as goal

abbrev pub decreases-count_from : goal.decreases-count_from
decreases-count_from l = l.r.0

abbrev pub invariant-loop-k : goal.invariant-loop-k
invariant-loop-k l = Counting l.columns.start l.columns.to l.columns.p l.s.v.number.0 l.s.r.0 l.cap l.k-end l.k l.sum
