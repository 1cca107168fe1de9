use Rattle.lister.specs.Follow.{Followed}
use Rattle.lister.proofs.follow.follow.Given as goal

abbrev pub invariant-loop-edge : goal.invariant-loop-edge
invariant-loop-edge l = Followed l.columns.start l.columns.to l.columns.p l.initial.u.number.0 l.initial.left.0 l.u.number.0 l.left.0

abbrev pub decreases-loop-edge : goal.decreases-loop-edge
decreases-loop-edge l = l.left.0
