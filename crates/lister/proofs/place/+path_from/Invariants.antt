use Rattle.lister.proofs.Places.{Seeking}
use Rattle.lister.proofs.place.+path_from.Given as goal

abbrev pub decreases-path_from : goal.decreases-path_from
decreases-path_from l = l.r.0

abbrev pub invariant-loop-k : goal.invariant-loop-k
invariant-loop-k l = Seeking l.columns.start l.columns.to l.columns.p l.v.number.0 l.r.0 l.i.0 l.k-end l.initial.cells l.cells l.k l.left.0
