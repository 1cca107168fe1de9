use Rattle.lister.proofs.AllPlaces.{Passing}
use Rattle.lister.proofs.place.path_all.Given as goal

abbrev pub invariant-loop-v : goal.invariant-loop-v
invariant-loop-v l = Passing l.columns.start l.columns.to l.columns.p l.columns.n l.d.0 l.initial.left.0 l.vertices l.left.0 l.v
