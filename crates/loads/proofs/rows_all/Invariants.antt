use Rattle.loads.proofs.AllRows.{Filling}
use Rattle.loads.proofs.rows_all.Given as goal

abbrev pub invariant-loop-v : goal.invariant-loop-v
invariant-loop-v l = let k = l.columns in Filling k.e k.start k.to k.p l.d.0 k.n l.initial.part l.part l.i l.v
