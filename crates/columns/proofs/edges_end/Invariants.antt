use Rattle.columns.proofs.EdgeStarts.{Own}
use Rattle.columns.proofs.edges_end.Given as goal

abbrev pub invariant-loop-i : goal.invariant-loop-i
invariant-loop-i l = Own l.from l.v l.k l.i
