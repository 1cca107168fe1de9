use Rattle.columns.proofs.EdgeStarts.{Cutting}
use Rattle.columns.proofs.edge_starts.Given as goal

abbrev pub invariant-loop-v : goal.invariant-loop-v
invariant-loop-v l = Cutting l.from l.m l.s l.k l.v
