use Rattle.columns.proofs.TaskColumns.{Front, from_in, p_in, to_in}
use Rattle.columns.proofs.columns_of.Given as goal

abbrev pub invariant-loop-k : goal.invariant-loop-k
invariant-loop-k l = Front l.t from_in l.from l.k × Front l.t to_in l.to l.k × Front l.t p_in l.p l.k
