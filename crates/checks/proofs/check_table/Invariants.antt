use Rattle.checks.proofs.Tables.{Turn}
use Rattle.checks.proofs.check_table.Given as goal

abbrev pub invariant-loop-k : goal.invariant-loop-k
invariant-loop-k l = Turn l.t l.bytes l.line l.k-index
