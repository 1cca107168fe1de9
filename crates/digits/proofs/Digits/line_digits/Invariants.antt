use Rattle.std.proofs.Common.{◌*◌}
use Rattle.digits.proofs.Counting.{Counted}
use Rattle.digits.proofs.Digits.line_digits.Given as goal

abbrev pub invariant-loop-k : goal.invariant-loop-k
invariant-loop-k l = Counted l.text (2 * l.k)
