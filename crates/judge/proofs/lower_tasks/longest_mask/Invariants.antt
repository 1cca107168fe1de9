use Prim.Native.Nat.{◌+◌}
use Rattle.judge.proofs.Masking.{MaskedTo}
use Rattle.judge.proofs.lower_tasks.longest_mask.Given as goal

abbrev pub invariant-loop-lower : goal.invariant-loop-lower
invariant-loop-lower l = MaskedTo l.t l.fn.task.0 l.masked.0 (l.fn.task.0 + 1 + l.lower-index)
