use Prim.Native.Nat.{◌-◌, ◌≤◌}
use lib.ListN.{length}
use Rattle.cases.proofs.answer_all.Given as goal

abbrev pub invariant-loop-header : goal.invariant-loop-header
invariant-loop-header l = l.at ≤ length l.bytes

abbrev pub decreases-loop-header : goal.decreases-loop-header
decreases-loop-header l = length l.bytes - l.at
