use mathlib.Core.Path.{◌≡◌}
use lib.ListN.{take}
use lib.Seq.{sets}
use Rattle.ranges.proofs.LargerCells.{pair_larger}
use Rattle.ranges.proofs.larger_row.Given as goal

abbrev pub invariant-loop-t : goal.invariant-loop-t
invariant-loop-t l = l.part ≡ sets l.initial.part l.o (take l.t (pair_larger l.initial.part l.a l.b l.d))
