use mathlib.Core.Path.{◌≡◌}
use Prim.Native.Nat.{ℕ, ◌≤◌, ◌<◌}
use lib.ListN.{get_or}
use Rattle.groups.proofs.Arrays.{no_part}
use Rattle.groups.proofs.Layout.first_child.Given as goal

abbrev pub invariant-loop-j : goal.invariant-loop-j
invariant-loop-j l = (l.group ≡ l.initial.group) × ((k : ℕ) → k < l.j → (get_or l.initial.group k no_part).len ≤ 1)
