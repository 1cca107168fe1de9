use mathlib.Core.Path.{◌≡◌}
use Prim.Native.Nat.{ℕ, ◌<◌}
use lib.ListN.{get_or}
use Rattle.groups.proofs.Arrays.{no_part}
use Rattle.groups.proofs.TopGroup.{whole_part}
use Rattle.groups.proofs.Layout.top_group.Given as goal

abbrev pub invariant-loop-j : goal.invariant-loop-j
invariant-loop-j l = (k : ℕ) → k < l.j → get_or l.group k no_part ≡ whole_part l.self.d l.self.stretches.now k
