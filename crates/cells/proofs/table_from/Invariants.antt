use mathlib.Core.Path.{◌≡◌}
use Prim.Native.Nat.{◌-◌}
use lib.ListN.{length}
use Rattle.cells.proofs.Turns.{Turn}
use Rattle.cells.proofs.table_from.Given as goal

abbrev pub invariant-loop-cells : goal.invariant-loop-cells
invariant-loop-cells l = record { same_list : l.cells.list.now ≡ l.list; turn : Turn l.list l.t l.cells.at }

abbrev pub decreases-loop-cells : goal.decreases-loop-cells
decreases-loop-cells l = length l.list - l.cells.at
