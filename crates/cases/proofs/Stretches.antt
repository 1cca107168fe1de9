-- A task's stretch has room in the area.
use mathlib.Core.Path.{◌≡◌}
use Prim.Native.Nat.{ℕ, ◌≤◌}
use native.Mathlib.Omega.{arith}
use mathlib.Core.List.{List}
use lib.ListN.{length, take}
use lib.Seq.{length-take-le}
use Rattle.table.specs.declared.Task.{Task}
use Rattle.ranges.specs.Stretch.{stretch_cells}
use Rattle.ranges.proofs.CellBounds.{cells_small}
use Rattle.cases.specs.Listing.{Listing, stretch_room}

module _ {t : Task} {n d : ℕ} {work : List ℕ} (l : Listing t n d work) where
  pub stretch_small : stretch_cells d n ≤ stretch_room
  stretch_small = cells_small n d l.few_paths l.most_d

  pub stretch_fits : stretch_cells d n ≤ length work
  stretch_fits = omega (arith, stretch_small, l.room)

  pub stretch_part : length (take (stretch_cells d n) work) ≡ stretch_cells d n
  stretch_part = length-take-le (stretch_cells d n) work stretch_fits
