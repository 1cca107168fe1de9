-- The row of a range never falls from one tick to the next: loads never fall as t grows.
use mathlib.Core.Path.{◌≡◌, sym, ap, ◌∙◌}
use Prim.Native.Nat.{ℕ, suc, ◌+◌, ◌-◌, ◌*◌, ◌≤◌, ◌<◌}
use native.Mathlib.Omega.{arith}
use lib.ListN.{length, get_or, take, drop}
use Rattle.meaning.specs.Table.{Task}
use Rattle.meaning.specs.Paths.{load, paths_of}
use Rattle.meaning.specs.Groups.{range_load}
use Rattle.meaning.proofs.LoadBounds.{load_rises, range_rises}
use Rattle.ranges.specs.Stretch.{stretch_of}
use Rattle.rows.specs.Order.{Node, top_row}
use Rattle.ranges.proofs.Nodes.{stretch_cell}

module _ (k : Task) (d : ℕ) {f m : ℕ} (some : 0 < length (paths_of k d)) (x : Node 0 (length (paths_of k d)) f m) where
  -- the cell u places behind the row's start: the range's load at tick u + 1
  cell_at : ℕ → ℕ
  cell_at u = get_or (stretch_of k d) ((2 * f + top_row m) * d + u) 0

  cell_is : (u : ℕ) → u < d → cell_at u ≡ range_load (load k) (take m (drop f (paths_of k d))) (suc u)
  unfolding cell_at
  cell_is u l = let e : suc u - 1 ≡ u = omega arith in ap cell_at (sym e) ∙ stretch_cell k d some x (suc u) (omega arith) (omega arith)

  pub row_rises : (u : ℕ) → suc u < d → get_or (stretch_of k d) ((2 * f + top_row m) * d + u) 0 ≤ get_or (stretch_of k d) ((2 * f + top_row m) * d + suc u) 0
  unfolding cell_at
  row_rises u l =
      let r = range_rises (load k) (load_rises k) (take m (drop f (paths_of k d))) (suc u) (suc (suc u)) (omega arith) in
      rw (cell_is u (omega arith), cell_is (suc u) l) r
