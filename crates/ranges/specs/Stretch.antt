-- A task's stretch of the work area: the rows of its ranges, in order.
use Rattle.std.specs.Prelude.{ℕ, zero, suc, ◌*◌, max, Bool, true, false, List, [], ◌∷◌, ◌++◌, map, ltb, length, take, drop, replicate}
use Rattle.meaning.specs.Lists.{ticks}
use Rattle.meaning.specs.Table.{Task}
use Rattle.meaning.specs.Paths.{Path, load, paths_of}
use Rattle.meaning.specs.Areas.{rows_for}
use Rattle.meaning.specs.Groups.{first_part, second_part, range_load}

-- the cells of a range of n paths: a row of d for it, and for each of its parts
abbrev pub stretch_cells : ℕ → ℕ → ℕ
stretch_cells d n = rows_for n * d

module _ {X : Type 0} (row : List X → List ℕ) where
  abbrev pub inside : Bool → List ℕ → List ℕ → List ℕ → List ℕ
  inside true a m b = a ++ (m ++ b)
  inside false a m b = m

  -- the rows of a range and its parts: the first part's, its own, the second part's. A split shortens the range: its length bounds the depth
  unfoldable pub in_order : ℕ → List X → List ℕ
  in_order zero xs = row xs
  in_order (suc n) xs = inside (ltb 1 (length xs)) (in_order n (first_part xs)) (row xs) (in_order n (second_part xs))

-- the row of a range of paths: its load at 1 to d
abbrev pub range_row : Task → ℕ → List Path → List ℕ
range_row k d r = map (range_load (load k) r) (ticks d)

unfoldable pub stretch_of : Task → ℕ → List ℕ
unfolding paths_of load in_order
stretch_of k d = in_order (range_row k d) (length (paths_of k d)) (paths_of k d)

-- ---- of rows of numbers

-- the larger, cell by cell
abbrev pub larger_cells : List ℕ → List ℕ → List ℕ
larger_cells [] ys = []
larger_cells (x ∷ xs) [] = x ∷ xs
larger_cells (x ∷ xs) (y ∷ ys) = max x y ∷ larger_cells xs ys

-- the row of a range of rows of d cells
abbrev pub largest_row : ℕ → List (List ℕ) → List ℕ
largest_row d [] = replicate d 0
largest_row d (x ∷ xs) = larger_cells (largest_row d xs) x

-- the rows of the n single paths in a stretch
abbrev pub single_rows : ℕ → ℕ → List ℕ → List (List ℕ)
single_rows d zero P = []
single_rows d (suc n) P = take d P ∷ single_rows d n (drop (2 * d) P)

-- the rows of n paths, from those of the single ones
abbrev pub built : ℕ → ℕ → List ℕ → List ℕ
built d n P = in_order (largest_row d) n (single_rows d n P)
