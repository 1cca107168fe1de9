-- How many cells a task's stretch has, and how large they are.
use mathlib.Core.Path.{◌≡◌, ◌∙◌}
use Prim.Native.Nat.{ℕ, zero, suc, ◌+◌, ◌*◌, ◌≤◌, ◌<◌, zero-le}
use native.Mathlib.Nat.{le_trans, mul-le-mul_right}
use native.Mathlib.Omega.{arith}
use mathlib.Core.Bool.{Bool, true, false}
use mathlib.Core.List.{List, [], ◌∷◌, ◌++◌, map}
use lib.Dec.{ltb}
use lib.ListN.{length, get_or, length-map}
use Rattle.meaning.specs.Lists.{count_from, ticks}
use Rattle.meaning.specs.Bounds.{largest_e, largest_d, most_paths}
use Rattle.meaning.specs.Table.{Task}
use Rattle.meaning.specs.Paths.{load, paths_of}
use Rattle.meaning.specs.Groups.{first_part, second_part, range_load}
use Rattle.meaning.specs.Areas.{rows_for, rows_of}
use Rattle.meaning.specs.Sound.{SoundTask}
use Rattle.meaning.proofs.Lists.{length-count_from}
use Rattle.meaning.proofs.Groups.{first_part_lem, second_part_lem}
use Rattle.meaning.proofs.LoadBounds.{load_rises, range_rises, range_bound, load_bound}
use Rattle.meaning.proofs.PathsOf.{paths_legal}
use Rattle.ranges.specs.Stretch.{stretch_cells, inside, in_order, range_row, stretch_of}
use Rattle.ranges.proofs.Rows.{order-length}

-- ---- how many

-- as many cells as the document's need counts for the task
pub stretch_length : (k : Task) (d : ℕ) → 0 < length (paths_of k d) → length (stretch_of k d) ≡ rows_of d k * d
unfolding stretch_of
stretch_length k d h =
    order-length (range_row k d) d (λ ys. length-map (ticks d) (range_load (load k) ys) ∙ length-count_from 1 d)
    (length (paths_of k d)) (paths_of k d) h (omega arith)

-- where 9 is not the refusal, a task's need is small
pub cells_small : (n d : ℕ) → n ≤ most_paths → d ≤ largest_d → stretch_cells d n ≤ rows_for most_paths * largest_d
cells_small n d h l =
    let a : stretch_cells d n ≤ rows_for most_paths * d = mul-le-mul_right d (omega arith) in
    let b : rows_for most_paths * d ≤ rows_for most_paths * largest_d = omega arith in
    le_trans a b

pub need_small : (k : Task) (d : ℕ) → length (paths_of k d) ≤ most_paths → d ≤ largest_d → rows_of d k * d ≤ rows_for most_paths * largest_d
need_small k d = cells_small (length (paths_of k d)) d

-- ---- how large

AtMost : ℕ → List ℕ → Type 0
AtMost b cells = (i : ℕ) → get_or cells i 0 ≤ b

most_append : (b : ℕ) (xs ys : List ℕ) → AtMost b xs → AtMost b ys → AtMost b (xs ++ ys)
unfolding AtMost
most_append b [] ys p q i = q i
most_append b (x ∷ xs) ys p q zero = p 0
most_append b (x ∷ xs) ys p q (suc i) = most_append b xs ys (λ j. p (suc j)) q i

most_ticks : (b : ℕ) (f : ℕ → ℕ) (a n : ℕ) → ((t : ℕ) → t < a + n → f t ≤ b) → AtMost b (map f (count_from a n))
unfolding AtMost
most_ticks b f a zero h i = zero-le
most_ticks b f a (suc n) h zero = h a (omega arith)
most_ticks b f a (suc n) h (suc i) = most_ticks b f (suc a) n (λ t l. h t (omega arith)) i

module _ {X : Type 0} (loads : X → ℕ → ℕ) (rises : (x : X) (s t : ℕ) → s ≤ t → loads x s ≤ loads x t) (d b : ℕ) where
  row_of : List X → List ℕ
  row_of r = map (range_load loads r) (ticks d)

  most_row : (r : List X) → range_load loads r d ≤ b → AtMost b (row_of r)
  unfolding row_of
  most_row r h = most_ticks b (range_load loads r) 1 d (λ t l. omega (arith, range_rises loads rises r t d (omega arith)))

  most_order : (n : ℕ) (r : List X) → range_load loads r d ≤ b → AtMost b (in_order row_of n r)
  unfolding in_order
  most_order zero r h = most_row r h
  most_order (suc n) r h =
      go (ltb 1 (length r)) (in_order row_of n (first_part r)) (in_order row_of n (second_part r))
      (most_order n (first_part r) (omega (arith, first_part_lem.less loads r d))) (most_order n (second_part r) (omega (arith, second_part_lem.less loads r d)))
    where
      go : (q : Bool) (x y : List ℕ) → AtMost b x → AtMost b y → AtMost b (inside row_of q x (row_of r) y)
      go true x y p q = most_append b x (row_of r ++ y) p (most_append b (row_of r) y (most_row r h) q)
      go false x y p q = most_row r h

-- each cell is at most the largest e for each tick
pub cell_bound : (k : Task) → SoundTask k → (d i : ℕ) → get_or (stretch_of k d) i 0 ≤ largest_e * d
unfolding stretch_of row_of AtMost
cell_bound k s d i =
    most_order (load k) (load_rises k) d (largest_e * d) (length (paths_of k d)) (paths_of k d)
    (range_bound (load k) (paths_of k d) d (largest_e * d) (λ w m. load_bound k s w d (paths_legal k d m))) i
