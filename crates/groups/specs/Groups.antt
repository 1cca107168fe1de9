-- A group of ranges, one of each higher task, and the group that is examined next.
use Rattle.std.specs.Prelude.{◌≡◌, ℕ, ◌<◌, Bool, not, List, [], ◌∷◌, map, ltb}
use Rattle.std.proofs.Math.Option.{Option, none, some}
use Rattle.meaning.specs.Lists.{pick, all}
use Rattle.rows.specs.Order.{Node}
use Rattle.rows.specs.Ranges.{Range, range, end_of, first_half, second_half, rest_length, row_start}

abbrev pub firsts : List Range → List ℕ
firsts xs = map (λ (x : Range). x.first) xs

-- where the rows of the ranges begin, in stretches that begin there
abbrev pub row_starts : ℕ → List ℕ → List Range → List ℕ
row_starts d [] xs = []
row_starts d (r ∷ rs) [] = []
row_starts d (r ∷ rs) (x ∷ xs) = row_start d r x ∷ row_starts d rs xs

-- ---- the group that is examined next; the tasks have ns paths

-- the top group takes all
abbrev pub top_group : List ℕ → List Range
top_group [] = []
top_group (n ∷ ns) = range 0 n ∷ top_group ns

-- every range is a single path
abbrev pub all_single : List Range → Bool
all_single xs = all (λ (x : Range). not (ltb 1 x.len)) xs

-- the lowest-numbered task whose range is longer than one is split, and a child takes one part of it
abbrev pub child_by : (Range → Range) → List Range → List Range
child_by part [] = []
child_by part (x ∷ xs) = pick (ltb 1 x.len) (part x ∷ xs) (x ∷ child_by part xs)

abbrev pub first_child : List Range → List Range
first_child xs = child_by first_half xs

abbrev pub second_child : List Range → List Range
second_child xs = child_by second_half xs

-- the child that is examined next, if there are children
abbrev pub child_group : List Range → Option (List Range)
child_group xs = pick (all_single xs) none (some (first_child xs))

-- task 0's range stays before the next group of the tasks behind it; where they have none, it is task 0's turn
abbrev pub next_by : Range → Option (List Range) → Option (List Range) → Option (List Range)
next_by x turn none = turn
next_by x turn (some ys) = some (x ∷ ys)

-- the next group when nothing below the present one is examined, if there is one: the last range that does not end its task's paths
-- gives way to the rest that begins behind it, and the tasks behind that one are whole again
abbrev pub next_group : List ℕ → List Range → Option (List Range)
next_group [] xs = none
next_group (n ∷ ns) [] = none
next_group (n ∷ ns) (x ∷ xs) =
    next_by x (pick (ltb (end_of x) n) (some (range (end_of x) (rest_length 0 n (end_of x)) ∷ top_group ns)) none) (next_group ns xs)

-- a group that the walk can come to: each range is one that splitting gives, and behind a longer one all are whole
abbrev pub InWalk : List ℕ → List Range → Type 0
InWalk [] [] = Unit {0}
InWalk [] (x ∷ xs) = ⊥
InWalk (n ∷ ns) [] = ⊥
InWalk (n ∷ ns) (x ∷ xs) = (0 < n) × Node 0 n x.first x.len × (1 < x.len → xs ≡ top_group ns) × InWalk ns xs
