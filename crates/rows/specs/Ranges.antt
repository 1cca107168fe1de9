-- A range of one task's ordered paths in numbers: its halves, where its row stands, and the rest that begins at a place.
use Rattle.std.specs.Prelude.{ℕ, zero, suc, ◌+◌, ◌-◌, ◌*◌, ltb, eqb}
use Rattle.meaning.specs.Lists.{pick}
use Rattle.meaning.specs.Groups.{half}
use Rattle.rows.specs.Order.{top_row}

-- so many paths from the place first on
pub record Range : Type 0 where
  pub first : ℕ
  pub len : ℕ

abbrev pub range : ℕ → ℕ → Range
range f m = record { first = f; len = m }

-- the place behind its last path
abbrev pub end_of : Range → ℕ
end_of x = x.first + x.len

-- it splits into the first half (rounded up) and the rest
abbrev pub first_half : Range → Range
first_half x = range x.first (half x.len)

abbrev pub second_half : Range → Range
second_half x = range (x.first + half x.len) (x.len - half x.len)

-- its row in its task's stretch
abbrev pub row_of : Range → ℕ
row_of x = 2 * x.first + top_row x.len

-- where its row begins, in rows of d cells and a stretch that begins at root
unfoldable pub row_start : ℕ → ℕ → Range → ℕ
row_start d root x = root + row_of x * d

-- the length of the rest that begins at s, where the n paths from a on are split; each split halves n, so n turns are enough
abbrev pub rest_by : ℕ → ℕ → ℕ → ℕ → ℕ
rest_by zero a n s = 0
rest_by (suc k) a n s =
    pick (ltb s (a + half n)) (rest_by k a (half n) s)
    (pick (eqb s (a + half n)) (n - half n) (rest_by k (a + half n) (n - half n) s))

unfoldable pub rest_length : ℕ → ℕ → ℕ → ℕ
rest_length a n s = rest_by n a n s
