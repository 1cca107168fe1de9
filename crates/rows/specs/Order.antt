-- The ranges that splitting gives, and the order of their rows in a stretch.
use Rattle.std.specs.Prelude.{◌≡◌, ℕ, ◌+◌, ◌-◌, ◌<◌, ltb}
use Rattle.meaning.specs.Lists.{pick}
use Rattle.meaning.specs.Groups.{half}
use Rattle.meaning.specs.Areas.{rows_for}

-- the m paths from place f on are a range in the splitting of the n from place a on
pub data Node : ℕ → ℕ → ℕ → ℕ → Type 0 where
  top : {a n f m : ℕ} → f ≡ a → m ≡ n → Node a n f m
  low : {a n f m : ℕ} → 1 < n → Node a (half n) f m → Node a n f m
  high : {a n f m : ℕ} → 1 < n → Node (a + half n) (n - half n) f m → Node a n f m

-- which of the rows of a range of n paths is its own: those of the first part stand before it
abbrev pub top_row : ℕ → ℕ
top_row n = pick (ltb 1 n) (rows_for (half n)) 0
