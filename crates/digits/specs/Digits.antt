-- Digits by their worth, and the numbers that stand at a place of a text.
use Rattle.std.specs.Prelude.{◌≡◌, ℕ, zero, suc, ◌+◌, ◌-◌, ◌*◌, ◌≤◌, ◌<◌, List, [], ◌∷◌, length, get_or, leb, ltb, eqb, Some, None}
use Rattle.std.specs.Prelude as Std
use Rattle.std.proofs.Math.Option.{Option, none, some}
use Rattle.meaning.specs.Lists.{pick}
use Rattle.meaning.specs.Bounds.{most_vertices, most_edges, largest_e, largest_d, largest_p, largest_m}
use Rattle.meaning.specs.Text.{line_feed, digit_of, byte_with}

-- the worth of a byte that is no digit: the largest number of 16 bits
unfoldable pub foreign_worth : ℕ
foreign_worth = 65535

-- a worth above every bound that a number of a frame is held to, so that a number with such a byte in it fails the test
pub record AboveBounds (w : ℕ) : Type 0 where
  pub digits : 15 < w
  pub vertices : most_vertices < w
  pub edges : most_edges < w
  pub vertex_numbers : most_vertices ≤ w
  pub e : largest_e < w
  pub d : largest_d < w
  pub p : largest_p < w
  pub m : largest_m < w
  pub bits : w < 65536

-- what a byte is worth as a digit 0-9a-f
unfoldable pub worth_of : ℕ → ℕ
worth_of b =
    pick (ltb b 48) foreign_worth
    (pick (leb b 57) (b - 48)
    (pick (ltb b 97) foreign_worth
    (pick (leb b 102) (b - 87) foreign_worth)))

-- a table of all worths, one for each byte
pub record Worths (ws : List ℕ) : Type 0 where
  pub each : length ws ≡ 256
  pub right : (b : ℕ) → b < 256 → get_or ws b 0 ≡ worth_of b

-- the byte that the two digits at i stand for
abbrev pub pair_at : List ℕ → ℕ → ℕ
pair_at t i = worth_of (get_or t i 0) * 16 + worth_of (get_or t (i + 1) 0)

-- the number that the four digits at i stand for
abbrev pub word_at : List ℕ → ℕ → ℕ
word_at t i = pair_at t i * 256 + pair_at t (i + 2)

-- the bytes of a text's first line, where pairs of digits stand up to its line feed
abbrev pub frame_at : List ℕ → Option (List ℕ)
frame_at [] = none
frame_at (a ∷ []) = pick (eqb a line_feed) (some []) none
frame_at (a ∷ b ∷ t) = pick (eqb a line_feed) (some []) (byte_with (digit_of a) (digit_of b) (frame_at t))

-- the digits of such a line after i others, 0 where there is no such line
abbrev pub digit_count : ℕ → Option (List ℕ) → ℕ
digit_count i none = 0
digit_count i (some f) = i + 2 * length f

-- that number, where there is such a line
abbrev pub some_digits : ℕ → Std.Option ℕ
some_digits zero = None
some_digits (suc n) = Some (suc n)
