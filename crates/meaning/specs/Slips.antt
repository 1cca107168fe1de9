-- A job longer than its own deadline: which rows refuse a line, and which lines 13 refuses. `proofs/Slips` proves it.
use Rattle.std.specs.Prelude.{◌≡◌, ℕ, zero, suc, ◌-◌, ◌≤◌, ◌<◌, ◌⊎◌, List, [], ◌∷◌, length, get_or, take, T}
use Rattle.std.proofs.Math.Option.{Option, none, some}
use Rattle.meaning.specs.Bounds.{largest_e, largest_d, largest_p}
use Rattle.meaning.specs.Table.{Table}
use Rattle.meaning.specs.Text.{lines_of, frame_of, is_frame, word, within, readable, unreadable, read}

-- a row of the sheet from the one number to the other, or 13
abbrev pub LineRow : ℕ → ℕ → ℕ → Type 0
LineRow low high k = ((low ≤ k) × (k ≤ high)) ⊎ (k ≡ 13)

-- ---- a vertex whose e exceeds its d

-- with both within their bounds
pub record TooLong (e d : ℕ) : Type 0 where
  pub most_e : e ≤ largest_e
  pub some_d : 1 ≤ d
  pub most_d : d ≤ largest_d
  pub over : d < e

-- a vertex's frame, of a plain task, or of a ring or a gear table
abbrev pub IsVertex : List ℕ → Type 0
IsVertex f = T (is_frame 2 5 f) ⊎ T (is_frame 6 7 f)

-- such a frame, of which no number is outside its bounds, and e exceeds d
pub record Slip (f : List ℕ) : Type 0 where
  pub frame : T (is_frame 2 5 f) ⊎ (T (is_frame 6 7 f) × T (within 1 largest_p (word f 5)))
  pub job : TooLong (word f 1) (word f 3)

-- ---- in a text

-- the frame at a place, if there is one: of lines, `frame` gives the frame of each
abbrev pub frame_in : {X : Type 0} → (X → Option (List ℕ)) → List X → ℕ → Option (List ℕ)
frame_in frame [] j = none
frame_in frame (x ∷ xs) zero = frame x
frame_in frame (x ∷ xs) (suc j) = frame_in frame xs j

-- that of line n of a text, counted from 1
abbrev pub frame_on : List ℕ → ℕ → Option (List ℕ)
frame_on text n = frame_in frame_of (lines_of text) (n - 1)

-- "Refuse it [..]: number 13, at the vertex's line, when e exceeds d, after 3, before 4 and before wish 3's test of m": no text is read in which some
-- vertex's e exceeds its d; 13 names only a line in which it does, with no number outside its bounds; and a refusal that names such a line is 13, but for
-- 2, where its kind of frame may not stand, and 7, behind the end.
pub record SlipRefused : Type 0 where
  pub never_read : (text f : List ℕ) (n : ℕ) (ts : Table) → frame_on text n ≡ some f → IsVertex f → word f 3 < word f 1 → read text ≡ readable ts → ⊥
  pub only_slips : (text : List ℕ) (n : ℕ) → read text ≡ unreadable 13 n → (f : List ℕ) × (frame_on text n ≡ some f) × Slip f
  pub slip_number : (text f : List ℕ) (k n : ℕ) → frame_on text n ≡ some f → Slip f → read text ≡ unreadable k n → (k ≡ 13) ⊎ (k ≡ 2) ⊎ (k ≡ 7)
  -- where the lines before it lack only an end, the text is refused at this line
  pub at-line : (text before f : List ℕ) (n : ℕ) → frame_on text n ≡ some f → Slip f → lines_of before ≡ take (n - 1) (lines_of text)
      → read before ≡ unreadable 6 n → (read text ≡ unreadable 13 n) ⊎ (read text ≡ unreadable 2 n)
  -- 2 is said of a frame's kind and length alone, after the same lines
  pub two-first : (text other f g : List ℕ) (n : ℕ) → frame_on text n ≡ some f → frame_on other n ≡ some g → get_or g 0 0 ≡ get_or f 0 0 → length g ≡ length f
      → take (n - 1) (lines_of other) ≡ take (n - 1) (lines_of text) → read text ≡ unreadable 2 n → read other ≡ unreadable 2 n
