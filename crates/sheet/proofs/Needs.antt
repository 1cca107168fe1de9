-- What a vertex needs of the areas is small, and what rows 10 and 11 say of it.
use mathlib.Core.Path.{◌≡◌, refl, sym, ap, ◌∙◌}
use Prim.Native.Nat.{ℕ, ◌+◌, ◌*◌, ◌≤◌, ◌<◌}
use native.Mathlib.Omega.{arith}
use native.Mathlib.Nat.{mul-le-mul}
use native.Mathlib.Decide.{dec_lt}
use borrow.Author.Tests.{lt-ltb, le-ltb}
use Rattle.meaning.specs.Bounds.{most_higher, most_paths, largest_d}
use Rattle.meaning.specs.Areas.{rows_for}
use Rattle.kinds.specs.declared.Refusal.TheVariants.{WorkTooShort, WitnessTooShort}
use Rattle.kinds.specs.declared.RefusedAt.{RefusedAt}
use Rattle.sheet.specs.Sheet.{refused_at, area_rows}
use Rattle.std.specs.Prelude.{Result, Ok, Err}

pub need_small : (rows d : ℕ) → rows ≤ rows_for most_paths * most_higher → d ≤ largest_d → rows * d ≤ rows_for most_paths * most_higher * largest_d
need_small rows d a b = mul-le-mul a b

pub cells_small : (h d : ℕ) → h ≤ most_higher → d ≤ largest_d → h * (1 + d) ≤ most_higher * (1 + largest_d)
cells_small h d a b = let short : 1 + d ≤ 1 + largest_d = omega arith in mul-le-mul a short

-- the two answers are told apart
place_of : Result (Unit {0}) RefusedAt → ℕ
place_of (Ok x) = 0
place_of (Err at) = 1

pub not_refused : {x : Unit {0}} {at : RefusedAt} → Ok x ≡ Err at → ⊥
unfolding place_of
not_refused q = let z : ◌≡◌ {A = ℕ} 0 1 = ap place_of q in absurd (omega arith)

refusal_in : Result (Unit {0}) RefusedAt → RefusedAt → RefusedAt
refusal_in (Ok x) z = z
refusal_in (Err at) z = at

pub same_at : {x y : RefusedAt} → ◌≡◌ {A = Result (Unit {0}) RefusedAt} (Err x) (Err y) → x ≡ y
unfolding refusal_in
same_at {x} q = ap (λ (r : Result (Unit {0}) RefusedAt). refusal_in r x) q

module _ (need cells work wit : ℕ) where
  pub row_10 : work < need → Err (refused_at WorkTooShort need) ≡ area_rows need cells work wit
  row_10 h = rw (lt-ltb work need h) refl

  pub row_11 : need ≤ work → wit < cells → Err (refused_at WitnessTooShort cells) ≡ area_rows need cells work wit
  row_11 h l = rw (le-ltb work need h, lt-ltb wit cells l) refl

  pub rows_passed : need ≤ work → cells ≤ wit → Ok tt ≡ area_rows need cells work wit
  rows_passed h l = rw (le-ltb work need h, le-ltb wit cells l) refl

  -- where neither row holds, the areas suffice
  pub area_rooms : area_rows need cells work wit ≡ Ok tt → (need ≤ work) × (cells ≤ wit)
  area_rooms q = by (dec_lt work need) (dec_lt wit cells)
    where
      by : Dec (work < need) → Dec (wit < cells) → (need ≤ work) × (cells ≤ wit)
      by (yes h) x = absurd (not_refused (sym (row_10 h ∙ q)))
      by (no h) (yes l) = absurd (not_refused (sym (row_11 (omega arith) l ∙ q)))
      by (no h) (no l) = (omega arith, omega arith)
