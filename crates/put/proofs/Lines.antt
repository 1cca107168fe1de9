-- Writing into a lent area: a byte's digits, the bytes in turn, the line feed behind them.
use mathlib.Core.Path.{◌≡◌, refl, ap, ap₂, ◌∙◌}
use Prim.Native.Nat.{ℕ, ◌+◌, ◌*◌, ◌/◌, ◌%◌, ◌<◌}
use native.Mathlib.Nat.{zero-add}
use native.Mathlib.Numerals.{add-one}
use native.Mathlib.Omega.{arith}
use mathlib.Core.List.{List, [], ◌∷◌}
use lib.ListN.{length, set, get_or}
use Rattle.meaning.specs.Lists.{gather}
use Rattle.meaning.specs.Text.{digit, digits}
use Rattle.meaning.specs.Areas.{Wrote}
use Rattle.meaning.specs.Writing.{in_two}
use Rattle.meaning.proofs.Lists.{count_at}
use Rattle.std.specs.Int.{w16, to_be_bytes}
use Rattle.put.specs.Put.{digits_in_order}

digit_at : (order : List ℕ) (n : ℕ) → order ≡ digits_in_order → n < 16 → get_or order n 0 ≡ digit n
digit_at order n e h = ap (λ (l : List ℕ). get_or l n 0) e ∙ count_at digit 0 0 16 n h ∙ ap digit (zero-add n)

-- two stores
pub wrote_byte : (order out : List ℕ) (at b : ℕ) → order ≡ digits_in_order → b < 256
    → Wrote (digits b) out at (set (set out at (get_or order (b / 16) 0)) (at + 1) (get_or order (b % 16) 0)) (at + 2)
wrote_byte order out at b e h =
    record {
      cells =
          ap₂ (λ (x y : ℕ). set (set out at x) (at + 1) y) (digit_at order (b / 16) e (omega arith)) (digit_at order (b % 16) e (omega arith))
          ∙ ap (λ (k : ℕ). set (set out at (digit (b / 16))) k (digit (b % 16))) (add-one at);
      end = refl;
    }

-- two digits a byte
pub low_size : {X : Type 0} (low : X → ℕ) (xs : List X) → length (gather (λ (x : X). digits (low x)) xs) ≡ 2 * length xs
low_size low [] = refl
low_size low (x ∷ xs) = omega (arith, low_size low xs)

-- the code's two bytes of a number are the definition's
pub two_bytes : (n : ℕ) → n < 65536 → to_be_bytes w16 n ≡ in_two n
two_bytes n h = let e : n / 256 % 256 ≡ n / 256 = omega arith in ap (λ (high : ℕ). high ∷ n % 256 ∷ []) e
