-- The bytes of a line by their places in the text.
use mathlib.Core.Path.{◌≡◌, refl, sym, ap, subst, ◌∙◌}
use Prim.Native.Nat.{ℕ, zero, suc, ◌+◌, ◌*◌, ◌<◌}
use native.Mathlib.Omega.{arith}
use mathlib.Core.List.{List, [], ◌∷◌}
use lib.ListN.{length, get_or, drop}
use Rattle.meaning.specs.Text.{line_feed}
use Rattle.digits.specs.Digits.{foreign_worth, worth_of, pair_at}
use Rattle.digits.proofs.Worths.{below_foreign}
use Rattle.digits.proofs.Spelled.{Spelled, feed, pair}

-- m bytes from place i on
abbrev pub pairs_at : List ℕ → ℕ → ℕ → List ℕ
pairs_at t i zero = []
pairs_at t i (suc m) = pair_at t i ∷ pairs_at t (suc (suc i)) m

-- each of them below the worth of a foreign byte
abbrev pub Small : List ℕ → Type 0
Small [] = Unit {0}
Small (b ∷ bs) = (b < foreign_worth) × Small bs

pairs_behind : (h l : ℕ) (t : List ℕ) (i m : ℕ) → pairs_at (h ∷ l ∷ t) (suc (suc i)) m ≡ pairs_at t i m
pairs_behind h l t i zero = refl
pairs_behind h l t i (suc m) =
    let o : suc (suc i) + 1 ≡ suc (suc (i + 1)) = omega arith in
    rw (o, pairs_behind h l t (suc (suc i)) m)

pub record Bytes (t f : List ℕ) : Type 0 where
  pub long : 2 * length f < length t
  pub fed : get_or t (2 * length f) 0 ≡ line_feed
  pub bytes : f ≡ pairs_at t 0 (length f)

pub bytes_of : {t f r : List ℕ} → Spelled t f r → Bytes t f
bytes_of feed = record { long = omega arith; fed = refl; bytes = refl }
bytes_of (pair {h} {l} {t} {f} p q z) =
    let b : Bytes t f = bytes_of z in
    let o : 2 * suc (length f) ≡ suc (suc (2 * length f)) = omega arith in
    record {
      long = omega (arith, b.long);
      fed = rw o b.fed;
      bytes = ap (λ (g : List ℕ). (worth_of h * 16 + worth_of l) ∷ g) (b.bytes ∙ sym (pairs_behind h l t 0 (length f)));
    }

-- the frame of a line whose pairs are bytes
pub spelled_of : (m : ℕ) (t : List ℕ) → 2 * m < length t → get_or t (2 * m) 0 ≡ line_feed → Small (pairs_at t 0 m)
    → Spelled t (pairs_at t 0 m) (drop (suc (2 * m)) t)
spelled_of m [] long e h = absurd (omega arith)
spelled_of zero (a ∷ t) long e h = subst (λ (z : ℕ). Spelled (z ∷ t) [] t) (sym e) feed
spelled_of (suc m) (a ∷ []) long e h = absurd (omega arith)
spelled_of (suc m) (a ∷ b ∷ t) long e h =
    let o : 2 * suc m ≡ suc (suc (2 * m)) = omega arith in
    let s : pairs_at (a ∷ b ∷ t) 2 m ≡ pairs_at t 0 m = pairs_behind a b t 0 m in
    let k : worth_of a * 16 + worth_of b < foreign_worth = h.0 in
    let z : Spelled t (pairs_at t 0 m) (drop (suc (2 * m)) t) = spelled_of m t (omega arith) (rw o at e) (rw s at h.1) in
    rw (s, o) (pair (below_foreign a (omega arith)) (below_foreign b (omega arith)) z)
