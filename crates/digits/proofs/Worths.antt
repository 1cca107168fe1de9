-- A byte is a digit or foreign, by its worth as by the definition.
use mathlib.Core.Path.{◌≡◌, refl, sym, subst, ◌∙◌}
use Prim.Native.Nat.{ℕ, zero, suc, ◌+◌, ◌-◌, ◌*◌, ◌≤◌, ◌<◌}
use native.Mathlib.Omega.{arith}
use native.Mathlib.Nat.{add-zero, zero-add, add-suc, suc-add}
use mathlib.Core.Bool.{Bool, true, false, ◌&&◌}
use mathlib.Core.Option.{none, some}
use mathlib.Core.List.{List, [], ◌∷◌}
use lib.ListN.{length, get_or}
use lib.Seq.{ext_get_or}
use lib.Dec.{T, leb, ltb, eqb, eqb→eq}
use borrow.Author.Tests.{ltb-true, ltb-false, leb-true, leb-false, le-leb, lt-leb, ne_eqb}
use Rattle.meaning.specs.Text.{line_feed, digit_of}
use Rattle.meaning.proofs.Lists.{both_left, both_right}
use Rattle.digits.specs.Digits.{foreign_worth, AboveBounds, worth_of, Worths, pair_at}

pub foreign_above : AboveBounds foreign_worth
unfolding foreign_worth
foreign_above =
    record {
      digits = omega arith;
      vertices = omega arith;
      edges = omega arith;
      vertex_numbers = omega arith;
      e = omega arith;
      d = omega arith;
      p = omega arith;
      m = omega arith;
      bits = omega arith;
    }

pub data Digit (b : ℕ) : Type 0 where
  digit : worth_of b < 16 → 48 ≤ b → (worth_of b < 10 → b ≡ worth_of b + 48) → digit_of b ≡ some (worth_of b) → Digit b
  foreign : worth_of b ≡ foreign_worth → digit_of b ≡ none → Digit b

digit_or_foreign : (b : ℕ) → Digit b
unfolding worth_of
digit_or_foreign b = go (ltb b 48) refl (leb b 57) refl (ltb b 97) refl (leb b 102) refl
  where
    low : worth_of b ≡ b - 48 → 48 ≤ b → b ≤ 57 → digit_of b ≡ some (b - 48) → Digit b
    low e p q f = digit (omega arith) p (λ h. omega arith) (rw e f)

    high : worth_of b ≡ b - 87 → 97 ≤ b → b ≤ 102 → digit_of b ≡ some (b - 87) → Digit b
    high e p q f = digit (omega arith) (omega arith) (λ h. absurd (omega arith)) (rw e f)

    go : (p : Bool) → ltb b 48 ≡ p → (q : Bool) → leb b 57 ≡ q → (u : Bool) → ltb b 97 ≡ u → (v : Bool) → leb b 102 ≡ v → Digit b
    go true e q f u g v h =
        let k : b < 48 = ltb-true _ _ e in
        foreign (simp e) (simp (lt-leb 48 b (omega arith), lt-leb 97 b (omega arith)))
    go false e true f u g v h =
        let k : 48 ≤ b = ltb-false _ _ e in
        low (simp (e, f)) k (leb-true _ _ f) (simp (le-leb 48 b k, f))
    go false e false f true g v h =
        let l : 57 < b = leb-false _ _ f in
        let m : b < 97 = ltb-true _ _ g in
        foreign (simp (e, f, g)) (simp (le-leb 48 b (omega arith), f, lt-leb 97 b (omega arith)))
    go false e false f false g true h =
        let m : 97 ≤ b = ltb-false _ _ g in
        high (simp (e, f, g, h)) m (leb-true _ _ h) (simp (le-leb 48 b (omega arith), f, le-leb 97 b m, h))
    go false e false f false g false h =
        let m : 97 ≤ b = ltb-false _ _ g in
        foreign (simp (e, f, g, h)) (simp (le-leb 48 b (omega arith), f, le-leb 97 b m, h))

pub below_foreign : (b : ℕ) → worth_of b < foreign_worth → worth_of b < 16
below_foreign b k = elim (digit_or_foreign b) [ digit l p q f ↦ l | foreign e f ↦ absurd (omega arith) ]

pub worth_most : (b : ℕ) → worth_of b ≤ foreign_worth
worth_most b = elim (digit_or_foreign b) [ digit l p q f ↦ omega (arith, foreign_above.digits) | foreign e f ↦ omega arith ]

pub pair_most : (t : List ℕ) (i : ℕ) → pair_at t i ≤ 17 * foreign_worth
pair_most t i = omega (arith, worth_most (get_or t i 0), worth_most (get_or t (i + 1) 0))

pub not_feed : (b : ℕ) → worth_of b < 16 → eqb b line_feed ≡ false
not_feed b k = elim (digit_or_foreign b) [ digit l p q f ↦ ne_eqb b line_feed (λ z. omega arith) | foreign e f ↦ absurd (omega (arith, foreign_above.digits)) ]

pub digit_some : (b : ℕ) → worth_of b < 16 → digit_of b ≡ some (worth_of b)
digit_some b k = elim (digit_or_foreign b) [ digit l p q f ↦ f | foreign e f ↦ absurd (omega (arith, foreign_above.digits)) ]

pub digit-none : (b : ℕ) → 15 < worth_of b → digit_of b ≡ none
digit-none b k = elim (digit_or_foreign b) [ digit l p q f ↦ absurd (omega arith) | foreign e f ↦ f ]

-- the digits up to 9 stand in a row
pub is_low : (b v : ℕ) → worth_of b ≡ v → v < 10 → b ≡ v + 48
is_low b v k l = elim (digit_or_foreign b) [ digit m p q f ↦ omega (arith, q (omega arith)) | foreign e f ↦ absurd (omega (arith, foreign_above.digits)) ]

pub worth_low : (v : ℕ) → v < 10 → worth_of (v + 48) ≡ v
unfolding worth_of
worth_low v h =
    let a : 48 ≤ v + 48 = omega arith in
    simp (le-leb (v + 48) 57 (omega arith), below) (omega arith)
  where
    below : ltb (v + 48) 48 ≡ false
    below = go (ltb (v + 48) 48) refl
      where
        go : (x : Bool) → ltb (v + 48) 48 ≡ x → ltb (v + 48) 48 ≡ false
        go false e = e
        go true e = absurd (omega (arith, ltb-true (v + 48) 48 e))

-- ---- a table of worths: a test at each entry, which antt computes

abbrev every : (ℕ → ℕ → Bool) → ℕ → List ℕ → Bool
every f i [] = true
every f i (x ∷ xs) = f i x && every f (suc i) xs

every-at : (f : ℕ → ℕ → Bool) (xs : List ℕ) (i : ℕ) → T (every f i xs) → (k : ℕ) → k < length xs → T (f (i + k) (get_or xs k 0))
every-at f [] i t k h = absurd (omega arith)
every-at f (x ∷ xs) i t zero h = subst (λ (m : ℕ). T (f m x)) (sym (add-zero i)) (both_left (f i x) (every f (suc i) xs) t)
every-at f (x ∷ xs) i t (suc k) h =
    subst (λ (m : ℕ). T (f m (get_or xs k 0))) (suc-add i k ∙ sym (add-suc i k))
    (every-at f xs (suc i) (both_right (f i x) (every f (suc i) xs) t) k (omega arith))

unfoldable pub right_at : ℕ → ℕ → Bool
right_at b x = eqb x (worth_of b)

unfoldable pub all_right : List ℕ → Bool
all_right ws = every right_at 0 ws

pub worths_right : (ws : List ℕ) → length ws ≡ 256 → T (all_right ws) → Worths ws
unfolding all_right right_at
worths_right ws l t =
    record {
      each = l;
      right = λ b h. eqb→eq (get_or ws b 0) (worth_of b) (subst (λ (m : ℕ). T (right_at m (get_or ws b 0))) (zero-add b) (every-at right_at ws 0 t b (omega arith)));
    }

-- ---- there is only one such table

pub worths_settled : (ws vs : List ℕ) → Worths ws → Worths vs → ws ≡ vs
worths_settled ws vs p q = ext_get_or 0 ws vs (p.each ∙ sym q.each) (λ i l. p.right i (omega (arith, p.each)) ∙ sym (q.right i (omega (arith, p.each))))
