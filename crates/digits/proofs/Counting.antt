-- The digits of a line, counted pair by pair from a place in the text.
use mathlib.Core.Path.{◌≡◌, refl, sym, ap, ◌∙◌}
use Prim.Native.Nat.{ℕ, zero, suc, ◌+◌, ◌-◌, ◌≤◌, ◌<◌}
use native.Mathlib.Omega.{arith}
use mathlib.Core.Option.{Option, none, some}
use mathlib.Core.List.{List, [], ◌∷◌}
use lib.ListN.{length, get_or, drop, drop_of_length-le}
use lib.Seq.{drop-cons}
use borrow.Author.Tests.{ne_eqb}
use Rattle.meaning.specs.Text.{line_feed, byte_with}
use Rattle.std.specs.Prelude.{Some, None}
use Rattle.digits.specs.Digits.{worth_of, frame_at, digit_count, some_digits}
use Rattle.digits.proofs.Worths.{digit-none, digit_some}
use Rattle.digits.proofs.Spelled.{frame_feed, byte_none}

-- a number of digits, and none
pub some_number : {n m : ℕ} → n ≡ m → (n ≡ 0 → ⊥) → Some n ≡ some_digits m
some_number {n = zero} e h = absurd (h refl)
some_number {n = suc n} e h = ap some_digits e

pub no_number : {m : ℕ} → 0 ≡ m → None ≡ some_digits m
no_number e = ap some_digits e

-- the number behind what is given
pub number_of : (m : ℕ) {n : ℕ} → Some n ≡ some_digits m → (m ≡ n) × (0 < n)
number_of zero e = absurd (let k : ◌≡◌ {A = ℕ} 0 1 = cc in omega arith)
number_of (suc m) {n} e = let k : n ≡ suc m = cc in (sym k, omega arith)

pub none_of : (m : ℕ) → None ≡ some_digits m → m ≡ 0
none_of zero e = refl
none_of (suc m) e = absurd (let k : ◌≡◌ {A = ℕ} 0 1 = cc in omega arith)

more_count : (i x y : ℕ) (o : Option (List ℕ)) → digit_count (i + 2) o ≡ digit_count i (byte_with (some x) (some y) o)
more_count i x y none = refl
more_count i x y (some f) = omega arith

-- before the pair at i: counting on from there gives the whole line's digits
pub record Counted (s : List ℕ) (i : ℕ) : Type 0 where
  pub inside : i ≤ length s
  pub going : digit_count i (frame_at (drop i s)) ≡ digit_count 0 (frame_at s)

pub count_first : (s : List ℕ) → Counted s 0
count_first s = record { inside = omega arith; going = refl }

module _ {s : List ℕ} {i : ℕ} (counted : Counted s i) where
  abbrev high : ℕ
  high = get_or s i 0

  abbrev low : ℕ
  low = get_or s (i + 1) 0

  pub count_end : length s ≤ i → 0 ≡ digit_count 0 (frame_at s)
  count_end h = rw (← counted.going, drop_of_length-le s h)

  module _ (more : i < length s) where
    pub count_feed : high ≡ line_feed → i ≡ digit_count 0 (frame_at s)
    count_feed e =
        let d : drop i s ≡ line_feed ∷ drop (suc i) s = drop-cons s i 0 more ∙ ap (λ (z : ℕ). z ∷ drop (suc i) s) e in
        rw (← counted.going, d, frame_feed (drop (suc i) s)) (omega arith)

    module _ (n : high ≡ line_feed → ⊥) where
      pub count_one : length s - i ≡ 1 → 0 ≡ digit_count 0 (frame_at s)
      count_one l =
          let k : length s ≤ suc i = omega arith in
          let d : drop i s ≡ high ∷ [] = drop-cons s i 0 more ∙ ap (λ (z : List ℕ). high ∷ z) (drop_of_length-le s k) in
          sym (simp (d, ne_eqb high line_feed n)) ∙ counted.going

      module _ (pairs : length s - i ≡ 1 → ⊥) where
        both_there : i + 1 < length s
        both_there = omega arith

        two : drop i s ≡ high ∷ low ∷ drop (i + 2) s
        two =
            let p : drop (suc i) s ≡ get_or s (suc i) 0 ∷ drop (suc (suc i)) s = drop-cons s (suc i) 0 (omega (arith, both_there)) in
            let q : suc i ≡ i + 1 = omega arith in
            let r : suc (suc i) ≡ i + 2 = omega arith in
            drop-cons s i 0 more ∙ ap (λ (z : List ℕ). high ∷ z) (p ∙ rw (r, q))

        pub count_high : {v : ℕ} → v ≡ worth_of high → 15 < v → 0 ≡ digit_count 0 (frame_at s)
        count_high {v} e l =
            let w : 15 < worth_of high = omega arith in
            sym (simp (two, ne_eqb high line_feed n, digit-none high w)) ∙ counted.going

        pub count_low : {v : ℕ} → v ≡ worth_of low → 15 < v → 0 ≡ digit_count 0 (frame_at s)
        count_low {v} e l =
            let w : 15 < worth_of low = omega arith in
            sym (simp (two, ne_eqb high line_feed n, digit-none low w, byte_none)) ∙ counted.going

        pub count_more : {v w : ℕ} → v ≡ worth_of high → v ≤ 15 → w ≡ worth_of low → w ≤ 15 → Counted s (i + 2)
        count_more {v} {w} e l f m =
            let x : worth_of high < 16 = omega arith in
            let y : worth_of low < 16 = omega arith in
            let rest = frame_at (drop (i + 2) s) in
            let same : digit_count (i + 2) rest ≡ digit_count i (frame_at (drop i s)) =
            simp (two, ne_eqb high line_feed n, digit_some high x, digit_some low y) (more_count i (worth_of high) (worth_of low) rest) in
            record { inside = omega (arith, both_there); going = same ∙ counted.going }
