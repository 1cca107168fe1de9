-- Zeros from the front on.
use mathlib.Core.Path.{◌≡◌, ap, ◌∙◌}
use Prim.Native.Nat.{ℕ, zero, suc, ◌≤◌, max}
use native.Mathlib.Omega.{arith}
use mathlib.Core.List.{List, [], ◌∷◌, ◌++◌}
use lib.ListN.{length, take, drop, replicate}
use lib.Seq.{length-take-le, drop-nil}
use Rattle.meaning.specs.Areas.{zeroed}

-- a front that was filled with zeros, before what stood behind it
pub front_zeroed : (n : ℕ) (before : List ℕ) → n ≤ length before → (front : List ℕ) → front ≡ replicate (length (take n before)) 0
    → front ++ drop n before ≡ zeroed n before
front_zeroed n before h front e = ap (λ (l : List ℕ). l ++ drop n before) (e ∙ ap (λ (k : ℕ). replicate k 0) (length-take-le n before h))

-- zeros over zeros: the longer front
pub zeroed_twice : (m n : ℕ) (cells : List ℕ) → zeroed m (zeroed n cells) ≡ zeroed (max n m) cells
zeroed_twice zero n cells = let e : n ≡ max n 0 = omega arith in ap (λ (k : ℕ). zeroed k cells) e
zeroed_twice (suc m) zero cells = let e : suc m ≡ max 0 (suc m) = omega arith in ap (λ (k : ℕ). zeroed k cells) e
zeroed_twice (suc m) (suc n) [] =
    let e : suc (max n m) ≡ max (suc n) (suc m) = omega arith in
    let tail = simp drop-nil at (zeroed_twice m n []) in
    ap (λ (l : List ℕ). 0 ∷ l) tail ∙ ap (λ (k : ℕ). zeroed k []) e
zeroed_twice (suc m) (suc n) (x ∷ xs) =
    let e : suc (max n m) ≡ max (suc n) (suc m) = omega arith in
    ap (λ (l : List ℕ). 0 ∷ l) (zeroed_twice m n xs) ∙ ap (λ (k : ℕ). zeroed k (x ∷ xs)) e
