-- The front of a row, and what is stored over it.
use mathlib.Core.Path.{◌≡◌, refl, sym, ap, ap₂, ◌∙◌}
use Prim.Native.Nat.{ℕ, suc, ◌+◌, ◌-◌, ◌≤◌}
use native.Mathlib.Nat.{add-zero}
use native.Mathlib.Omega.{arith}
use mathlib.Core.List.{List, [], ◌∷◌, ◌++◌}
use lib.ListN.{length, take, drop, set, length-append, take-append-drop}
use lib.Seq.{sets, sets-eq, set-set, slice, slice_empty, length-slice, length-take-le, take-take, take_at, drop_at, paste}
use Rattle.meaning.proofs.Lists.{drop-take}
use Rattle.meaning.proofs.Stores.{set-sets, sets-take}
use Rattle.meaning.proofs.Wrote.{sets-append}
use Rattle.loads.specs.Rows.{Copied}

pub take_less : (m n : ℕ) (l k : List ℕ) → m ≤ n → take n l ≡ take n k → take m l ≡ take m k
take_less m n l k h e = sym (take-take m n l h) ∙ ap (take m) e ∙ take-take m n k h

pub length_front : (l : List ℕ) (a n : ℕ) → a + n ≤ length l → length (slice a (a + n) l) ≡ n
length_front l a n h = omega (arith, length-slice a (a + n) l h)

pub front-none : (l : List ℕ) (a : ℕ) → slice a (a + 0) l ≡ []
front-none l a = ap (λ (m : ℕ). slice a m l) (add-zero a) ∙ slice_empty a l

-- storing what is there changes nothing
pub sets_same : (l : List ℕ) (a n : ℕ) → a + n ≤ length l → l ≡ sets l a (slice a (a + n) l)
sets_same l a n h =
    let x = slice a (a + n) l in
    let z : a + length x ≡ a + n = omega (arith, length_front l a n h) in
    sym
    (sets-eq x l a (omega arith)
    ∙ ap₂ (λ (w : List ℕ) (m : ℕ). w ++ x ++ drop m l) (sym (take-take a (a + n) l (omega arith))) z
    ∙ ap (λ (w : List ℕ). w ++ drop (a + n) l) (take-append-drop a (take (a + n) l))
    ∙ take-append-drop (a + n) l)

sets_again : (l : List ℕ) (a : ℕ) (xs : List ℕ) → sets (sets l a xs) a xs ≡ sets l a xs
sets_again l a [] = refl
sets_again l a (x ∷ xs) =
    ap (λ (w : List ℕ). sets w (suc a) xs)
    (set-sets xs (set l a x) (suc a) a x (omega arith) ∙ ap (λ (w : List ℕ). sets w (suc a) xs) (set-set l a x x))
    ∙ sets_again (set l a x) (suc a) xs

-- a front is forgotten where a row that begins with it is stored over it
pub sets_over : (l : List ℕ) (a : ℕ) (xs ys : List ℕ) → sets (sets l a xs) a (xs ++ ys) ≡ sets l a (xs ++ ys)
sets_over l a xs ys =
    sets-append (sets l a xs) a xs ys ∙ ap (λ (w : List ℕ). sets w (a + length xs) ys) (sets_again l a xs) ∙ sym (sets-append l a xs ys)

-- what is stored is there
pub front-stored : (l : List ℕ) (a n : ℕ) (xs : List ℕ) → length xs ≡ n → a + n ≤ length l → slice a (a + n) (sets l a xs) ≡ xs
front-stored l a n xs e h =
    let t : length (take a l) ≡ a = length-take-le a l (omega arith) in
    ap (slice a (a + n)) (sets-eq xs l a (omega arith))
    ∙ ap (drop a) (take_at (take a l ++ xs) (drop (a + length xs) l) (a + n) (omega (arith, length-append (take a l) xs)))
    ∙ drop_at (take a l) xs a t

-- a front stored at `to`, and the cells behind it
pub front_more : (l : List ℕ) (a n to : ℕ) (xs : List ℕ) {m k : List ℕ} → a + n ≤ length l → m ≡ sets l to (slice a (a + n) l) → k ≡ sets m (to + n) xs
    → k ≡ sets l to (slice a (a + n) l ++ xs)
front_more l a n to xs h em ek =
    ek ∙ ap₂ (λ (w : List ℕ) (j : ℕ). sets w (to + j) xs) em (sym (length_front l a n h)) ∙ sym (sets-append l to (slice a (a + n) l) xs)

-- ---- `copy_front`

pub copied_here : (P : List ℕ) (row n to : ℕ) → to ≡ row → to + n ≤ length P → Copied P row n to P
copied_here P row n to e h =
    record { cells = sets_same P row n (omega arith) ∙ ap (λ (a : ℕ). sets P a (slice row (row + n) P)) (sym e); kept = refl }

-- what is read stands before what is written
pub copied_behind : (P : List ℕ) (row n to w : ℕ) → w ≡ n → row + n ≤ to → to + n ≤ length P
    → (Q : List ℕ) → Q ≡ paste P to (drop row P) (row + w - row) → Copied P row n to Q
copied_behind P row n to w e apart h Q q =
    let s = slice row (row + n) P in
    let z : row + w - row ≡ row + n - row = omega arith in
    let l : n ≡ length s = sym (length_front P row n (omega arith)) in
    let n' : row + n - row ≡ length s = omega arith in
    let c : Q ≡ sets P to s =
    q ∙ ap (paste P to (drop row P)) z
    ∙ ap₂ (λ (y : List ℕ) (m : ℕ). take to P ++ y ++ drop (to + m) P) (sym (drop-take row (row + n) P)) n'
    ∙ sym (sets-eq s P to (omega arith)) in
    record { cells = c; kept = ap (take (row + n)) c ∙ sets-take s P (row + n) to apart }
