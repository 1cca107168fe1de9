-- Stores one after another.
use mathlib.Core.Path.{◌≡◌, refl, sym, ap, ap₂, ◌∙◌}
use Prim.Native.Nat.{ℕ, suc, ◌+◌, ◌-◌, ◌≤◌, ◌<◌}
use native.Mathlib.Numerals.{add-one}
use native.Mathlib.Nat.{zero-add}
use native.Mathlib.Omega.{arith}
use mathlib.Core.List.{List, [], ◌∷◌, ◌++◌}
use lib.ListN.{length, get_or, take, drop, set, replicate, length-replicate, replicate-append-replicate}
use lib.Seq.{sets, length-take-le, take-suc, set_comm, get_or-set_other, drop-set-add, take-set-le}
use Rattle.meaning.proofs.Wrote.{sets-append}

sets_snoc : (vs l : List ℕ) (i v : ℕ) → sets l i (vs ++ (v ∷ [])) ≡ set (sets l i vs) (i + length vs) v
sets_snoc vs l i v = sets-append l i vs (v ∷ [])

pub run_more : (l m : List ℕ) (a i x : ℕ) → a ≤ i → m ≡ sets l a (replicate (i - a) x) → set m i x ≡ sets l a (replicate (i + 1 - a) x)
run_more l m a i x h e =
    let z : a + length (replicate (i - a) x) ≡ i = omega (arith, length-replicate (i - a) x) in
    let y : i - a + 1 ≡ i + 1 - a = omega arith in
    ap (λ (w : List ℕ). set w i x) e
    ∙ ap (λ (n : ℕ). set (sets l a (replicate (i - a) x)) n x) (sym z)
    ∙ sym (sets_snoc (replicate (i - a) x) l a x)
    ∙ ap (sets l a) (replicate-append-replicate (i - a) 1 x ∙ ap (λ (n : ℕ). replicate n x) y)

pub copy_more : (l m s : List ℕ) (at t : ℕ) → t < length s → m ≡ sets l at (take t s) → set m (at + t) (get_or s t 0) ≡ sets l at (take (t + 1) s)
copy_more l m s at t h e =
    let z : length (take t s) ≡ t = length-take-le t s (omega arith) in
    ap (λ (w : List ℕ). set w (at + t) (get_or s t 0)) e
    ∙ ap (λ (n : ℕ). set (sets l at (take t s)) (at + n) (get_or s t 0)) (sym z)
    ∙ sym (sets_snoc (take t s) l at (get_or s t 0))
    ∙ ap (sets l at) (sym (take-suc s t 0 h) ∙ ap (λ (n : ℕ). take n s) (sym (add-one t)))

pub col_more : (Z m s : List ℕ) (t x : ℕ) → t < length s → m ≡ sets Z 0 (take t s) → x ≡ get_or s t 0 → set m t x ≡ sets Z 0 (take (t + 1) s)
col_more Z m s t x h e q = ap₂ (λ (a b : ℕ). set m a b) (sym (zero-add t)) q ∙ copy_more Z m s 0 t h e

-- ---- cells outside the stores

pub set-sets : (vs l : List ℕ) (i j v : ℕ) → j < i → set (sets l i vs) j v ≡ sets (set l j v) i vs
set-sets [] l i j v h = refl
set-sets (a ∷ vs) l i j v h = set-sets vs (set l i a) (suc i) j v (omega arith) ∙ ap (λ (w : List ℕ). sets w (suc i) vs) (set_comm l i j a v (λ q. omega arith))

pub sets-before : (vs l : List ℕ) (i j : ℕ) → j < i → get_or (sets l i vs) j 0 ≡ get_or l j 0
sets-before [] l i j h = refl
sets-before (a ∷ vs) l i j h = sets-before vs (set l i a) (suc i) j (omega arith) ∙ get_or-set_other l i j a 0 (λ q. omega arith)

pub sets_after : (vs l : List ℕ) (i j : ℕ) → i + length vs ≤ j → get_or (sets l i vs) j 0 ≡ get_or l j 0
sets_after [] l i j h = refl
sets_after (a ∷ vs) l i j h = sets_after vs (set l i a) (suc i) j (omega arith) ∙ get_or-set_other l i j a 0 (λ q. omega arith)

pub sets-drop : (vs l : List ℕ) (s i : ℕ) → drop s (sets l (s + i) vs) ≡ sets (drop s l) i vs
sets-drop [] l s i = refl
sets-drop (a ∷ vs) l s i =
    let z : suc (s + i) ≡ s + suc i = omega arith in
    ap (λ (n : ℕ). drop s (sets (set l (s + i) a) n vs)) z ∙ sets-drop vs (set l (s + i) a) s (suc i)
    ∙ ap (λ (w : List ℕ). sets w (suc i) vs) (drop-set-add s l i a)

pub sets-take : (vs l : List ℕ) (d i : ℕ) → d ≤ i → take d (sets l i vs) ≡ take d l
sets-take [] l d i h = refl
sets-take (a ∷ vs) l d i h = sets-take vs (set l i a) d (suc i) (omega arith) ∙ take-set-le d l i a h
