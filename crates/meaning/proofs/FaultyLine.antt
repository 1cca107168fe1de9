-- The first faulty line decides: the lines behind it play no part, and cut after a line before it the text lacks only its end.
use mathlib.Core.Path.{◌≡◌, refl, sym, ap, subst, ◌∙◌}
use Prim.Native.Nat.{ℕ, zero, suc, ◌+◌, ◌≤◌, ◌<◌}
use native.Mathlib.Omega.{arith}
use mathlib.Core.Option.{Option}
use mathlib.Core.List.{List, [], ◌∷◌}
use lib.ListN.{length, take}
use Rattle.meaning.specs.Table.{Table}
use Rattle.meaning.specs.Text.{Line, lines_of, frame_of, Begun, nothing, Step, on, over, wrong, step_at, Reading, readable, unreadable, at_end, read_from}
use Rattle.meaning.specs.Text.{frames_from, read}
use Rattle.meaning.specs.Texts.{FirstFaulty}
use Rattle.meaning.proofs.Readable.{frames_step, step_frames, read_step, step_read, read_refused}

pub row_is : {j k i n : ℕ} → unreadable j i ≡ unreadable k n → j ≡ k
row_is e = cc

pub line_is : {j k i n : ℕ} → unreadable j i ≡ unreadable k n → i ≡ n
line_is e = cc

-- ---- no refusal names a line that was read before

abbrev pub From : ℕ → Reading → Type 0
From b (readable ts) = Unit {0}
From b (unreadable k n) = b ≤ n

from_less : (b : ℕ) (r : Reading) → From (suc b) r → From b r
from_less b (readable ts) h = tt
from_less b (unreadable k n) h = omega (arith, h)

end_from : {X : Type 0} (ts : Table) (b : ℕ) (ls : List X) → From b (at_end ts (suc b) ls)
end_from ts b [] = tt
end_from ts b (l ∷ ls) = omega arith

pub from_line : {X : Type 0} (frame : X → Option (List ℕ)) (s : Begun) (b : ℕ) (ls : List X) → From b (frames_from frame s b ls)
from_line frame s b [] = omega arith
from_line {X} frame s b (l ∷ ls) =
    subst (From b) (sym (step_frames frame s b l ls)) (go (λ s'. from_line frame s' (suc b) ls) (step_at s (frame l)))
  where
    go : ((s' : Begun) → From (suc b) (frames_from frame s' (suc b) ls)) → (r : Step) → From b (frames_step frame r b ls)
    go ih (on s') = from_less b (frames_from frame s' (suc b) ls) (ih s')
    go ih (over ts) = end_from ts b ls
    go ih (wrong k) = omega arith

-- a refusal of a frame, and not for want of one or for bytes behind the end, names the line of one of them
pub frame_line : {X : Type 0} (frame : X → Option (List ℕ)) (s : Begun) (n : ℕ) (ls : List X) (k m : ℕ) → frames_from frame s n ls ≡ unreadable k m
    → (6 ≤ k → k ≤ 7 → ⊥) → m < n + length ls
frame_line frame s n [] k m e h = absurd (h (omega (arith, row_is e)) (omega (arith, row_is e)))
frame_line {X} frame s n (l ∷ ls) k m e h = go (step_at s (frame l)) (λ z q. frame_line frame z (suc n) ls k m q h) (sym (step_frames frame s n l ls) ∙ e)
  where
    ended : (ts : Table) (xs : List X) → at_end ts (suc n) xs ≡ unreadable k m → m < n + length (l ∷ ls)
    ended ts [] q = absurd (let z : ◌≡◌ {A = ℕ} 0 1 = cc in omega arith)
    ended ts (x ∷ xs) q = absurd (h (omega (arith, row_is q)) (omega (arith, row_is q)))

    go : (r : Step) → ((z : Begun) → frames_from frame z (suc n) ls ≡ unreadable k m → m < suc n + length ls) → frames_step frame r n ls ≡ unreadable k m
        → m < n + length (l ∷ ls)
    go (on z) ih q = omega (arith, ih z q)
    go (over ts) ih q = ended ts ls q
    go (wrong j) ih q = omega (arith, line_is q)

-- ---- the lines behind the one that is named

-- refused, at line m or before
abbrev By : ℕ → Reading → Type 0
By m (readable ts) = ⊥
By m (unreadable k n) = n ≤ m

by_from : (b : ℕ) (r : Reading) → From (suc b) r → By (b + 0) r → ⊥
by_from b (readable ts) f h = h
by_from b (unreadable k n) f h = omega (arith, f, h)

end_same : (ts : Table) (b j : ℕ) (ls others : List Line) → By (b + j) (at_end ts (suc b) ls) → take j others ≡ take j ls
    → at_end ts (suc b) others ≡ at_end ts (suc b) ls
end_same ts b j [] others h q = absurd h
end_same ts b zero (l ∷ ls) others h q = absurd (omega (arith, h))
end_same ts b (suc j) (l ∷ ls) [] h q = absurd (let z : ◌≡◌ {A = ℕ} 0 1 = cc in omega arith)
end_same ts b (suc j) (l ∷ ls) (o ∷ others) h q = refl

same_from : (s : Begun) (b j : ℕ) (ls others : List Line) → By (b + j) (read_from s b ls) → take (suc j) others ≡ take (suc j) ls
    → read_from s b others ≡ read_from s b ls
same_from s b j [] [] h q = refl
same_from s b j [] (o ∷ others) h q = absurd (let z : ◌≡◌ {A = ℕ} 0 1 = cc in omega arith)
same_from s b j (l ∷ ls) [] h q = absurd (let z : ◌≡◌ {A = ℕ} 0 1 = cc in omega arith)
same_from s b j (l ∷ ls) (o ∷ others) h q =
    let first : o ≡ l = cc in
    let rest : take j others ≡ take j ls = cc in
    ap (λ (x : Line). read_from s b (x ∷ others)) first
    ∙ step_read s b l others
    ∙ go (λ s' i. same_from s' (suc b) i ls others) (step_at s (frame_of l)) j (subst (By (b + j)) (step_read s b l ls) h) rest
    ∙ sym (step_read s b l ls)
  where
    go : ((s' : Begun) (i : ℕ) → By (suc b + i) (read_from s' (suc b) ls) → take (suc i) others ≡ take (suc i) ls
        → read_from s' (suc b) others ≡ read_from s' (suc b) ls)
        → (r : Step) (i : ℕ) → By (b + i) (read_step r b ls) → take i others ≡ take i ls → read_step r b others ≡ read_step r b ls
    go ih (on s') zero k p = absurd (by_from b (read_from s' (suc b) ls) (from_line frame_of s' (suc b) ls) k)
    go ih (on s') (suc i) k p = ih s' i (subst (λ (m : ℕ). By m (read_from s' (suc b) ls)) (omega arith) k) p
    go ih (over ts) i k p = end_same ts b i ls others k p
    go ih (wrong m) i k p = refl

-- ---- cut after m lines

-- refused by a line, or for want of one, at line m or later
abbrev Past : ℕ → Reading → Type 0
Past m (readable ts) = ⊥
Past m (unreadable k n) = (k ≡ 7 → ⊥) × (m ≤ n)

end_past : (ts : Table) (m n : ℕ) (ls : List Line) → Past m (at_end ts n ls) → ⊥
end_past ts m n [] h = h
end_past ts m n (l ∷ ls) h = h.0 refl

cut_from : (s : Begun) (b m : ℕ) (ls : List Line) → Past (b + m) (read_from s b ls) → read_from s b (take m ls) ≡ unreadable 6 (b + m)
cut_from s b zero ls h = ap (unreadable 6) (omega arith)
cut_from s b (suc m) [] h = absurd (omega (arith, h.1))
cut_from s b (suc m) (l ∷ ls) h =
    step_read s b l (take m ls)
    ∙ go (λ s'. cut_from s' (suc b) m ls) (step_at s (frame_of l)) (subst (Past (b + suc m)) (step_read s b l ls) h)
  where
    go : ((s' : Begun) → Past (suc b + m) (read_from s' (suc b) ls) → read_from s' (suc b) (take m ls) ≡ unreadable 6 (suc b + m))
        → (r : Step) → Past (b + suc m) (read_step r b ls) → read_step r b (take m ls) ≡ unreadable 6 (b + suc m)
    go ih (on s') k =
        let more : b + suc m ≡ suc b + m = omega arith in
        ih s' (subst (λ (n : ℕ). Past n (read_from s' (suc b) ls)) more k) ∙ ap (unreadable 6) (sym more)
    go ih (over ts) k = absurd (end_past ts (b + suc m) (suc b) ls k)
    go ih (wrong i) k = absurd (omega (arith, k.1))

-- ---- a whole text

behind : (text other : List ℕ) (k n : ℕ) → read text ≡ unreadable k n → take n (lines_of other) ≡ take n (lines_of text) → read other ≡ unreadable k n
unfolding read
behind text other k zero q p = absurd (omega (arith, (read_refused text k 0 q).1))
behind text other k (suc j) q p =
    let by : By (1 + j) (unreadable k (suc j)) = omega arith in
    same_from nothing 1 j (lines_of text) (lines_of other) (subst (By (1 + j)) (sym q) by) p ∙ q

before : (text other : List ℕ) (k n m : ℕ) → read text ≡ unreadable k n → (k ≡ 7 → ⊥) → m < n → lines_of other ≡ take m (lines_of text)
    → read other ≡ unreadable 6 (suc m)
unfolding read
before text other k n m q line less p =
    let past : Past (1 + m) (unreadable k n) = (line, omega (arith, less)) in
    ap (read_from nothing 1) p ∙ cut_from nothing 1 m (lines_of text) (subst (Past (1 + m)) (sym q) past) ∙ ap (unreadable 6) (omega arith)

pub first_faulty : FirstFaulty
first_faulty = record { behind = behind; before = before }
