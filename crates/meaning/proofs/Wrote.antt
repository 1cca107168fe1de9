-- Writing into a lent area, one run of cells after the other.
use mathlib.Core.Path.{◌≡◌, refl, sym, ap, ap₂, subst, ◌∙◌}
use Prim.Native.Nat.{ℕ, suc, ◌+◌, ◌≤◌, ◌<◌}
use native.Mathlib.Nat.{add-zero, zero-add}
use native.Mathlib.Numerals.{add-one}
use native.Mathlib.Omega.{arith}
use mathlib.Core.List.{List, [], ◌∷◌, ◌++◌, append-nil}
use lib.ListN.{length, set, take, drop, get_or, length-append, take-append-drop}
use lib.Seq.{sets, length-sets, sets-eq, take-suc, take_all, drop-cons}
use Rattle.meaning.specs.Lists.{gather, below}
use Rattle.meaning.specs.Areas.{Wrote, written}
use Rattle.meaning.proofs.Lists.{gather_append, length-count_from, get_or-count_from}

-- one run of stores and then another
pub sets-append : (l : List ℕ) (i : ℕ) (xs ys : List ℕ) → sets l i (xs ++ ys) ≡ sets (sets l i xs) (i + length xs) ys
sets-append l i [] ys = ap (λ (k : ℕ). sets l k ys) (sym (add-zero i))
sets-append l i (x ∷ xs) ys =
    let e : suc i + length xs ≡ i + suc (length xs) = omega arith in
    sets-append (set l i x) (suc i) xs ys ∙ ap (λ (k : ℕ). sets (sets (set l i x) (suc i) xs) k ys) e

pub wrote_none : (out : List ℕ) (at : ℕ) → Wrote [] out at out at
wrote_none out at = record { cells = refl; end = omega arith }

pub wrote_then : (xs ys : List ℕ) {out mid after : List ℕ} {at next last : ℕ}
    → Wrote xs out at mid next → Wrote ys mid next after last → Wrote (xs ++ ys) out at after last
wrote_then xs ys {out} {mid} {after} {at} {next} {last} a b =
    record {
      cells = b.cells ∙ ap₂ (λ (l : List ℕ) (k : ℕ). sets l k ys) a.cells a.end ∙ sym (sets-append out at xs ys);
      end = b.end ∙ rw length-append (omega (arith, a.end));
    }

pub wrote_length : {xs out after : List ℕ} {at next : ℕ} → Wrote xs out at after next → length after ≡ length out
wrote_length {xs} {out} {at} w = ap length w.cells ∙ length-sets out at xs

-- stores from the front on
pub front-set : (xs l : List ℕ) → length xs ≤ length l → sets l 0 xs ≡ written xs l
front-set xs l h = let e : 0 + length xs ≡ length xs = omega arith in sets-eq xs l 0 (omega arith) ∙ ap (λ (n : ℕ). xs ++ drop n l) e

-- ---- what f gives at each element of a list, one after the other: after j of them

module _ {X : Type 0} (f : X → List ℕ) (xs : List X) where
  pub record Gathering (before : List ℕ) (from : ℕ) (now : List ℕ) (at j : ℕ) : Type 0 where
    pub low : j ≤ length xs
    pub same : length now ≡ length before
    pub wrote : Wrote (gather f (take j xs)) before from now at

  pub gathering_none : (before : List ℕ) (from : ℕ) → Gathering before from before from 0
  gathering_none before from = record { low = omega arith; same = refl; wrote = wrote_none before from }

  pub gathering_more : {before now after : List ℕ} {from at next j : ℕ} (z : X)
      → Gathering before from now at j → j < length xs → Wrote (f (get_or xs j z)) now at after next
      → Gathering before from after next (j + 1)
  gathering_more {before} {now} {after} {from} {at} {next} {j} z g h w =
      record {
        low = omega arith;
        same = wrote_length w ∙ g.same;
        wrote = subst (λ (cells : List ℕ). Wrote cells before from after next) (sym more) (wrote_then (gather f (take j xs)) (f (get_or xs j z)) g.wrote w);
      }
    where
      more : gather f (take (j + 1) xs) ≡ gather f (take j xs) ++ f (get_or xs j z)
      more =
          rw (add-one j, take-suc xs j z h)
          (gather_append f (take j xs) (get_or xs j z ∷ []) ∙ ap (λ (ys : List ℕ). gather f (take j xs) ++ ys) (append-nil (f (get_or xs j z))))

  -- where there is room for all of it, there is for the next
  pub gathering_room : {before now : List ℕ} {from at j : ℕ} (z : X)
      → Gathering before from now at j → j < length xs → from + length (gather f xs) ≤ length before
      → at + length (f (get_or xs j z)) ≤ length now
  gathering_room {before} {now} {from} {at} {j} z g h r = omega (arith, g.same, g.wrote.end, r, simp length-append at (ap length whole))
    where
      whole : gather f xs ≡ gather f (take j xs) ++ (f (get_or xs j z) ++ gather f (drop (suc j) xs))
      whole =
          ap (gather f) (sym (take-append-drop j xs)) ∙ gather_append f (take j xs) (drop j xs)
          ∙ ap (λ (ys : List X). gather f (take j xs) ++ gather f ys) (drop-cons xs j z h)

  pub gathering_all : {before now : List ℕ} {from at j : ℕ} → Gathering before from now at j → length xs ≤ j → Wrote (gather f xs) before from now at
  gathering_all {before} {now} {from} {at} {j} g h = subst (λ (ys : List X). Wrote (gather f ys) before from now at) (take_all j xs h) g.wrote

-- ---- what f gives at each number below n

module _ (f : ℕ → List ℕ) (n : ℕ) where
  at_place : (j : ℕ) → j < n → f (get_or (below n) j 0) ≡ f j
  at_place j h = ap f (get_or-count_from 0 n j h ∙ zero-add j)

  module _ {before now : List ℕ} {from at j : ℕ} (g : Gathering f (below n) before from now at j) where
    pub counting_more : {after : List ℕ} {next : ℕ} → j < n → Wrote (f j) now at after next → Gathering f (below n) before from after next (j + 1)
    counting_more {after} {next} h w =
        gathering_more f (below n) 0 g (omega (arith, length-count_from 0 n)) (subst (λ (xs : List ℕ). Wrote xs now at after next) (sym (at_place j h)) w)

    pub counting_room : j < n → from + length (gather f (below n)) ≤ length before → at + length (f j) ≤ length now
    counting_room h r = omega (arith, gathering_room f (below n) 0 g (omega (arith, length-count_from 0 n)) r, ap length (at_place j h))

    pub counting_all : n ≤ j → Wrote (gather f (below n)) before from now at
    counting_all h = gathering_all f (below n) g (omega (arith, length-count_from 0 n))
