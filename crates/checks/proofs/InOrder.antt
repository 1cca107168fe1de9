-- Parts that are looked at one after the other: before each of them what is left decides.
use mathlib.Core.Path.{◌≡◌, refl, sym, ap, ◌∙◌}
use Prim.Native.Nat.{ℕ, suc, ◌+◌, ◌≤◌, ◌<◌}
use native.Mathlib.Numerals.{add-one}
use native.Mathlib.Omega.{arith}
use mathlib.Core.List.{List, [], ◌∷◌, map}
use lib.ListN.{length, drop, get_or, drop_of_length-le}
use lib.Seq.{drop-cons}
use Rattle.std.specs.Prelude.{Result, Ok, Err, IsErrAnd}
use Rattle.meaning.proofs.Lists.{drop-map}
use Rattle.kinds.specs.declared.RefusedAt.{RefusedAt}
use Rattle.checks.specs.Checks.{Check, kept, and_then}

-- ---- what is found

pub broken_apart : {A : Type 0} {at : RefusedAt} → ◌≡◌ {A = Check} (Err at) kept → A
broken_apart e = absurd (let z : ◌≡◌ {A = ℕ} 0 1 = cc in omega arith)

then_broken : {a : Check} {at : RefusedAt} (b : Check) → a ≡ Err at → Err at ≡ and_then a b
then_broken b e = rw e

then_kept : {a : Check} (b : Check) → a ≡ kept → b ≡ and_then a b
then_kept b e = rw e

-- ---- the parts that are left

pub mapped_next : {X Y : Type 0} (f : X → Y) (xs : List X) (i : ℕ) (z : X) → i < length xs
    → drop i (map f xs) ≡ f (get_or xs i z) ∷ drop (i + 1) (map f xs)
mapped_next f xs i z h =
    drop-map f i xs ∙ ap (map f) (drop-cons xs i z h) ∙ ap (λ l. f (get_or xs i z) ∷ l) (sym (drop-map f (suc i) xs))
    ∙ ap (λ (j : ℕ). f (get_or xs i z) ∷ drop j (map f xs)) (sym (add-one i))

-- a check of parts in order, in a state that each part leaves to the next
pub record Order (S X : Type 0) : Type 0 where
  pub all : S → List X → Check
  pub one : S → X → Check
  pub next : S → X → S
  pub turn : (s : S) (x : X) (xs : List X) → all s (x ∷ xs) ≡ and_then (one s x) (all (next s x) xs)

-- before part i, in the state s: what is left decides
pub record Rest {S X : Type 0} (o : Order S X) (xs : List X) (start s : S) (i : ℕ) : Type 0 where
  pub rest : o.all s (drop i xs) ≡ o.all start xs

pub rest_all : {S X : Type 0} (o : Order S X) (xs : List X) (s : S) → Rest o xs s s 0
rest_all o xs s = record { rest = refl }

module _ {S X : Type 0} {o : Order S X} {xs : List X} {start s : S} {i : ℕ} (k : Rest o xs start s i) where
  pub rest_none : length xs ≤ i → o.all s [] ≡ o.all start xs
  rest_none h = sym (ap (o.all s) (drop_of_length-le xs h)) ∙ k.rest

  module _ {x : X} {c : Check} (p : drop i xs ≡ x ∷ drop (i + 1) xs) (f : c ≡ o.one s x) where
    abbrev behind : Check
    behind = o.all (o.next s x) (drop (i + 1) xs)

    opened : and_then (o.one s x) behind ≡ o.all start xs
    opened = sym (ap (o.all s) p ∙ o.turn s x (drop (i + 1) xs)) ∙ k.rest

    pub rest_broken : {at : RefusedAt} → c ≡ Err at → Err at ≡ o.all start xs
    rest_broken e = then_broken behind (sym f ∙ e) ∙ opened

    pub rest_kept : {t : S} → c ≡ kept → t ≡ o.next s x → Rest o xs start t (i + 1)
    rest_kept e q =
        record { rest = ap (λ (z : S). o.all z (drop (i + 1) xs)) q ∙ then_kept behind (sym f ∙ e) ∙ opened }

-- what a `?` passes on
pub passed_on : {T : Type 0} (r : Result T RefusedAt) (at : RefusedAt) → IsErrAnd r (λ (e : RefusedAt). e ≡ at) → r ≡ Err at
passed_on (Ok x) at h = absurd h
passed_on (Err e) at h = ap Err h
