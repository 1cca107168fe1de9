-- Lists in order: how they are made, and that their members settle them.
use mathlib.Core.Path.{◌≡◌, refl, sym, ap₂, subst}
use Prim.Native.Nat.{ℕ, zero, suc, ◌<◌}
use native.Mathlib.Omega.{arith}
use mathlib.Core.Bool.{Bool, true, false}
use mathlib.Core.Logic.{◌⊎◌, inl, inr}
use mathlib.Core.List.Memᴰ
use mathlib.Core.List.{List, [], ◌∷◌, ◌++◌, Memᴰ}
use Rattle.meaning.specs.Lists.{pick, those, count_from, Rising}
use Rattle.meaning.proofs.Lists.{those_mem, count_from_mem}

module _ {X : Type 0} (R : X → X → Type 0) where
  pub rising_one : (x : X) → Rising R (x ∷ [])
  rising_one x = (λ y m. absurd (Memᴰ.not-nil m), tt)

  pub rising_append : (xs ys : List X) → Rising R xs → Rising R ys → ((x y : X) → Memᴰ x xs → Memᴰ y ys → R x y) → Rising R (xs ++ ys)
  rising_append [] ys r s h = s
  rising_append (x ∷ xs) ys r s h = (
    λ y m. go y (Memᴰ.append_cases xs m),
    rising_append xs ys r.1 s (λ a b m n. h a b (Memᴰ.tail m) n),
  )
    where
      go : (y : X) → Memᴰ y xs ⊎ Memᴰ y ys → R x y
      go y (inl m) = r.0 y m
      go y (inr m) = h x y (Memᴰ.head refl) m

  pub rising_those : (f : X → Bool) (xs : List X) → Rising R xs → Rising R (those f xs)
  rising_those f [] r = tt
  rising_those f (x ∷ xs) r = go (rising_those f xs r.1) (f x)
    where
      go : Rising R (those f xs) → (b : Bool) → Rising R (pick b (x ∷ those f xs) (those f xs))
      go ih true = (λ y m. r.0 y (those_mem f xs m).0, ih)
      go ih false = ih

  -- in one order, so in another that it implies between the list's members
  pub rising_weaken : (S : X → X → Type 0) (xs : List X) → Rising R xs → ((x y : X) → Memᴰ x xs → Memᴰ y xs → R x y → S x y) → Rising S xs
  rising_weaken S [] r h = tt
  rising_weaken S (x ∷ xs) r h =
      (λ y m. h x y (Memᴰ.head refl) (Memᴰ.tail m) (r.0 y m), rising_weaken S xs r.1 (λ a b m n q. h a b (Memᴰ.tail m) (Memᴰ.tail n) q))

pub rising_count : (a n : ℕ) → Rising (λ (x y : ℕ). x < y) (count_from a n)
rising_count a zero = tt
rising_count a (suc n) = (λ y m. omega (arith, count_from_mem (suc a) n y m), rising_count (suc a) n)

-- ---- a list in order is settled by its members

module _ {X : Type 0} (R : X → X → Type 0) (asym : (a b : X) → R a b → R b a → ⊥) (irrefl : (a : X) → R a a → ⊥) where
  -- the tails have the same members, where the heads agree
  tail_mem : (a : X) (xs ys : List X) → Rising R (a ∷ xs) → ((c : X) → Memᴰ c (a ∷ xs) → Memᴰ c (a ∷ ys)) → (c : X) → Memᴰ c xs → Memᴰ c ys
  tail_mem a xs ys r h c m = go (Memᴰ.cases_cons (h c (Memᴰ.tail m)))
    where
      go : (c ≡ a) ⊎ Memᴰ c ys → Memᴰ c ys
      go (inl q) = absurd (irrefl a (subst (λ (z : X). R a z) q (r.0 c m)))
      go (inr k) = k

  head_same : (a b : X) (xs ys : List X) → Rising R (a ∷ xs) → Rising R (b ∷ ys) → (a ≡ b) ⊎ Memᴰ a ys → (b ≡ a) ⊎ Memᴰ b xs → a ≡ b
  head_same a b xs ys r s (inl q) k = q
  head_same a b xs ys r s (inr m) (inl q) = sym q
  head_same a b xs ys r s (inr m) (inr n) = absurd (asym a b (r.0 b n) (s.0 a m))

  pub rising_same : (xs ys : List X) → Rising R xs → Rising R ys
      → ((c : X) → Memᴰ c xs → Memᴰ c ys) → ((c : X) → Memᴰ c ys → Memᴰ c xs) → xs ≡ ys
  rising_same [] [] r s f g = refl
  rising_same [] (y ∷ ys) r s f g = absurd (Memᴰ.not-nil (g y (Memᴰ.head refl)))
  rising_same (x ∷ xs) [] r s f g = absurd (Memᴰ.not-nil (f x (Memᴰ.head refl)))
  rising_same (x ∷ xs) (y ∷ ys) r s f g =
      let q : x ≡ y = head_same x y xs ys r s (Memᴰ.cases_cons (f x (Memᴰ.head refl))) (Memᴰ.cases_cons (g y (Memᴰ.head refl))) in
      let f' : (c : X) → Memᴰ c (x ∷ xs) → Memᴰ c (x ∷ ys) = subst (λ (z : X). (c : X) → Memᴰ c (x ∷ xs) → Memᴰ c (z ∷ ys)) (sym q) f in
      let g' : (c : X) → Memᴰ c (x ∷ ys) → Memᴰ c (x ∷ xs) = subst (λ (z : X). (c : X) → Memᴰ c (z ∷ ys) → Memᴰ c (x ∷ xs)) (sym q) g in
      let s' : Rising R (x ∷ ys) = subst (λ (z : X). Rising R (z ∷ ys)) (sym q) s in
      ap₂ {C = List X} (λ (a : X) (l : List X). a ∷ l) q (rising_same xs ys r.1 s.1 (tail_mem x xs ys r f') (tail_mem x ys xs s' g'))
