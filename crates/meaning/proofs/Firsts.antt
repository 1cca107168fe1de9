-- The first element that passes a test, the list up to it, and those that pass.
use mathlib.Core.Path.{◌≡◌, refl, sym, ap, subst, ◌∙◌}
use Prim.Native.Nat.{ℕ, suc, ◌≤◌}
use native.Mathlib.Nat.{le_refl}
use native.Mathlib.Omega.{arith}
use mathlib.Core.Bool.{Bool, true, false, true≢false, not, ◌||◌}
use mathlib.Core.Logic.{◌⊎◌, inl, inr}
use mathlib.Core.Option.{Option, none, some}
use mathlib.Core.List.Memᴰ
use mathlib.Core.List.{List, [], ◌∷◌, ◌++◌, append-nil, Memᴰ}
use lib.ListN.{length}
use lib.Dec.{T}
use Rattle.meaning.specs.Lists.{pick, all, those, first_that, up_to, Rising}
use Rattle.meaning.proofs.Lists.{both, both_left, both_right}

-- the first of two that is there
abbrev pub or_else {ℓ} : {X : Type ℓ} → Option X → Option X → Option X
or_else (some x) y = some x
or_else none y = y

module _ {Y : Type 0} where
  abbrev pub any : (Y → Bool) → List Y → Bool
  any f [] = false
  any f (y ∷ ys) = f y || any f ys

  pub any_append : (f : Y → Bool) (xs ys : List Y) → any f (xs ++ ys) ≡ (any f xs || any f ys)
  any_append f [] ys = refl
  any_append f (x ∷ xs) ys = go (any_append f xs ys) (f x)
    where
      go : any f (xs ++ ys) ≡ (any f xs || any f ys) → (b : Bool) → (b || any f (xs ++ ys)) ≡ ((b || any f xs) || any f ys)
      go ih true = refl
      go ih false = ih

  pub up_to_in : (f : Y → Bool) (xs ys : List Y) → any f xs ≡ true → up_to f (xs ++ ys) ≡ up_to f xs
  up_to_in f [] ys h = absurd (true≢false (sym h))
  up_to_in f (x ∷ xs) ys h = go (λ k. up_to_in f xs ys k) (f x) refl
    where
      go : (any f xs ≡ true → up_to f (xs ++ ys) ≡ up_to f xs) → (b : Bool) → f x ≡ b → up_to f (x ∷ xs ++ ys) ≡ up_to f (x ∷ xs)
      go ih true q = rw (q, up_to)
      go ih false q = rw (q, up_to) (ap (λ (l : List Y). x ∷ l) (ih (rw q at h)))

  pub up_to_out : (f : Y → Bool) (xs ys : List Y) → any f xs ≡ false → up_to f (xs ++ ys) ≡ xs ++ up_to f ys
  up_to_out f [] ys h = refl
  up_to_out f (x ∷ xs) ys h = go (λ k. up_to_out f xs ys k) (f x) refl
    where
      go : (any f xs ≡ false → up_to f (xs ++ ys) ≡ xs ++ up_to f ys) → (b : Bool) → f x ≡ b → up_to f (x ∷ xs ++ ys) ≡ x ∷ xs ++ up_to f ys
      go ih true q = absurd (true≢false (rw q at h))
      go ih false q = rw (q, up_to) (ap (λ (l : List Y). x ∷ l) (ih (rw q at h)))

  pub up_to-all : (f : Y → Bool) (xs : List Y) → any f xs ≡ false → up_to f xs ≡ xs
  up_to-all f xs h = sym (ap (up_to f) (append-nil xs)) ∙ up_to_out f xs [] h ∙ append-nil xs

  pub first_that-append : (f : Y → Bool) (xs ys : List Y) → first_that f (xs ++ ys) ≡ or_else (first_that f xs) (first_that f ys)
  first_that-append f [] ys = refl
  first_that-append f (x ∷ xs) ys = go (first_that-append f xs ys) (f x) refl
    where
      go : first_that f (xs ++ ys) ≡ or_else (first_that f xs) (first_that f ys) → (b : Bool)
          → f x ≡ b → first_that f (x ∷ xs ++ ys) ≡ or_else (first_that f (x ∷ xs)) (first_that f ys)
      go ih true q = rw (q, first_that)
      go ih false q = rw (q, first_that) ih

  pub first_that-none : (f : Y → Bool) (xs : List Y) → ((y : Y) → Memᴰ y xs → f y ≡ false) → first_that f xs ≡ none
  first_that-none f [] h = refl
  first_that-none f (x ∷ xs) h = rw (h x (Memᴰ.head refl), first_that) (first_that-none f xs (λ y m. h y (Memᴰ.tail m)))

  pub first_any : (f : Y → Bool) (xs : List Y) {x : Y} → first_that f xs ≡ some x → any f xs ≡ true
  first_any f [] q = absurd (let z : ◌≡◌ {A = ℕ} 0 1 = cc in omega arith)
  first_any f (y ∷ ys) {x} q = go (λ h. first_any f ys h) (f y) refl
    where
      go : (first_that f ys ≡ some x → any f ys ≡ true) → (b : Bool) → f y ≡ b → any f (y ∷ ys) ≡ true
      go ih true h = rw h
      go ih false h = rw h (ih (rw (h, first_that) at q))

  pub none_any : (f : Y → Bool) (xs : List Y) → first_that f xs ≡ none → any f xs ≡ false
  none_any f [] q = refl
  none_any f (y ∷ ys) q = go (λ h. none_any f ys h) (f y) refl
    where
      go : (first_that f ys ≡ none → any f ys ≡ false) → (b : Bool) → f y ≡ b → any f (y ∷ ys) ≡ false
      go ih true h = absurd (let e : some y ≡ none = rw (h, first_that) at q in let z : ◌≡◌ {A = ℕ} 0 1 = cc in omega arith)
      go ih false h = rw h (ih (rw (h, first_that) at q))

  pub any_mem : (f : Y → Bool) (xs : List Y) → any f xs ≡ false → {x : Y} → Memᴰ x xs → f x ≡ false
  any_mem f [] q m = absurd (Memᴰ.not-nil m)
  any_mem f (y ∷ ys) q {x} m = go (λ h k. any_mem f ys h k) (f y) refl (Memᴰ.cases_cons m)
    where
      go : (any f ys ≡ false → Memᴰ x ys → f x ≡ false) → (b : Bool) → f y ≡ b → (x ≡ y) ⊎ Memᴰ x ys → f x ≡ false
      go ih true h k = absurd (true≢false (rw h at q))
      go ih false h (inl k) = ap f k ∙ h
      go ih false h (inr k) = ih (rw h at q) k

  pub those-append : (f : Y → Bool) (xs ys : List Y) → those f (xs ++ ys) ≡ those f xs ++ those f ys
  those-append f [] ys = refl
  those-append f (x ∷ xs) ys = go (those-append f xs ys) (f x)
    where
      go : those f (xs ++ ys) ≡ those f xs ++ those f ys → (b : Bool)
          → pick b (x ∷ those f (xs ++ ys)) (those f (xs ++ ys)) ≡ pick b (x ∷ those f xs) (those f xs) ++ those f ys
      go ih true = ap (λ (l : List Y). x ∷ l) ih
      go ih false = ih

  -- none of a list: none of its front, and nothing to keep
  abbrev pub none_of : (Y → Bool) → List Y → Bool
  none_of f xs = all (λ (y : Y). not (f y)) xs

  pub none_of-append : (f : Y → Bool) (xs ys : List Y) → T (none_of f xs) → T (none_of f ys) → T (none_of f (xs ++ ys))
  none_of-append f [] ys p q = q
  none_of-append f (x ∷ xs) ys p q = both (not (f x)) (none_of f (xs ++ ys))
      (both_left (not (f x)) (none_of f xs) p) (none_of-append f xs ys (both_right (not (f x)) (none_of f xs) p) q)

  -- of the front up to a witness, as of the whole
  pub none_kept : (p f : Y → Bool) (xs : List Y) → T (none_of p xs) → length (those p (up_to f xs)) ≡ 0
  none_kept p f [] h = refl
  none_kept p f (x ∷ xs) h = go (none_kept p f xs (both_right (not (p x)) (none_of p xs) h)) (p x) refl (f x) refl
    where
      go : length (those p (up_to f xs)) ≡ 0 → (b : Bool) → p x ≡ b → (c : Bool) → f x ≡ c → length (those p (up_to f (x ∷ xs))) ≡ 0
      go ih true q c r = absurd (rw q at (both_left (not (p x)) (none_of p xs) h))
      go ih false q true r = rw (r, up_to) (rw q refl)
      go ih false q false r = rw (r, up_to) (rw q ih)

  pub first_hit : (f : Y → Bool) (x : Y) (xs : List Y) → f x ≡ true → first_that f (x ∷ xs) ≡ some x
  first_hit f x xs h = rw (h, first_that)

  pub first_skip : (f : Y → Bool) (x : Y) (xs : List Y) → f x ≡ false → first_that f (x ∷ xs) ≡ first_that f xs
  first_skip f x xs h = rw (h, first_that)

  pub first_is : (f : Y → Bool) (ys : List Y) (x : Y) → first_that f ys ≡ some x → Memᴰ x ys × T (f x)
  first_is f [] x q = absurd (let z : ◌≡◌ {A = ℕ} 0 1 = cc in omega arith)
  first_is f (y ∷ ys) x q = go (λ h. first_is f ys x h) (f y) refl
    where
      go : (first_that f ys ≡ some x → Memᴰ x ys × T (f x)) → (b : Bool) → f y ≡ b → Memᴰ x (y ∷ ys) × T (f x)
      go ih true h =
          let e : some y ≡ some x = rw (h, first_that) at q in
          let e' : x ≡ y = cc in
          (Memᴰ.head e', subst (λ (z : Y). T (f z)) (sym e') (subst T (sym h) tt))
      go ih false h = let r = ih (rw (h, first_that) at q) in (Memᴰ.tail r.0, r.1)

  -- what passes stands no earlier than the first that passes; so there is one
  pub first_least : (f : Y → Bool) (R : Y → Y → Type 0) {y : Y} (ys : List Y) → Rising R ys
      → Memᴰ y ys → T (f y) → (x : Y) × (first_that f ys ≡ some x) × ((x ≡ y) ⊎ R x y)
  first_least f R [] r m t = absurd (Memᴰ.not-nil m)
  first_least f R {y} (z ∷ zs) r m t = go (λ k. first_least f R zs r.1 k t) (f z) refl (Memᴰ.cases_cons m)
    where
      go : (Memᴰ y zs → (x : Y) × (first_that f zs ≡ some x) × ((x ≡ y) ⊎ R x y)) → (b : Bool) → f z ≡ b → (y ≡ z) ⊎ Memᴰ y zs
          → (x : Y) × (first_that f (z ∷ zs) ≡ some x) × ((x ≡ y) ⊎ R x y)
      go ih true h (inl e) = (z, rw (h, first_that), inl (sym e))
      go ih true h (inr k) = (z, rw (h, first_that), inr (r.0 y k))
      go ih false h (inl e) = absurd (subst T h (subst (λ (w : Y). T (f w)) e t))
      go ih false h (inr k) = let s = ih k in (s.0, rw (h, first_that) s.1, s.2)

  -- ---- never longer than the list

  pub those_le : (f : Y → Bool) (xs : List Y) → length (those f xs) ≤ length xs
  those_le f [] = le_refl 0
  those_le f (x ∷ xs) = go (those_le f xs) (f x)
    where
      go : length (those f xs) ≤ length xs → (b : Bool) → length (pick b (x ∷ those f xs) (those f xs)) ≤ suc (length xs)
      go ih true = omega arith
      go ih false = omega arith

  pub up_to_le : (f : Y → Bool) (xs : List Y) → length (up_to f xs) ≤ length xs
  up_to_le f [] = le_refl 0
  up_to_le f (x ∷ xs) = go (up_to_le f xs) (f x) refl
    where
      go : length (up_to f xs) ≤ length xs → (b : Bool) → f x ≡ b → length (up_to f (x ∷ xs)) ≤ suc (length xs)
      go ih true q = rw (q, up_to) (omega arith)
      go ih false q = rw (q, up_to) (omega arith)
