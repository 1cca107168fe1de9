-- The words on lists that the definitions share.
use Rattle.std.specs.Prelude.{ℕ, zero, suc, ◌+◌, ◌*◌, max, Bool, true, false, ◌&&◌}
use Rattle.std.proofs.Math.Option.{Option, none, some}
use mathlib.Core.List.{List, [], ◌∷◌, ◌++◌, Memᴰ}

-- the first of two where the test holds, else the second
abbrev pub pick {ℓ} : {X : Type ℓ} → Bool → X → X → X
pick true x y = x
pick false x y = y

-- the test holds of every element
abbrev pub all {ℓ} : {X : Type ℓ} → (X → Bool) → List X → Bool
all f [] = true
all f (x ∷ xs) = f x && all f xs

-- the elements of which the test holds, in order
abbrev pub those {ℓ} : {X : Type ℓ} → (X → Bool) → List X → List X
those f [] = []
those f (x ∷ xs) = pick (f x) (x ∷ those f xs) (those f xs)

-- the first element of which the test holds
abbrev pub first_that {ℓ} : {X : Type ℓ} → (X → Bool) → List X → Option X
first_that f [] = none
first_that f (x ∷ xs) = elim (f x) [ true ↦ some x | false ↦ first_that f xs ]

-- what is there, else the given one
abbrev pub or_given {ℓ} : {X : Type ℓ} → X → Option X → X
or_given x none = x
or_given x (some y) = y

-- the list up to and with the first element of which the test holds; all of it where there is none
abbrev pub up_to {ℓ} : {X : Type ℓ} → (X → Bool) → List X → List X
up_to f [] = []
up_to f (x ∷ xs) = elim (f x) [ true ↦ x ∷ [] | false ↦ x ∷ up_to f xs ]

-- what f gives at each element, joined
abbrev pub gather {ℓ κ} : {X : Type ℓ} {Y : Type κ} → (X → List Y) → List X → List Y
gather f [] = []
gather f (x ∷ xs) = f x ++ gather f xs

abbrev pub sum : List ℕ → ℕ
sum [] = 0
sum (x ∷ xs) = x + sum xs

abbrev pub product : List ℕ → ℕ
product [] = 1
product (x ∷ xs) = x * product xs

-- the largest number of a list, 0 of none
abbrev pub largest : List ℕ → ℕ
largest [] = 0
largest (x ∷ xs) = max x (largest xs)

-- n numbers from k on
abbrev pub count_from : ℕ → ℕ → List ℕ
count_from k zero = []
count_from k (suc n) = k ∷ count_from (suc k) n

-- 0 to n - 1
abbrev pub below : ℕ → List ℕ
below n = count_from 0 n

-- 1 to d
abbrev pub ticks : ℕ → List ℕ
ticks d = count_from 1 d

-- R holds between each element and every later one
abbrev pub Rising : {X : Type 0} → (X → X → Type 0) → List X → Type 0
Rising R [] = Unit {0}
Rising {X} R (x ∷ xs) = ((y : X) → Memᴰ y xs → R x y) × Rising R xs
