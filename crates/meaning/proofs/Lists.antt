-- Laws of the words on lists: tests, members, sums, the largest.
use mathlib.Core.Path.{◌≡◌, refl, sym, ap, ap₂, subst, ◌∙◌}
use Prim.Native.Nat.{ℕ, zero, suc, ◌+◌, ◌-◌, ◌≤◌, ◌<◌}
use native.Mathlib.Decide.{ℕ_discrete}
use native.Mathlib.Nat.{sub-zero, zero-add, add-zero}
use native.Mathlib.Omega.{arith}
use mathlib.Core.Bool.{Bool, true, false, ◌&&◌}
use mathlib.Core.Logic.{◌⊎◌, inl, inr}
use mathlib.Core.List.Memᴰ
use mathlib.Core.List.{List, [], ◌∷◌, ◌++◌, map, append_assoc, Memᴰ}
use lib.ListN.{length, get_or, set, take, drop, length-append, length-map}
use lib.Seq.{take-nil}
use lib.Dec.{T}
use Rattle.meaning.specs.Lists.{pick, all, those, sum, largest, gather, count_from, below}

-- ---- tests

pub both : (a b : Bool) → T a → T b → T (a && b)
both true b x y = y
both false b x y = x

pub both_left : (a b : Bool) → T (a && b) → T a
both_left true b t = tt
both_left false b t = t

pub both_right : (a b : Bool) → T (a && b) → T b
both_right true b t = t
both_right false b t = absurd t

pub is_true : (b : Bool) → T b → b ≡ true
is_true true t = refl
is_true false t = absurd t

pub is_false : (b : Bool) → (T b → ⊥) → b ≡ false
is_false true f = absurd (f tt)
is_false false f = refl

pub and_false : (b : Bool) → (b && false) ≡ false
and_false true = refl
and_false false = refl

pub mem_some : {A : Type 0} {x : A} {xs : List A} → Memᴰ x xs → 0 < length xs
mem_some (Memᴰ.head q) = omega arith
mem_some (Memᴰ.tail m) = omega arith

module _ {X : Type 0} where
  pub all_mem : (f : X → Bool) (xs : List X) → T (all f xs) → {x : X} → Memᴰ x xs → T (f x)
  all_mem f [] t m = absurd (Memᴰ.not-nil m)
  all_mem f (y ∷ ys) t {x} (Memᴰ.head q) = subst (λ (z : X). T (f z)) (sym q) (both_left (f y) (all f ys) t)
  all_mem f (y ∷ ys) t (Memᴰ.tail m) = all_mem f ys (both_right (f y) (all f ys) t) m

  pub mem_all : (f : X → Bool) (xs : List X) → ((x : X) → Memᴰ x xs → T (f x)) → T (all f xs)
  mem_all f [] h = tt
  mem_all f (y ∷ ys) h = both (f y) (all f ys) (h y (Memᴰ.head refl)) (mem_all f ys (λ x m. h x (Memᴰ.tail m)))

  -- ---- those

  keep : (b : Bool) (y : X) {x : X} {ys : List X} → Memᴰ x ys → Memᴰ x (pick b (y ∷ ys) ys)
  keep true y m = Memᴰ.tail m
  keep false y m = m

  keep_head : (b : Bool) (ys : List X) {x y : X} → T b → x ≡ y → Memᴰ x (pick b (y ∷ ys) ys)
  keep_head true ys t q = Memᴰ.head q
  keep_head false ys t q = absurd t

  pub mem_those : (f : X → Bool) {x : X} {xs : List X} → Memᴰ x xs → T (f x) → Memᴰ x (those f xs)
  mem_those f (Memᴰ.head {x = y} {xs = ys} q) t = keep_head (f y) (those f ys) (subst (λ (z : X). T (f z)) q t) q
  mem_those f (Memᴰ.tail {x = y} {xs = ys} m) t = keep (f y) y (mem_those f m t)

  pub those_mem : (f : X → Bool) (xs : List X) {x : X} → Memᴰ x (those f xs) → Memᴰ x xs × T (f x)
  those_mem f [] m = absurd (Memᴰ.not-nil m)
  those_mem f (y ∷ ys) {x} m = go (λ k. those_mem f ys k) (f y) refl m
    where
      more : Memᴰ x ys × T (f x) → Memᴰ x (y ∷ ys) × T (f x)
      more r = (Memᴰ.tail r.0, r.1)

      go : (Memᴰ x (those f ys) → Memᴰ x ys × T (f x)) → (b : Bool) → f y ≡ b
          → Memᴰ x (pick b (y ∷ those f ys) (those f ys)) → Memᴰ x (y ∷ ys) × T (f x)
      go ih true h (Memᴰ.head q) = (Memᴰ.head q, subst (λ (z : X). T (f z)) (sym q) (subst T (sym h) tt))
      go ih true h (Memᴰ.tail k) = more (ih k)
      go ih false h k = more (ih k)

  pub mem_take : (n : ℕ) (xs : List X) {x : X} → Memᴰ x (take n xs) → Memᴰ x xs
  mem_take zero xs m = absurd (Memᴰ.not-nil m)
  mem_take (suc n) [] m = absurd (Memᴰ.not-nil m)
  mem_take (suc n) (y ∷ ys) (Memᴰ.head q) = Memᴰ.head q
  mem_take (suc n) (y ∷ ys) (Memᴰ.tail m) = Memᴰ.tail (mem_take n ys m)

  pub mem_get_or : (z : X) (xs : List X) (i : ℕ) → i < length xs → Memᴰ (get_or xs i z) xs
  mem_get_or z [] i h = absurd (omega arith)
  mem_get_or z (x ∷ xs) zero h = Memᴰ.head refl
  mem_get_or z (x ∷ xs) (suc i) h = Memᴰ.tail (mem_get_or z xs i (omega arith))

  pub mem_drop : (n : ℕ) (xs : List X) {x : X} → Memᴰ x (drop n xs) → Memᴰ x xs
  mem_drop zero xs m = m
  mem_drop (suc n) [] m = m
  mem_drop (suc n) (y ∷ ys) m = Memᴰ.tail (mem_drop n ys m)

  pub length_snoc : (xs : List X) (x : X) → length (xs ++ (x ∷ [])) ≡ suc (length xs)
  length_snoc xs x = rw length-append (omega arith)

  -- a run of neighbours, from its own place k on
  pub drop-take : (k m : ℕ) (xs : List X) → drop k (take m xs) ≡ take (m - k) (drop k xs)
  drop-take zero m xs = ap (λ (n : ℕ). take n xs) (sym (sub-zero m))
  drop-take (suc k) zero xs = let e : 0 - suc k ≡ 0 = omega arith in rw e
  drop-take (suc k) (suc m) [] = sym (take-nil (suc m - suc k))
  drop-take (suc k) (suc m) (x ∷ xs) = let e : suc m - suc k ≡ m - k = omega arith in rw e (drop-take k m xs)

-- ---- gather

module _ {X Y : Type 0} where
  pub mem_gather : (f : X → List Y) {x : X} {xs : List X} {y : Y} → Memᴰ x xs → Memᴰ y (f x) → Memᴰ y (gather f xs)
  mem_gather f {x} {y} (Memᴰ.head {x = z} {xs = zs} q) m = Memᴰ.append_left (gather f zs) (subst (λ (w : X). Memᴰ y (f w)) q m)
  mem_gather f (Memᴰ.tail {x = z} {xs = zs} k) m = Memᴰ.append_right (f z) (mem_gather f k m)

  pub gather_mem : (f : X → List Y) (xs : List X) {y : Y} → Memᴰ y (gather f xs) → (x : X) × Memᴰ x xs × Memᴰ y (f x)
  gather_mem f [] m = absurd (Memᴰ.not-nil m)
  gather_mem f (z ∷ zs) {y} m = go (λ k. gather_mem f zs k) (Memᴰ.append_cases (f z) m)
    where
      go : (Memᴰ y (gather f zs) → (x : X) × Memᴰ x zs × Memᴰ y (f x))
          → Memᴰ y (f z) ⊎ Memᴰ y (gather f zs) → (x : X) × Memᴰ x (z ∷ zs) × Memᴰ y (f x)
      go ih (inl k) = (z, Memᴰ.head refl, k)
      go ih (inr k) = let r = ih k in (r.0, Memᴰ.tail r.1, r.2)

  pub get_or_mapped : (f : X → Y) (z : Y) (w : X) (xs : List X) (i : ℕ) → i < length xs → get_or (map f xs) i z ≡ f (get_or xs i w)
  get_or_mapped f z w [] i h = absurd (omega arith)
  get_or_mapped f z w (x ∷ xs) zero h = refl
  get_or_mapped f z w (x ∷ xs) (suc i) h = get_or_mapped f z w xs i (omega arith)

  pub gather_append : (f : X → List Y) (xs ys : List X) → gather f (xs ++ ys) ≡ gather f xs ++ gather f ys
  gather_append f [] ys = refl
  gather_append f (x ∷ xs) ys = ap (λ (l : List Y). f x ++ l) (gather_append f xs ys) ∙ sym (append_assoc (f x) (gather f xs) (gather f ys))

  pub map-append : (f : X → Y) (xs ys : List X) → map f (xs ++ ys) ≡ map f xs ++ map f ys
  map-append f [] ys = refl
  map-append f (x ∷ xs) ys = ap (λ (l : List Y). f x ∷ l) (map-append f xs ys)

  -- two functions that agree on a list's members
  pub map_mem : (f g : X → Y) (xs : List X) → ((x : X) → Memᴰ x xs → f x ≡ g x) → map f xs ≡ map g xs
  map_mem f g [] h = refl
  map_mem f g (x ∷ xs) h = ap₂ (λ (y : Y) (ys : List Y). y ∷ ys) (h x (Memᴰ.head refl)) (map_mem f g xs (λ z m. h z (Memᴰ.tail m)))

  -- what holds of all that g gives holds in the mapped list
  pub each_map : (Q : Y → Type 0) (g : X → Y) (xs : List X) → ((x : X) → Memᴰ x xs → Q (g x)) → (y : Y) → Memᴰ y (map g xs) → Q y
  each_map Q g xs h y m = let r = Memᴰ.of_map g xs m in subst Q r.2 (h r.0 r.1)

-- what is gathered from a mapped list, and from what was gathered

pub gather-map : {X Y Z : Type 0} (f : Y → List Z) (g : X → Y) (xs : List X) → gather f (map g xs) ≡ gather (λ (x : X). f (g x)) xs
gather-map f g [] = refl
gather-map {Z = Z} f g (x ∷ xs) = ap (λ (l : List Z). f (g x) ++ l) (gather-map f g xs)

pub gather-gather : {X Y Z : Type 0} (f : Y → List Z) (g : X → List Y) (xs : List X) → gather f (gather g xs) ≡ gather (λ (x : X). gather f (g x)) xs
gather-gather f g [] = refl
gather-gather {Z = Z} f g (x ∷ xs) = gather_append f (g x) (gather g xs) ∙ ap (λ (l : List Z). gather f (g x) ++ l) (gather-gather f g xs)

-- ---- numbers

pub sum-append : (xs ys : List ℕ) → sum (xs ++ ys) ≡ sum xs + sum ys
sum-append [] ys = sym (zero-add _)
sum-append (x ∷ xs) ys = omega (arith, sum-append xs ys)

pub mem_largest : {x : ℕ} {xs : List ℕ} → Memᴰ x xs → x ≤ largest xs
mem_largest (Memᴰ.head q) = omega arith
mem_largest (Memᴰ.tail m) = omega (arith, mem_largest m)

pub length-count_from : (k n : ℕ) → length (count_from k n) ≡ n
length-count_from k zero = refl
length-count_from k (suc n) = ap suc (length-count_from (suc k) n)

pub get_or-count_from : (k n i : ℕ) → i < n → get_or (count_from k n) i 0 ≡ k + i
get_or-count_from k zero i h = absurd (omega arith)
get_or-count_from k (suc n) zero h = sym (add-zero k)
get_or-count_from k (suc n) (suc i) h = get_or-count_from (suc k) n i (omega arith) ∙ omega arith

pub mem_count_from : (k n v : ℕ) → k ≤ v → v < k + n → Memᴰ v (count_from k n)
mem_count_from k zero v a b = absurd (omega arith)
mem_count_from k (suc n) v a b =
    elim (ℕ_discrete v k) [ yes q ↦ Memᴰ.head q | no q ↦ Memᴰ.tail (mem_count_from (suc k) n v (omega arith) (omega arith)) ]

pub count_from_mem : (k n v : ℕ) → Memᴰ v (count_from k n) → (k ≤ v) × (v < k + n)
count_from_mem k zero v m = absurd (Memᴰ.not-nil m)
count_from_mem k (suc n) v (Memᴰ.head q) = (omega arith, omega arith)
count_from_mem k (suc n) v (Memᴰ.tail m) = let r = count_from_mem (suc k) n v m in (omega arith, omega arith)

-- what f gives at each of n numbers from k on

pub count_length_lem : {Y : Type 0} (f : ℕ → Y) (k n : ℕ) → length (map f (count_from k n)) ≡ n
count_length_lem f k n = length-map (count_from k n) f ∙ length-count_from k n

pub count_at : {Y : Type 0} (f : ℕ → Y) (z : Y) (k n i : ℕ) → i < n → get_or (map f (count_from k n)) i z ≡ f (k + i)
count_at f z k n i h = get_or_mapped f z 0 (count_from k n) i (omega (arith, length-count_from k n)) ∙ ap f (get_or-count_from k n i h)

-- one number more
pub count_more : {Y : Type 0} (f : ℕ → Y) (k n : ℕ) → map f (count_from k (suc n)) ≡ map f (count_from k n) ++ (f (k + n) ∷ [])
count_more f k zero = ap (λ (j : ℕ). f j ∷ []) (omega arith)
count_more {Y} f k (suc n) =
    ap (λ (l : List Y). f k ∷ l) (count_more f (suc k) n ∙ ap (λ (j : ℕ). map f (count_from (suc k) n) ++ (f j ∷ [])) (omega arith))

-- ---- parts of a mapped list

pub take-map : {X Y : Type 0} (f : X → Y) (n : ℕ) (xs : List X) → take n (map f xs) ≡ map f (take n xs)
take-map f zero xs = refl
take-map f (suc n) [] = refl
take-map f (suc n) (x ∷ xs) = ap (λ (z : List _). f x ∷ z) (take-map f n xs)

pub drop-map : {X Y : Type 0} (f : X → Y) (n : ℕ) (xs : List X) → drop n (map f xs) ≡ map f (drop n xs)
drop-map f zero xs = refl
drop-map f (suc n) [] = refl
drop-map f (suc n) (x ∷ xs) = drop-map f n xs

-- ---- the cells of a list, by their places

pub cells_shift : {X Y : Type 0} (f : X → Y) (z a : X) (l : List X) (i n : ℕ)
    → map (λ (j : ℕ). f (get_or (a ∷ l) j z)) (count_from (suc i) n) ≡ map (λ (j : ℕ). f (get_or l j z)) (count_from i n)
cells_shift f z a l i zero = refl
cells_shift {X} {Y} f z a l i (suc n) = ap (λ (ys : List Y). f (get_or l i z) ∷ ys) (cells_shift f z a l (suc i) n)

-- those of the front of a list
pub cells_front : {X Y : Type 0} (f : X → Y) (z : X) (xs ys : List X) → map (λ (j : ℕ). f (get_or (xs ++ ys) j z)) (below (length xs)) ≡ map f xs
cells_front f z [] ys = refl
cells_front {X} {Y} f z (x ∷ xs) ys = ap (λ (l : List Y). f x ∷ l) (cells_shift f z x (xs ++ ys) 0 (length xs) ∙ cells_front f z xs ys)

-- one cell more
pub cells_set : {X Y : Type 0} (f : X → Y) (z x : X) (xs : List X) (n : ℕ) → n < length xs
    → map (λ (j : ℕ). f (get_or (set xs n x) j z)) (below (suc n)) ≡ map (λ (j : ℕ). f (get_or xs j z)) (below n) ++ (f x ∷ [])
cells_set f z x [] n h = absurd (omega arith)
cells_set f z x (y ∷ xs) zero h = refl
cells_set {X} {Y} f z x (y ∷ xs) (suc n) h =
    ap (λ (l : List Y). f y ∷ l)
    (cells_shift f z y (set xs n x) 0 (suc n) ∙ cells_set f z x xs n (omega arith) ∙ ap (λ (l : List Y). l ++ (f x ∷ [])) (sym (cells_shift f z y xs 0 n)))
