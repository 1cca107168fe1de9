-- The complete paths are listed in order, first difference first, without repeats.
use mathlib.Core.Path.{◌≡◌, refl, sym, subst, subst₂}
use Prim.Native.Nat.{ℕ, zero, suc, ◌-◌, ◌<◌}
use native.Mathlib.Omega.{arith}
use mathlib.Core.Logic.{inl, inr}
use mathlib.Core.List.Memᴰ
use mathlib.Core.List.{List, [], ◌∷◌, map, Memᴰ}
use lib.ListN.{length}
use lib.Dec.{ltb}
use Rattle.meaning.specs.Lists.{those, gather, below, Rising}
use Rattle.meaning.specs.Table.{Edge, Task}
use Rattle.meaning.specs.Paths.{Path, out_of, or_alone, paths_from, complete_paths, Before}
use Rattle.meaning.proofs.Lists.{gather_mem}
use Rattle.meaning.proofs.Rising.{rising_one, rising_append, rising_those, rising_count}
use Rattle.meaning.proofs.Edges.{Fanned}
use Rattle.meaning.proofs.Onward.{onward, linked_from}

pub before_irrefl : (a : Path) → Before a a → ⊥
before_irrefl [] h = h
before_irrefl (x ∷ xs) (inl h) = omega arith
before_irrefl (x ∷ xs) (inr h) = before_irrefl xs h.1

pub before_asym : (a b : Path) → Before a b → Before b a → ⊥
before_asym [] [] h k = h
before_asym [] (y ∷ ys) h k = k
before_asym (x ∷ xs) [] h k = h
before_asym (x ∷ xs) (y ∷ ys) (inl h) (inl k) = omega arith
before_asym (x ∷ xs) (y ∷ ys) (inl h) (inr k) = omega (arith, k.0)
before_asym (x ∷ xs) (y ∷ ys) (inr h) (inl k) = omega (arith, h.0)
before_asym (x ∷ xs) (y ∷ ys) (inr h) (inr k) = before_asym xs ys h.1 k.1

-- joined by a key that rises, each part beginning with its key
rising_gather : {A : Type 0} (key : A → ℕ) (f : A → List Path) (xs : List A) → Rising (λ (x y : A). key x < key y) xs
    → ((x : A) → Rising Before (f x)) → ((x : A) (c : Path) → Memᴰ c (f x) → (w : Path) × (c ≡ key x ∷ w)) → Rising Before (gather f xs)
rising_gather key f [] r s b = tt
rising_gather {A} key f (x ∷ xs) r s b =
    rising_append Before (f x) (gather f xs) (s x) (rising_gather key f xs r.1 s b)
    (λ c k m n.
    let j = gather_mem f xs n in
    let p = b x c m in
    let q = b j.0 k j.2 in
    subst₂ Before (sym p.1) (sym q.1) (inl (r.0 j.0 j.1)))

rising_cons : (v : ℕ) (ws : List Path) → Rising Before ws → Rising Before (map (λ (q : Path). v ∷ q) ws)
rising_cons v [] r = tt
rising_cons v (w ∷ ws) r = (
  λ y m. let j = Memᴰ.of_map (λ (q : Path). v ∷ q) ws m in subst (λ (z : Path). Before (v ∷ w) z) j.2 (inr (refl, r.0 j.0 j.1)),
  rising_cons v ws r.1,
)

rising_alone : (v : ℕ) (ws : List Path) → Rising Before ws → Rising Before (or_alone v ws)
rising_alone v [] r = rising_one Before (v ∷ [])
rising_alone v (w ∷ ws) r = rising_cons v (w ∷ ws) r

begins : (k : Task) (n room v : ℕ) (c : Path) → Memᴰ c (paths_from k n room v) → (w : Path) × (c ≡ v ∷ w)
begins k n room v c m = let r = linked_from k n room v m in (r.0, r.1)

rising_from : (k : Task) → Fanned k → (n room v : ℕ) → Rising Before (paths_from k n room v)
rising_from k h zero room v = rising_one Before (v ∷ [])
rising_from k h (suc n) room v =
    rising_alone v (onward k n room v)
    (rising_gather (λ (x : Edge). x.to) (λ (x : Edge). paths_from k n (room - x.p) x.to) (those (λ (x : Edge). ltb x.p room) (out_of k v))
    (rising_those (λ (x y : Edge). x.to < y.to) (λ (x : Edge). ltb x.p room) (out_of k v) (h v))
    (λ x. rising_from k h n (room - x.p) x.to)
    (λ x c m. begins k n (room - x.p) x.to c m))

pub rising_complete : (k : Task) → Fanned k → (d : ℕ) → Rising Before (complete_paths k d)
unfolding complete_paths
rising_complete k h d =
    rising_gather (λ (v : ℕ). v) (paths_from k d d) (below (length k.vertices)) (rising_count 0 (length k.vertices))
    (λ v. rising_from k h d d v) (λ v c m. begins k d d v c m)
