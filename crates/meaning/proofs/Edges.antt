-- The edges of a sound task: a tick or more each, out of a vertex to rising vertices, so at most one between two.
use mathlib.Core.Path.{◌≡◌, sym, ap, subst, ◌∙◌, refl}
use Prim.Native.Nat.{ℕ, ◌≤◌, ◌<◌}
use native.Mathlib.Omega.{arith}
use mathlib.Core.Logic.{inl, inr}
use mathlib.Core.List.{List, [], ◌∷◌, Memᴰ}
use lib.ListN.{length}
use lib.Dec.{T, ltb, lt→ltb, eqb, eqb→eq, eqb_refl}
use Rattle.meaning.specs.Lists.{Rising}
use Rattle.meaning.specs.Table.{Edge, Task}
use Rattle.meaning.specs.Paths.{Path, separation, out_of, between, first_p, linked}
use Rattle.meaning.specs.Sound.{SoundTask, EdgeBefore}
use Rattle.meaning.proofs.Lists.{both, mem_some, mem_those, those_mem}
use Rattle.meaning.proofs.Rising.{rising_those, rising_weaken}

-- ---- what the laws of paths ask of a task

-- each edge takes a tick or more
abbrev pub Spaced : Task → Type 0
Spaced k = (x : Edge) → Memᴰ x k.edges → 1 ≤ x.p

-- the edges out of each vertex lead to rising vertices
abbrev pub Fanned : Task → Type 0
Fanned k = (v : ℕ) → Rising (λ (x y : Edge). x.to < y.to) (out_of k v)

pub sound_spaced : (k : Task) → SoundTask k → Spaced k
sound_spaced k s x m = (s.each_edge x m).some_p

pub sound_fanned : (k : Task) → SoundTask k → Fanned k
sound_fanned k s v =
    rising_weaken EdgeBefore (λ (x y : Edge). x.to < y.to) (out_of k v) (rising_those EdgeBefore (λ (x : Edge). eqb x.from v) k.edges s.rising)
    (λ x y m n b. go x y (from_is x m) (from_is y n) b)
  where
    from_is : (x : Edge) → Memᴰ x (out_of k v) → x.from ≡ v
    from_is x m = eqb→eq x.from v (those_mem (λ (z : Edge). eqb z.from v) k.edges m).1

    go : (x y : Edge) → x.from ≡ v → y.from ≡ v → EdgeBefore x y → x.to < y.to
    go x y p q (inl a) = absurd (omega arith)
    go x y p q (inr a) = a.1

-- ---- from links to edges and back

-- an edge out of v, which takes a tick or more
pub out_spaced : (k : Task) → Spaced k → (v : ℕ) {x : Edge} → Memᴰ x (out_of k v) → 1 ≤ x.p
out_spaced k sp v {x} m = sp x (those_mem (λ (y : Edge). eqb y.from v) k.edges m).0

-- the edge that a link of a path goes by
pub link-edge : (k : Task) (u v : ℕ) → T (ltb 0 (length (between k u v))) → (x : Edge) × Memᴰ x (out_of k u) × (x.to ≡ v) × (x.p ≡ separation k u v)
unfolding separation
link-edge k u v h = go (between k u v) refl h
  where
    go : (es : List Edge) → between k u v ≡ es → T (ltb 0 (length es)) → (x : Edge) × Memᴰ x (out_of k u) × (x.to ≡ v) × (x.p ≡ first_p (between k u v))
    go [] q t = absurd t
    go (x ∷ xs) q t =
        let m : Memᴰ x (between k u v) = subst (λ (l : List Edge). Memᴰ x l) (sym q) (mathlib.Core.List.Memᴰ.head refl) in
        let r = those_mem (λ (y : Edge). eqb y.to v) (out_of k u) m in
        (x, r.0, eqb→eq x.to v r.1, ap first_p (sym q))

edge-link : (k : Task) (v : ℕ) (x : Edge) → Memᴰ x (out_of k v) → T (ltb 0 (length (between k v x.to)))
edge-link k v x m =
    lt→ltb 0 (length (between k v x.to)) (mem_some (mem_those (λ (y : Edge). eqb y.to x.to) m (eqb_refl x.to)))

-- by an edge, to a path that is linked
pub on_by_lem : (k : Task) (v : ℕ) (x : Edge) (w q : Path) → Memᴰ x (out_of k v) → q ≡ x.to ∷ w → T (linked k x.to w) → T (linked k v q)
on_by_lem k v x w q m h l = subst (λ (z : Path). T (linked k v z)) (sym h) (both (ltb 0 (length (between k v x.to))) (linked k x.to w) (edge-link k v x m) l)

-- ---- at most one edge from a vertex to a vertex

same_key : {A : Type 0} (key : A → ℕ) (xs : List A) → Rising (λ (x y : A). key x < key y) xs
    → {x y : A} → Memᴰ x xs → Memᴰ y xs → key x ≡ key y → x ≡ y
same_key key [] r m n q = absurd (mathlib.Core.List.Memᴰ.not-nil m)
same_key key (z ∷ zs) r (mathlib.Core.List.Memᴰ.head a) (mathlib.Core.List.Memᴰ.head b) q = a ∙ sym b
same_key key (z ∷ zs) r {x} {y} (mathlib.Core.List.Memᴰ.head a) (mathlib.Core.List.Memᴰ.tail n) q = absurd (omega (arith, r.0 y n, ap key a))
same_key key (z ∷ zs) r {x} {y} (mathlib.Core.List.Memᴰ.tail m) (mathlib.Core.List.Memᴰ.head b) q = absurd (omega (arith, r.0 x m, ap key b))
same_key key (z ∷ zs) r (mathlib.Core.List.Memᴰ.tail m) (mathlib.Core.List.Memᴰ.tail n) q = same_key key zs r.1 m n q

-- an edge's p is the separation between its ends
pub separation_is : (k : Task) → Fanned k → (v : ℕ) (x : Edge) → Memᴰ x (out_of k v) → x.p ≡ separation k v x.to
separation_is k h v x m =
    let e = link-edge k v x.to (edge-link k v x m) in
    ap (λ (y : Edge). y.p) (same_key (λ (y : Edge). y.to) (out_of k v) (h v) m e.1 (sym e.2)) ∙ e.3
