-- The complete paths from a vertex, one turn at a time: alone, or on by each edge that leaves room.
use mathlib.Core.Path.{◌≡◌, refl, sym, subst}
use Prim.Native.Nat.{ℕ, zero, suc, ◌-◌, ◌<◌, zero-le}
use native.Mathlib.Omega.{arith}
use mathlib.Core.Logic.{◌⊎◌, inl, inr}
use mathlib.Core.List.Memᴰ
use mathlib.Core.List.{List, [], ◌∷◌, Memᴰ}
use lib.ListN.{length}
use lib.Dec.{T, ltb, ltb→lt, lt→ltb}
use Rattle.meaning.specs.Lists.{those, gather, below}
use Rattle.meaning.specs.Table.{Edge, Task}
use Rattle.meaning.specs.Paths.{Path, out_of, linked, legal, or_alone, paths_from, complete_paths}
use Rattle.meaning.proofs.Lists.{both, mem_those, those_mem, mem_gather, gather_mem, mem_count_from, count_from_mem}
use Rattle.meaning.proofs.Edges.{on_by_lem}

-- the paths that go on from v
abbrev pub onward : Task → ℕ → ℕ → ℕ → List Path
onward k n room v = gather (λ (x : Edge). paths_from k n (room - x.p) x.to) (those (λ (x : Edge). ltb x.p room) (out_of k v))

pub mem_onward : (k : Task) (n room v : ℕ) (x : Edge) {w : Path} → Memᴰ x (out_of k v)
    → x.p < room → Memᴰ w (paths_from k n (room - x.p) x.to) → Memᴰ w (onward k n room v)
mem_onward k n room v x m h j = mem_gather (λ (y : Edge). paths_from k n (room - y.p) y.to)
    (mem_those (λ (y : Edge). ltb y.p room) m (lt→ltb x.p room h)) j

-- the edge by which a path goes on
pub record By (k : Task) (n room v : ℕ) (w : Path) : Type 0 where
  pub edge : Edge
  pub out : Memᴰ edge (out_of k v)
  pub fits : edge.p < room
  pub then : Memᴰ w (paths_from k n (room - edge.p) edge.to)

pub onward_mem : (k : Task) (n room v : ℕ) {w : Path} → Memᴰ w (onward k n room v) → By k n room v w
onward_mem k n room v m =
    let r = gather_mem (λ (x : Edge). paths_from k n (room - x.p) x.to) (those (λ (x : Edge). ltb x.p room) (out_of k v)) m in
    let t = those_mem (λ (x : Edge). ltb x.p room) (out_of k v) r.1 in
    record { edge = r.0; out = t.0; fits = ltb→lt r.0.p room t.1; then = r.2 }

-- ---- alone, or going on

pub alone_nil : (v : ℕ) (ws : List Path) → ws ≡ [] → Memᴰ (v ∷ []) (or_alone v ws)
alone_nil v ws q = subst (λ (l : List Path). Memᴰ (v ∷ []) (or_alone v l)) (sym q) (Memᴰ.head refl)

pub alone_mem : (v : ℕ) (ws : List Path) {w : Path} → Memᴰ w ws → Memᴰ (v ∷ w) (or_alone v ws)
alone_mem v [] m = absurd (Memᴰ.not-nil m)
alone_mem v (x ∷ xs) m = Memᴰ.map (λ (q : Path). v ∷ q) m

pub alone_cases : (v : ℕ) (ws : List Path) {c : Path} → Memᴰ c (or_alone v ws) → ((ws ≡ []) × (c ≡ v ∷ [])) ⊎ ((q : Path) × Memᴰ q ws × (c ≡ v ∷ q))
alone_cases v [] m = inl (refl, Memᴰ.eq_of_singleton m)
alone_cases v (w ∷ ws) m = let r = Memᴰ.of_map (λ (q : Path). v ∷ q) (w ∷ ws) m in inr (r.0, r.1, sym r.2)

-- there is always a path from v
alone_some : (v : ℕ) (ws : List Path) → (w : Path) × Memᴰ (v ∷ w) (or_alone v ws)
alone_some v [] = ([], Memᴰ.head refl)
alone_some v (x ∷ xs) = (x, Memᴰ.head refl)

pub some_path_lem : (k : Task) (n room v : ℕ) → (w : Path) × Memᴰ (v ∷ w) (paths_from k n room v)
some_path_lem k zero room v = ([], Memᴰ.head refl)
some_path_lem k (suc n) room v = alone_some v (onward k n room v)

-- ---- a path from v begins with v, and is linked

pub linked_from : (k : Task) (n room v : ℕ) {c : Path} → Memᴰ c (paths_from k n room v) → (w : Path) × (c ≡ v ∷ w) × T (linked k v w)
linked_from k zero room v m = ([], Memᴰ.eq_of_singleton m, tt)
linked_from k (suc n) room v {c} m = go (λ x q j. linked_from k n (room - x.p) x.to {c = q} j) (alone_cases v (onward k n room v) m)
  where
    go : ((x : Edge) (q : Path) → Memᴰ q (paths_from k n (room - x.p) x.to) → (w : Path) × (q ≡ x.to ∷ w) × T (linked k x.to w))
        → ((onward k n room v ≡ []) × (c ≡ v ∷ [])) ⊎ ((q : Path) × Memᴰ q (onward k n room v) × (c ≡ v ∷ q)) → (w : Path) × (c ≡ v ∷ w) × T (linked k v w)
    go ih (inl (z, h)) = ([], h, tt)
    go ih (inr (q, j, h)) =
        let r = onward_mem k n room v j in
        let i = ih r.edge q r.then in
        (q, h, on_by_lem k v r.edge i.0 q r.out i.1 i.2)

-- ---- the complete paths of a task

pub mem_complete : (k : Task) (d v : ℕ) {w : Path} → v < length k.vertices → Memᴰ w (paths_from k d d v) → Memᴰ w (complete_paths k d)
unfolding complete_paths
mem_complete k d v h m = mem_gather (paths_from k d d) (mem_count_from 0 (length k.vertices) v zero-le (omega arith)) m

pub complete_mem : (k : Task) (d : ℕ) {w : Path} → Memᴰ w (complete_paths k d) → (v : ℕ) × (v < length k.vertices) × Memᴰ w (paths_from k d d v)
unfolding complete_paths
complete_mem k d m =
    let r = gather_mem (paths_from k d d) (below (length k.vertices)) m in
    (r.0, omega (arith, count_from_mem 0 (length k.vertices) r.0 r.1), r.2)

pub complete-legal : (k : Task) (d : ℕ) {c : Path} → Memᴰ c (complete_paths k d) → T (legal k c)
complete-legal k d m =
    let r = complete_mem k d m in
    let l = linked_from k d d r.0 r.2 in
    subst (λ (z : Path). T (legal k z)) (sym l.1)
    (both (ltb r.0 (length k.vertices)) (linked k r.0 l.0) (lt→ltb r.0 (length k.vertices) r.1) l.2)
