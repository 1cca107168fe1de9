-- The columns say the task that the record stands for.
use mathlib.Core.Path.{◌≡◌, refl, sym, ap, ap₂, subst, ◌∙◌}
use Prim.Native.Nat.{ℕ, zero, suc, ◌+◌, ◌-◌, ◌≤◌, ◌<◌}
use native.Mathlib.Omega.{arith}
use native.Mathlib.Decide.{dec_lt}
use borrow.Author.Tests.{eq-eqb, ne_eqb}
use mathlib.Core.Bool.{Bool, true, false}
use mathlib.Core.List.Memᴰ
use mathlib.Core.List.{List, [], ◌∷◌, map}
use lib.Dec.{eqb}
use lib.ListN.{length, get_or, take, drop, set, replicate, length-map, length-replicate, get_or-append, get_or-map, get_or-eq_default}
use lib.Seq.{sets, sets-eq, length-take-le, get_or-take}
use Rattle.meaning.specs.Lists.{pick, those, count_from, Rising}
use Rattle.meaning.specs.Bounds.{most_vertices, most_edges}
use Rattle.meaning.specs.Table as Meant
use Rattle.meaning.specs.Paths.{out_of, execution}
use Rattle.meaning.proofs.Lists.{count_from_mem}
use Rattle.table.specs.declared.Edge.{Edge}
use Rattle.table.specs.declared.Task.{Task}
use Rattle.table.specs.Record.{no_vertex, no_edge, vertex_of, edge_of}
use Rattle.table.specs.Inner.{task_of}
use Rattle.columns.specs.Columns.{execution_in, edge_cell, Ready, edges_of, SoundColumns, edge_at, ColumnsOf, Sorted, Cuts}
use Rattle.meaning.proofs.Stores.{col_more, sets_after}

col_at : (Z s : List ℕ) (n j : ℕ) → j < n → n ≤ length s → n ≤ length Z → get_or (sets Z 0 (take n s)) j 0 ≡ get_or s j 0
col_at Z s n j h a b =
    let l : length (take n s) ≡ n = length-take-le n s a in
    ap (λ (w : List ℕ). get_or w j 0) (sets-eq (take n s) Z 0 (omega arith))
    ∙ get_or-append (take n s) (drop (0 + length (take n s)) Z) 0 j (omega arith) ∙ get_or-take n s j 0 h

zeros-at : (n j : ℕ) → get_or (replicate {A = ℕ} n 0) j 0 ≡ 0
zeros-at zero j = refl
zeros-at (suc n) zero = refl
zeros-at (suc n) (suc j) = zeros-at n j

col_past : (c n j : ℕ) (s : List ℕ) → n ≤ j → n ≤ length s → get_or (sets (replicate c 0) 0 (take n s)) j 0 ≡ 0
col_past c n j s h a =
    let l : length (take n s) ≡ n = length-take-le n s a in
    sets_after (take n s) (replicate c 0) 0 j (omega arith) ∙ zeros-at c j

-- ---- the columns say the task

those-none : {X : Type 0} (f : X → Bool) (z : X) (es : List X) → ((j : ℕ) → j < length es → f (get_or es j z) ≡ false) → those f es ≡ []
those-none f z [] h = refl
those-none f z (x ∷ es) h = ap (λ (b : Bool). pick b (x ∷ those f es) (those f es)) (h 0 (omega arith)) ∙ those-none f z es (λ j l. h (suc j) (omega arith))

count_shift : {X : Type 0} (f g : ℕ → X) (a n : ℕ) → ((j : ℕ) → f j ≡ g (suc j)) → map f (count_from a n) ≡ map g (count_from (suc a) n)
count_shift f g a zero h = refl
count_shift f g a (suc n) h = ap₂ (λ x (y : List _). x ∷ y) (h a) (count_shift f g (suc a) n h)

-- the elements from a up to b, where the test holds of those and of no other
those-range : {X : Type 0} (f : X → Bool) (z : X) (es : List X) (a b : ℕ) → a ≤ b → b ≤ length es
    → ((j : ℕ) → j < a → f (get_or es j z) ≡ false) → ((j : ℕ) → a ≤ j → j < b → f (get_or es j z) ≡ true)
    → ((j : ℕ) → b ≤ j → j < length es → f (get_or es j z) ≡ false)
    → those f es ≡ map (λ (j : ℕ). get_or es j z) (count_from a (b - a))
those-range f z [] a b h l p q r = let y : b - a ≡ 0 = omega arith in rw y
those-range f z (x ∷ es) zero zero h l p q r = those-none f z (x ∷ es) (λ j m. r j (omega arith) m)
those-range f z (x ∷ es) zero (suc b) h l p q r =
    let y : suc b - 0 ≡ suc b = omega arith in
    let w : b - 0 ≡ b = omega arith in
    ap (λ (t : Bool). pick t (x ∷ those f es) (those f es)) (q 0 (omega arith) (omega arith))
    ∙ ap (λ (t : List _). x ∷ t) (those-range f z es zero b (omega arith) (omega arith) (λ j m. absurd (omega arith))
    (λ j m n. q (suc j) (omega arith) (omega arith)) (λ j m n. r (suc j) (omega arith) (omega arith))
    ∙ ap (λ (n : ℕ). map (λ (j : ℕ). get_or es j z) (count_from 0 n)) w
    ∙ count_shift (λ (j : ℕ). get_or es j z) (λ (j : ℕ). get_or (x ∷ es) j z) 0 b (λ j. refl))
    ∙ ap (λ (n : ℕ). map (λ (j : ℕ). get_or (x ∷ es) j z) (count_from 0 n)) (sym y)
those-range f z (x ∷ es) (suc a) zero h l p q r = absurd (omega arith)
those-range f z (x ∷ es) (suc a) (suc b) h l p q r =
    let y : suc b - suc a ≡ b - a = omega arith in
    ap (λ (t : Bool). pick t (x ∷ those f es) (those f es)) (p 0 (omega arith))
    ∙ those-range f z es a b (omega arith) (omega arith) (λ j m. p (suc j) (omega arith))
    (λ j m n. q (suc j) (omega arith) (omega arith)) (λ j m n. r (suc j) (omega arith) (omega arith))
    ∙ count_shift (λ (j : ℕ). get_or es j z) (λ (j : ℕ). get_or (x ∷ es) j z) a (b - a) (λ j. refl)
    ∙ ap (λ (n : ℕ). map (λ (j : ℕ). get_or (x ∷ es) j z) (count_from (suc a) n)) (sym y)

map_range : {X : Type 0} (f g : ℕ → X) (a n : ℕ) → ((j : ℕ) → a ≤ j → j < a + n → f j ≡ g j) → map f (count_from a n) ≡ map g (count_from a n)
map_range f g a zero h = refl
map_range f g a (suc n) h = ap₂ (λ x (y : List _). x ∷ y) (h a (omega arith) (omega arith)) (map_range f g (suc a) n (λ j l m. h j (omega arith) (omega arith)))

rising_range : {X : Type 0} (R : X → X → Type 0) (f : ℕ → X) (a n : ℕ)
    → ((i j : ℕ) → a ≤ i → i < j → j < a + n → R (f i) (f j)) → Rising R (map f (count_from a n))
rising_range R f a zero h = tt
rising_range R f a (suc n) h = (
  λ y m.
      let r = Memᴰ.of_map f (count_from (suc a) n) m in
      let b = count_from_mem (suc a) n r.0 r.1 in
      subst (λ z. R (f a) z) r.2 (h a r.0 (omega arith) (omega arith) (omega arith)),
  rising_range R f (suc a) n (λ i j x y z. h i j (omega arith) y (omega arith)),
)

abbrev pub from_in : Edge → ℕ
from_in x = x.from.0

abbrev pub to_in : Edge → ℕ
to_in x = x.to.0

abbrev pub p_in : Edge → ℕ
p_in x = x.p.0

abbrev pub no_meant_edge : Meant.Edge
no_meant_edge = record { from = 0; to = 0; p = 0 }

abbrev pub Column : Task → (Edge → ℕ) → List ℕ → Type 0
Column t f c = c ≡ sets (replicate most_edges 0) 0 (take t.ne (map f t.edges))

module _ (t : Task) (s : Ready t) where
  edges_in : (f : Edge → ℕ) → t.ne ≤ length (map f t.edges)
  edges_in f = omega (arith, length-map t.edges f, s.cells_e, s.links)

  column_at : (f : Edge → ℕ) (c : List ℕ) → f no_edge ≡ 0 → Column t f c → (j : ℕ) → j < t.ne → get_or c j 0 ≡ f (edge_cell t j)
  column_at f c z e j h =
      ap (λ (w : List ℕ). get_or w j 0) e
      ∙ col_at (replicate most_edges 0) (map f t.edges) t.ne j h (edges_in f) (omega (arith, length-replicate {A = ℕ} most_edges 0, s.links))
      ∙ ap (get_or (map f t.edges) j) (sym z) ∙ get_or-map f t.edges j no_edge

  module _ (from start to p e : List ℕ) (ef : Column t from_in from) (et : Column t to_in to) (ep : Column t p_in p)
      (ee : e ≡ sets (replicate most_vertices 0) 0 (take t.nv (map execution_in t.vertices))) (cu : Cuts from t.ne start) where
    from_at : (j : ℕ) → j < t.ne → get_or from j 0 ≡ (edge_cell t j).from.0
    from_at = column_at from_in from refl ef

    rises : (u w : ℕ) → u ≤ w → w ≤ most_vertices → get_or start u 0 ≤ get_or start w 0
    rises u w h l = elim (dec_lt (get_or start w 0) (get_or start u 0)) [
      | no x ↦ omega arith
      | yes x ↦ absurd (omega (
        arith,
        (cu u (omega arith)).below (get_or start w 0) x,
        (cu w l).above (get_or start w 0) (omega arith) (omega (arith, (cu u (omega arith)).high)),
      ))
    ]

    full : get_or start most_vertices 0 ≤ t.ne
    full = (cu most_vertices (omega arith)).high

    sound : SoundColumns start to p
    sound = record {
      rise = λ v h. rises v (v + 1) (omega arith) (omega arith);
      ends = λ v h. rises (v + 1) most_vertices (omega arith) (omega arith);
      few = omega (arith, full, s.links);
      apart = λ k h. omega (arith, column_at p_in p refl ep k (omega (arith, full)), s.apart k (omega (arith, full)));
      within = λ k h. omega (arith, column_at to_in to refl et k (omega (arith, full)), s.to k (omega (arith, full)), s.few);
    }

    es_length : length (map edge_of (take t.ne t.edges)) ≡ t.ne
    es_length = length-map (take t.ne t.edges) edge_of ∙ length-take-le t.ne t.edges (omega (arith, s.cells_e, s.links))

    es_at : (j : ℕ) → j < t.ne → get_or (map edge_of (take t.ne t.edges)) j no_meant_edge ≡ edge_of (edge_cell t j)
    es_at j h = get_or-map edge_of (take t.ne t.edges) j no_edge ∙ ap edge_of (get_or-take t.ne t.edges j no_edge h)

    own_test : (v j : ℕ) → j < t.ne → eqb (get_or (map edge_of (take t.ne t.edges)) j no_meant_edge).from v ≡ eqb (get_or from j 0) v
    own_test v j h = ap (λ (x : Meant.Edge). eqb x.from v) (es_at j h) ∙ ap (λ (n : ℕ). eqb n v) (sym (from_at j h))

    outs : (v : ℕ) → v < most_vertices → out_of (task_of t) v ≡ map (edge_at to p v) (edges_of start v)
    outs v h =
        let a = cu v (omega arith) in
        let b = cu (v + 1) (omega arith) in
        let bh = b.high in
        let r = rises v (v + 1) (omega arith) (omega arith) in
        those-range (λ (x : Meant.Edge). eqb x.from v) no_meant_edge (map edge_of (take t.ne t.edges))
        (get_or start v 0) (get_or start (v + 1) 0) r (omega (arith, es_length))
        (λ j l. own_test v j (omega arith) ∙ ne_eqb (get_or from j 0) v (λ q. omega (arith, a.below j l)))
        (λ j l m. own_test v j (omega arith) ∙ eq-eqb (get_or from j 0) v (omega (arith, a.above j l (omega arith), b.below j m)))
        (λ j l m. own_test v j (omega (arith, es_length)) ∙ ne_eqb (get_or from j 0) v (λ q. omega (arith, b.above j l (omega (arith, es_length)))))
        ∙ map_range (λ (j : ℕ). get_or (map edge_of (take t.ne t.edges)) j no_meant_edge)
        (edge_at to p v) (get_or start v 0) (get_or start (v + 1) 0 - get_or start v 0)
        (λ j l m.
        let jm : j < t.ne = omega arith in
        let q : (edge_cell t j).from.0 ≡ v = omega (arith, from_at j jm, a.above j l jm, b.below j (omega arith)) in
        es_at j jm ∙ same q (sym (column_at to_in to refl et j jm)) (sym (column_at p_in p refl ep j jm)))
      where
        same : {x x' y y' z z' : ℕ} → x ≡ x' → y ≡ y' → z ≡ z'
            → ◌≡◌ {A = Meant.Edge} (record { from = x; to = y; p = z }) (record { from = x'; to = y'; p = z' })
        same q r w = cc

    fan : (v : ℕ) → Rising (λ (x y : Meant.Edge). x.to < y.to) (out_of (task_of t) v)
    fan v = elim (dec_lt v most_vertices) [
      | yes h ↦
          let a = cu v (omega arith) in
          let b = cu (v + 1) (omega arith) in
          let bh = b.high in
          let r = rises v (v + 1) (omega arith) (omega arith) in
          subst (Rising (λ (x y : Meant.Edge). x.to < y.to)) (sym (outs v h))
          (rising_range (λ (x y : Meant.Edge). x.to < y.to) (edge_at to p v) (get_or start v 0) (get_or start (v + 1) 0 - get_or start v 0)
          (λ i j x y z.
          let jm : j < t.ne = omega arith in
          let im : i < t.ne = omega arith in
          let qi : (edge_cell t i).from.0 ≡ v = omega (arith, from_at i im, a.above i x im, b.below i (omega arith)) in
          let qj : (edge_cell t j).from.0 ≡ v = omega (arith, from_at j jm, a.above j (omega arith) jm, b.below j (omega arith)) in
          omega (arith, column_at to_in to refl et i im, column_at to_in to refl et j jm, s.fanned i j y jm (qi ∙ sym qj))))
      | no h ↦ subst (Rising (λ (x y : Meant.Edge). x.to < y.to))
          (sym (those-none (λ (x : Meant.Edge). eqb x.from v) no_meant_edge (map edge_of (take t.ne t.edges))
          (λ j l. own_test v j (omega (arith, es_length))
          ∙ ne_eqb (get_or from j 0) v (λ q. omega (arith, from_at j (omega (arith, es_length)), s.from j (omega (arith, es_length)), s.few))))) tt
    ]

    vertices_in : t.nv ≤ length (map execution_in t.vertices)
    vertices_in = omega (arith, length-map t.vertices execution_in, s.cells_v, s.few)

    vs_length : length (map vertex_of (take t.nv t.vertices)) ≡ t.nv
    vs_length = length-map (take t.nv t.vertices) vertex_of ∙ length-take-le t.nv t.vertices (omega (arith, s.cells_v, s.few))

    co : (v : ℕ) → v < most_vertices → get_or e v 0 ≡ execution (task_of t) v
    unfolding execution
    co v h = elim (dec_lt v t.nv) [
      | yes l ↦
          ap (λ (w : List ℕ). get_or w v 0) ee ∙ col_at (replicate most_vertices 0) (map execution_in t.vertices)
          t.nv v l vertices_in (omega (arith, length-replicate {A = ℕ} most_vertices 0, s.few))
          ∙ get_or-map execution_in t.vertices v no_vertex
          ∙ sym (ap (λ (x : Meant.Vertex). x.e)
          (get_or-map vertex_of (take t.nv t.vertices) v no_vertex ∙ ap vertex_of (get_or-take t.nv t.vertices v no_vertex l)))
      | no l ↦
          ap (λ (w : List ℕ). get_or w v 0) ee ∙ col_past most_vertices t.nv v (map execution_in t.vertices) (omega arith) vertices_in
          ∙ sym (ap (λ (x : Meant.Vertex). x.e)
          (get_or-eq_default (map vertex_of (take t.nv t.vertices)) Meant.no_vertex {n = v} (omega (arith, vs_length))))
    ]

    pub columns_say : ColumnsOf (task_of t) e start to p
    unfolding execution
    columns_say = record {
      sound = sound;
      size = omega (arith, vs_length, s.few);
      fanned = fan;
      executions = co;
      outs = outs;
    }

-- ---- the loop of `columns_of`

abbrev pub Front : Task → (Edge → ℕ) → List ℕ → ℕ → Type 0
Front t f c k = c ≡ sets (replicate most_edges 0) 0 (take k (map f t.edges))

-- of the front of n edges the one at k
pub front_more : (t : Task) → Ready t → {n : ℕ} → n ≡ t.ne → (f : Edge → ℕ) (c : List ℕ) (k : ℕ) → f no_edge ≡ 0
    → k < length (take n t.edges) → Front t f c k → Front t f (set c k (f (get_or (take n t.edges) k no_edge))) (k + 1)
front_more t s {n} all f c k z h e =
    let l : length (take n t.edges) ≡ n = length-take-le n t.edges (omega (arith, s.cells_e, s.links)) in
    col_more (replicate most_edges 0) c (map f t.edges) k (f (get_or (take n t.edges) k no_edge)) (omega (arith, edges_in t s f)) e
    (ap f (get_or-take n t.edges k no_edge (omega arith)) ∙ sym (ap (get_or (map f t.edges) k) (sym z) ∙ get_or-map f t.edges k no_edge))

module _ (t : Task) (s : Ready t) {n : ℕ} (all : n ≡ t.ne) {k : ℕ} (low : k ≤ length (take n t.edges)) (high : length (take n t.edges) ≤ k) where
  pub front-all : (f : Edge → ℕ) (c : List ℕ) → Front t f c k → Column t f c
  front-all f c e =
      let l : length (take n t.edges) ≡ n = length-take-le n t.edges (omega (arith, s.cells_e, s.links)) in
      let whole : k ≡ t.ne = omega arith in
      e ∙ ap (λ (m : ℕ). sets (replicate most_edges 0) 0 (take m (map f t.edges))) whole

pub column_sorted : (t : Task) → Ready t → (c : List ℕ) → Column t from_in c → Sorted c t.ne
column_sorted t s c e i j a b =
    omega (arith, column_at t s from_in c refl e i (omega arith), column_at t s from_in c refl e j b, s.sorted i j a b)
