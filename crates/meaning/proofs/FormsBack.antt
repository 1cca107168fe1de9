-- The frames that were read so far: those of whole tasks, each described as a plain task, a ring or a gear table, then those of the one that is open.
use mathlib.Core.Path.{◌≡◌, refl, sym, ap, ap₂, subst, ◌∙◌}
use Prim.Native.Nat.{ℕ, zero, suc, ◌+◌, ◌-◌, ◌≤◌}
use native.Mathlib.Nat.{zero-add}
use native.Mathlib.Omega.{arith}
use mathlib.Core.Option.{Option, none, some}
use mathlib.Core.List.{List, [], ◌∷◌, ◌++◌, map, append_assoc, append-nil}
use lib.ListN.{length, length-map}
use Rattle.meaning.specs.Lists.{gather}
use Rattle.meaning.specs.Table.{Vertex, Edge, Task, Table, edge, task}
use Rattle.meaning.specs.Text.{Begun, begun, linked, closed, ring_to, gear_to}
use Rattle.meaning.specs.Rings.{Link, link_vertex, edges_from, stands_for, Form, plain, ring, gears, task_of, frame_of_link, frames_of_form}
use Rattle.meaning.specs.Writing.{frame_of_task, frame_of_vertex, frame_of_edge, frames_of_task}
use Rattle.meaning.proofs.Lists.{gather_append, map-append, length_snoc}

-- ---- whole tasks, and the open one

-- frames that are those of forms, and the tasks that these stand for
pub record Described (frames : List Form → List (List ℕ)) (gs : List (List ℕ)) (ts : Table) : Type 0 where
  pub forms : List Form
  pub spelt : gs ≡ frames forms
  pub meant : ts ≡ map task_of forms

abbrev pub WholeForms : List (List ℕ) → Table → Type 0
WholeForms = Described (gather frames_of_form)

-- a ring or a gear table, by its own frame's kind and by where its vertices lead
pub record Vendor : Type 0 where
  pub kind : ℕ
  pub to : ℕ → ℕ → ℕ
  pub form : List Link → Form
  pub frames : (xs : List Link) → frames_of_form (form xs) ≡ (kind ∷ length xs ∷ []) ∷ map frame_of_link xs
  pub stands : (xs : List Link) → task_of (form xs) ≡ stands_for to xs

abbrev pub a_ring : Vendor
a_ring = record { kind = 5; to = ring_to; form = ring; frames = λ xs. refl; stands = λ xs. refl }

abbrev pub a_gear_table : Vendor
a_gear_table = record { kind = 7; to = gear_to; form = gears; frames = λ xs. refl; stands = λ xs. refl }

-- the frames os of an open ring or gear table, of `count` vertices: its own, then those of its links, with which its edges come
pub record LinksSoFar (s : Begun) (to : ℕ → ℕ) (os : List (List ℕ)) : Type 0 where
  pub vendor : Vendor
  pub count : ℕ
  pub links : List Link
  pub some_vertex : 1 ≤ count
  pub counted : count ≡ length links + s.want_v
  pub leads : to ≡ vendor.to count
  pub unmasked : s.m ≡ 0
  pub vertices : s.vertices ≡ map link_vertex links
  pub edges : s.edges ≡ edges_from to 0 links
  pub no_edges : s.want_e ≡ 0
  pub spelt : os ≡ (vendor.kind ∷ count ∷ []) ∷ map frame_of_link links

abbrev part_frames : List Vertex → List Edge → List (List ℕ)
part_frames vs es = map frame_of_vertex vs ++ map frame_of_edge es

-- the frames of an open plain task, by how many vertices and edges it will have
abbrev open_frames : ℕ → ℕ → ℕ → List Vertex → List Edge → List (List ℕ)
open_frames m zero e vs es = []
open_frames m (suc v) e vs es = frame_of_task m (suc v) e ∷ part_frames vs es

-- the frames os of the open one; if it is plain, it has no edge before its last vertex
abbrev pub Open : Begun → Option (ℕ → ℕ) → List (List ℕ) → Type 0
Open s none os =
    (1 ≤ s.want_v → s.edges ≡ [])
    × (os ≡ open_frames s.m (length s.vertices + s.want_v) (length s.edges + s.want_e) s.vertices s.edges)
Open s (some to) os = LinksSoFar s to os

-- the frames gs that were read so far
pub record SoFar (s : Begun) (gs : List (List ℕ)) : Type 0 where
  pub whole : List (List ℕ)
  pub part : List (List ℕ)
  pub spelt : gs ≡ whole ++ part
  pub tasks : WholeForms whole s.tasks
  pub held : Open s s.leads part

-- ---- the first frame of the open one

pub part_begin : (z : Begun) (gs : List (List ℕ)) (f g : List ℕ) → f ≡ g → WholeForms gs z.tasks → Open z z.leads (g ∷ [])
    → SoFar z (gs ++ (f ∷ []))
part_begin z gs f g e c o =
    record { whole = gs; part = g ∷ []; spelt = ap (λ (k : List ℕ). gs ++ (k ∷ [])) e; tasks = c; held = o }

pub open_begin : (m v e : ℕ) → 1 ≤ v → frame_of_task m v e ∷ [] ≡ open_frames m (0 + v) (0 + e) [] []
open_begin m zero e h = absurd (omega arith)
open_begin m (suc v) e h =
    let a : 0 + suc v ≡ suc v = omega arith in
    let b : 0 + e ≡ e = omega arith in
    rw (a, b)

pub links_begin : (ts : Table) (v : Vendor) (n : ℕ) → 1 ≤ n → LinksSoFar (linked ts (task 0 [] []) (v.to n) n) (v.to n) ((v.kind ∷ n ∷ []) ∷ [])
links_begin ts v n h =
    record {
      vendor = v;
      count = n;
      links = [];
      some_vertex = h;
      counted = omega arith;
      leads = refl;
      unmasked = refl;
      vertices = refl;
      edges = refl;
      no_edges = refl;
      spelt = refl;
    }

-- ---- one frame more of the open one

pub part_more : (s z : Begun) (gs : List (List ℕ)) (f g : List ℕ) (r : SoFar s gs) → f ≡ g → z.tasks ≡ s.tasks
    → Open z z.leads (r.part ++ (g ∷ [])) → SoFar z (gs ++ (f ∷ []))
part_more s z gs f g r e q o =
    record {
      whole = r.whole;
      part = r.part ++ (g ∷ []);
      spelt = ap₂ (λ (l : List (List ℕ)) (k : List ℕ). l ++ (k ∷ [])) r.spelt e ∙ append_assoc r.whole r.part (g ∷ []);
      tasks = subst (WholeForms r.whole) (sym q) r.tasks;
      held = o;
    }

-- a plain task of n vertices and e edges, with one more part
open_more : (s : Begun) (os : List (List ℕ)) (n e : ℕ) (ws : List Vertex) (fs : List Edge) (f : List ℕ) → Open s none os → 1 ≤ n
    → n ≡ length s.vertices + s.want_v → e ≡ length s.edges + s.want_e → part_frames ws fs ≡ part_frames s.vertices s.edges ++ (f ∷ [])
    → os ++ (f ∷ []) ≡ open_frames s.m n e ws fs
open_more s os zero e ws fs f o h p q r = absurd (omega arith)
open_more s os (suc n) e ws fs f o h p q r =
    ap (λ (l : List (List ℕ)). l ++ (f ∷ [])) o.1
    ∙ rw (← p, ← q) (ap (λ (l : List (List ℕ)). frame_of_task s.m (suc n) e ∷ l) (sym r))

-- a plain task with the vertex x
abbrev pub with_vertex : Begun → Vertex → Begun
with_vertex s x = begun s.tasks (task s.m (s.vertices ++ (x ∷ [])) s.edges) (s.want_v - 1) s.want_e

pub vertex_more : (s : Begun) (os : List (List ℕ)) (x : Vertex) → Open s none os → 1 ≤ s.want_v
    → Open (with_vertex s x) none (os ++ (frame_of_vertex x ∷ []))
vertex_more s os x o w =
    let vs = s.vertices ++ (x ∷ []) in
    let more = length_snoc s.vertices x in (
      λ k. o.0 w,
      open_more s os (length vs + (s.want_v - 1)) (length s.edges + s.want_e) vs s.edges (frame_of_vertex x) o (omega arith) (omega arith) refl
          (rw (o.0 w, append-nil (map frame_of_vertex s.vertices), append-nil (map frame_of_vertex (s.vertices ++ (x ∷ []))))
          (map-append frame_of_vertex s.vertices (x ∷ []))),
    )

-- and with the edge x
abbrev pub with_edge : Begun → Edge → Begun
with_edge s x = begun s.tasks (task s.m s.vertices (s.edges ++ (x ∷ []))) 0 (s.want_e - 1)

pub edge_more : (s : Begun) (os : List (List ℕ)) (x : Edge) → Open s none os → s.want_v ≡ 0 → 1 ≤ s.want_e → 1 ≤ length s.vertices
    → Open (with_edge s x) none (os ++ (frame_of_edge x ∷ []))
edge_more s os x o v w h =
    let es = s.edges ++ (x ∷ []) in
    let more = length_snoc s.edges x in
    let vs = s.vertices in (
      λ k. absurd (omega arith),
      open_more s os (length vs + 0) (length es + (s.want_e - 1)) vs es (frame_of_edge x) o (omega arith) (omega arith) (omega arith)
          (ap (λ (l : List (List ℕ)). map frame_of_vertex s.vertices ++ l) (map-append frame_of_edge s.edges (x ∷ []))
          ∙ sym (append_assoc (map frame_of_vertex s.vertices) (map frame_of_edge s.edges) (frame_of_edge x ∷ []))),
    )

edges_snoc : (to : ℕ → ℕ) (i : ℕ) (xs : List Link) (x : Link)
    → edges_from to i (xs ++ (x ∷ [])) ≡ edges_from to i xs ++ (edge (i + length xs) (to (i + length xs)) x.p ∷ [])
edges_snoc to i [] x = let o : i + 0 ≡ i = omega arith in rw o
edges_snoc to i (y ∷ xs) x =
    let o : suc i + length xs ≡ i + suc (length xs) = omega arith in
    ap (λ (l : List Edge). edge i (to i) y.p ∷ l) (edges_snoc to (suc i) xs x ∙ rw o)

-- a ring or a gear table with the link x
abbrev pub with_link : Begun → (ℕ → ℕ) → Link → Begun
with_link s to x =
    let i = length s.vertices in
    linked s.tasks (task s.m (s.vertices ++ (link_vertex x ∷ [])) (s.edges ++ (edge i (to i) x.p ∷ []))) to (s.want_v - 1)

pub link_more_lem : (s : Begun) (to : ℕ → ℕ) (os : List (List ℕ)) (x : Link) → LinksSoFar s to os → 1 ≤ s.want_v
    → LinksSoFar (with_link s to x) to (os ++ (frame_of_link x ∷ []))
link_more_lem s to os x o w =
    record {
      vendor = o.vendor;
      count = o.count;
      links = o.links ++ (x ∷ []);
      some_vertex = o.some_vertex;
      counted = omega (arith, o.counted, length_snoc o.links x);
      leads = o.leads;
      unmasked = o.unmasked;
      vertices = ap (λ (l : List Vertex). l ++ (link_vertex x ∷ [])) o.vertices ∙ sym (map-append link_vertex o.links (x ∷ []));
      edges =
          ap₂ (λ (l : List Edge) (j : ℕ). l ++ (edge j (to j) x.p ∷ [])) o.edges
          (ap length o.vertices ∙ length-map o.links link_vertex ∙ sym (zero-add (length o.links)))
          ∙ sym (edges_snoc to 0 o.links x);
      no_edges = refl;
      spelt =
          ap (λ (l : List (List ℕ)). l ++ (frame_of_link x ∷ [])) o.spelt
          ∙ ap (λ (l : List (List ℕ)). (o.vendor.kind ∷ o.count ∷ []) ∷ l) (sym (map-append frame_of_link o.links (x ∷ [])));
    }

-- ---- one task more

form_more : (gs os : List (List ℕ)) (ts : Table) (x : Form) → WholeForms gs ts → os ≡ frames_of_form x → WholeForms (gs ++ os) (ts ++ (task_of x ∷ []))
form_more gs os ts x r e =
    record {
      forms = r.forms ++ (x ∷ []);
      spelt =
          ap₂ (λ (a b : List (List ℕ)). a ++ b) r.spelt (e ∙ sym (append-nil (frames_of_form x)))
          ∙ sym (gather_append frames_of_form r.forms (x ∷ []));
      meant = ap (λ (l : Table). l ++ (task_of x ∷ [])) r.meant ∙ sym (map-append task_of r.forms (x ∷ []));
    }

-- of the open one, read to its end
part-whole : (s : Begun) (ws os : List (List ℕ)) (l : Option (ℕ → ℕ)) → WholeForms ws s.tasks → Open s l os → s.want_v ≡ 0 → s.want_e ≡ 0
    → WholeForms (ws ++ os) (closed s)
part-whole s ws os none r o v e = go s.vertices refl
  where
    go : (vs : List Vertex) → s.vertices ≡ vs → WholeForms (ws ++ os) (closed s)
    go [] q = let z : os ≡ [] = o.1 ∙ rw (q, v) in rw (q, z, append-nil ws) r
    go (x ∷ xs) q =
        let a : length (x ∷ xs) + 0 ≡ suc (length xs) = omega arith in
        let b : length s.edges + 0 ≡ length s.edges = omega arith in
        let z : os ≡ frames_of_task (task s.m (x ∷ xs) s.edges) = o.1 ∙ rw (q, v, e, a, b) in
        rw q (form_more ws os s.tasks (plain (task s.m (x ∷ xs) s.edges)) r z)
part-whole s ws os (some to) r o v e =
    subst (WholeForms (ws ++ os)) (sym (closes o.links refl ∙ ap (λ (k : Task). s.tasks ++ (k ∷ [])) stands))
    (form_more ws os s.tasks (o.vendor.form o.links) r spelt)
  where
    count_is : o.count ≡ length o.links
    count_is = omega (arith, o.counted, v)

    spelt : os ≡ frames_of_form (o.vendor.form o.links)
    spelt = o.spelt ∙ rw count_is (sym (o.vendor.frames o.links))

    stands : task s.m s.vertices s.edges ≡ task_of (o.vendor.form o.links)
    stands = rw (o.unmasked, o.vertices, o.edges, o.leads, count_is) (sym (o.vendor.stands o.links))

    closes : (xs : List Link) → o.links ≡ xs → closed s ≡ s.tasks ++ (task s.m s.vertices s.edges ∷ [])
    closes [] q = absurd (omega (arith, o.some_vertex, count_is, ap length q))
    closes (x ∷ xs) q = rw (o.vertices, q)

pub closed-whole : (s : Begun) (gs : List (List ℕ)) → SoFar s gs → s.want_v ≡ 0 → s.want_e ≡ 0 → WholeForms gs (closed s)
closed-whole s gs r v e =
    subst (λ (l : List (List ℕ)). WholeForms l (closed s)) (sym r.spelt) (part-whole s r.whole r.part s.leads r.tasks r.held v e)
