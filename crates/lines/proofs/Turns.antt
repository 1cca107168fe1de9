-- One turn of each loop over a plain task's lines, and the whole plain task.
use mathlib.Core.Path.{◌≡◌, sym, ap, ◌∙◌}
use Prim.Native.Nat.{ℕ, suc, ◌+◌, ◌-◌, ◌*◌, ◌≤◌, ◌<◌}
use native.Mathlib.Omega.{arith}
use mathlib.Core.Bool.{Bool, true, false}
use mathlib.Core.List.{List}
use lib.ListN.{length, drop, take, set, replicate, length-drop, length-replicate}
use lib.Seq.{take_all, drop-drop}
use Rattle.std.proofs.lemmas.List.{length-take-le}
use Rattle.meaning.specs.Bounds.{most_vertices, most_edges}
use Rattle.kinds.specs.declared.Refusal.{Refusal}
use Rattle.kinds.specs.declared.Refusal.TheVariants.{OutOfBounds}
use Rattle.kinds.specs.declared.Ticks.{Ticks}
use Rattle.table.specs.declared.Vertex.{Vertex}
use Rattle.table.specs.declared.Edge.{Edge}
use Rattle.table.specs.Record.{task_cells, no_vertex, no_edge}
use Rattle.table.specs.Inner.{largest_of}
use Rattle.std.specs.Prelude.{Result, Ok, Err}
use Rattle.lines.specs.declared.Stopped.{Stopped}
use Rattle.frames.specs.Frames.{part_bytes, vertex_line, edge_line}
use Rattle.rules.specs.Rules.{mask_covered, least_after}
use Rattle.lines.specs.Parts.{TaskTaken, stopped, behind, took_task, part_then, vertices_on, vertex_lines, edges_on, edge_lines, covers, plain_lines}
use Rattle.frames.proofs.VertexRead.{vertex-long}
use Rattle.lines.proofs.Vertices.{vertices_reach, vertices_places}
use Rattle.frames.proofs.EdgeRead.{edge_has}
use Rattle.lines.proofs.Gives.{was_taken}

-- the part of a text that is lent from a place on
abbrev pub lent : List ℕ → ℕ → List ℕ
lent s at = take (length s - at) (drop at s)

pub lent-drop : (s : List ℕ) (at : ℕ) → lent s at ≡ drop at s
lent-drop s at = take_all (length s - at) (drop at s) (omega (arith, length-drop at s))

-- the line behind i of eleven bytes, from a place on
abbrev pub part_at : ℕ → ℕ → ℕ
part_at from i = from + i * part_bytes

part_next : (s : List ℕ) (from i : ℕ) → drop part_bytes (drop (part_at from i) s) ≡ drop (part_at from (i + 1)) s
part_next s from i =
    let o : part_at from i + part_bytes ≡ part_at from (i + 1) = omega arith in
    drop-drop part_bytes (part_at from i) s ∙ ap (λ (z : ℕ). drop z s) o

-- ---- vertices

-- before a turn of the loop: i of n vertices are taken, and going on from here gives them all
pub record VertexTurn (s : List ℕ) (from n : ℕ) (vs : List Vertex) (i : ℕ) : Type 0 where
  pub few : i ≤ n
  pub inside : part_at from i ≤ length s
  pub going : vertices_on i vs (n - i) (drop (part_at from i) s) ≡ vertex_lines n (drop from s)

pub vertices-first : (s : List ℕ) (from n : ℕ) (v : Vertex) → from ≤ length s → v ≡ no_vertex → VertexTurn s from n (replicate most_vertices v) 0
vertices-first s from n v h e =
    let o : n - 0 ≡ n = omega arith in
    let p : part_at from 0 ≡ from = omega arith in
    record { few = omega arith; inside = omega arith; going = rw (e, o, p) }

module _ {s : List ℕ} {from n : ℕ} {vs : List Vertex} {i : ℕ} (turn : VertexTurn s from n vs i) where
  pub vertices_end : n ≤ i → Ok vs ≡ vertex_lines n (drop from s)
  unfolding vertices_on
  vertices_end h =
      let o : n - i ≡ 0 = omega arith in
      rw (← turn.going, o)

  -- the line gives g
  module _ {g : Result Vertex Refusal} (more : i < n) (gives : g ≡ vertex_line (lent s (part_at from i))) where
    vertex-here : vertex_line (drop (part_at from i) s) ≡ g
    vertex-here = sym (gives ∙ ap vertex_line (lent-drop s (part_at from i)))

    one-vertex : n - i ≡ suc (n - (i + 1))
    one-vertex = omega arith

    pub vertices_stop : {w : Stopped} → Err w ≡ behind i g → Err w ≡ vertex_lines n (drop from s)
    unfolding vertices_on
    vertices_stop q = rw (← turn.going, one-vertex, vertex-here, ← q)

    pub vertices_more : {x : Vertex} → Ok x ≡ behind i g → VertexTurn s from n (set vs i x) (i + 1)
    unfolding vertices_on
    vertices_more {x} q =
        let same : vertices_on (i + 1) (set vs i x) (n - (i + 1)) (drop (part_at from (i + 1)) s) ≡ vertices_on i vs (n - i) (drop (part_at from i) s) =
        rw (one-vertex, vertex-here, ← q, part_next s from i) in
        let long = vertex-long (drop (part_at from i) s) x (vertex-here ∙ was_taken i g (sym q)) in
        record { few = omega arith; inside = omega (arith, long, length-drop (part_at from i) s); going = same ∙ turn.going }

-- ---- edges

-- before a turn of the loop: i of m edges are taken, and going on from here gives them all
pub record EdgeTurn (n : ℕ) (vs : List Vertex) (s : List ℕ) (from m : ℕ) (es : List Edge) (least i : ℕ) : Type 0 where
  pub few : i ≤ m
  pub inside : part_at from i ≤ length s
  pub going : edges_on n vs i es least (m - i) (drop (part_at from i) s) ≡ edge_lines n vs m (drop from s)

module _ (n : ℕ) (vs : List Vertex) where
  pub edges_first : (s : List ℕ) (from m : ℕ) (v : Edge) → from ≤ length s → v ≡ no_edge → EdgeTurn n vs s from m (replicate most_edges v) 0 0
  edges_first s from m v h e =
      let o : m - 0 ≡ m = omega arith in
      let p : part_at from 0 ≡ from = omega arith in
      record { few = omega arith; inside = omega arith; going = rw (e, o, p) }

module _ {n : ℕ} {vs : List Vertex} {s : List ℕ} {from m : ℕ} {es : List Edge} {least i : ℕ} (turn : EdgeTurn n vs s from m es least i) where
  pub edges_end : m ≤ i → Ok es ≡ edge_lines n vs m (drop from s)
  unfolding edges_on
  edges_end h =
      let o : m - i ≡ 0 = omega arith in
      rw (← turn.going, o)

  -- the line gives g
  module _ {g : Result Edge Refusal} (more : i < m) (gives : g ≡ edge_line n vs least (lent s (part_at from i))) where
    edge_here_lem : edge_line n vs least (drop (part_at from i) s) ≡ g
    edge_here_lem = sym (gives ∙ ap (edge_line n vs least) (lent-drop s (part_at from i)))

    one-edge : m - i ≡ suc (m - (i + 1))
    one-edge = omega arith

    pub edges_stop : {w : Stopped} → Err w ≡ behind (n + i) g → Err w ≡ edge_lines n vs m (drop from s)
    unfolding edges_on
    edges_stop q = rw (← turn.going, one-edge, edge_here_lem, ← q)

    pub edges_more : {x : Edge} {l : ℕ} → Ok x ≡ behind (n + i) g → l ≡ least_after x.from.0 x.to.0 → EdgeTurn n vs s from m (set es i x) l (i + 1)
    unfolding edges_on
    edges_more {x} {l} q e =
        let same : edges_on n vs (i + 1) (set es i x) l (m - (i + 1)) (drop (part_at from (i + 1)) s)
        ≡ edges_on n vs i es least (m - i) (drop (part_at from i) s) = rw (e, one-edge, edge_here_lem, ← q, part_next s from i) in
        let has = edge_has n vs least (drop (part_at from i) s) x (edge_here_lem ∙ was_taken (n + i) g (sym q)) in
        record { few = omega arith; inside = omega (arith, has.long, length-drop (part_at from i) s); going = same ∙ turn.going }

-- ---- the lines of a task

-- the test of m, by the largest e of the first v
pub mask_tested : (m : Ticks) (vs : List Vertex) (v : ℕ) {x y : ℕ} {b : Bool} → v ≤ length vs → b ≡ mask_covered x y → x ≡ m.0
    → y ≡ largest_of (length (take v vs)) (take v vs) → covers v m vs ≡ b
unfolding largest_of
mask_tested m vs v {x} {y} h q k l =
    let n : length (take v vs) ≡ v = length-take-le v vs h in
    let all : take v (take v vs) ≡ take v vs = take_all v (take v vs) (omega arith) in
    let same : y ≡ largest_of v vs = l ∙ rw (n, all) in
    sym (q ∙ rw (k, same))

-- the task's vertices are read
pub record VerticesSeen (s : List ℕ) (from v : ℕ) (a : Result (List Vertex) Stopped) : Type 0 where
  pub fits : from ≤ length s
  pub gives : a ≡ vertex_lines v (drop from s)

-- all of them were taken, one is as long as m, and its edges are read
pub record EdgesSeen (s : List ℕ) (from v e : ℕ) (m : Ticks) (vs : List Vertex) (b : Result (List Edge) Stopped) : Type 0 where
  pub vertices : VerticesSeen s from v (Ok vs)
  pub covered : covers v m vs ≡ true
  pub gives : b ≡ edge_lines v vs e (drop (part_at from v) s)

module _ {s : List ℕ} {from v : ℕ} {a : Result (List Vertex) Stopped} (seen : VerticesSeen s from v a) where
  pub vertices_stopped : (e : ℕ) (m : Ticks) {w : Stopped} → a ≡ Err w → Err w ≡ plain_lines v e m (drop from s)
  unfolding plain_lines
  vertices_stopped e m {w} z = rw (← seen.gives, z)

  module _ {vs : List Vertex} (all : a ≡ Ok vs) where
    pub vertices_fit : part_at from v ≤ length s
    vertices_fit =
        omega (arith, (vertices_reach 0 (replicate most_vertices no_vertex) v (drop from s)).room vs (sym seen.gives ∙ all), length-drop from s, seen.fits)

    pub vertices_long : length vs ≡ most_vertices
    vertices_long =
        vertices_places 0 (replicate most_vertices no_vertex) v (drop from s) (sym seen.gives ∙ all) ∙ length-replicate most_vertices no_vertex

    -- at the last vertex's line
    pub mask_stopped : (e : ℕ) (m : Ticks) → covers v m vs ≡ false → {i : ℕ} → i ≡ v - 1 → Err (stopped OutOfBounds i) ≡ plain_lines v e m (drop from s)
    unfolding plain_lines
    mask_stopped e m c q = rw (q, ← seen.gives, all, c)

module _ {s : List ℕ} {from v e : ℕ} {m : Ticks} {vs : List Vertex} {b : Result (List Edge) Stopped} (seen : EdgesSeen s from v e m vs b) where
  abbrev with_edges : Result (List Edge) Stopped → Result TaskTaken Stopped
  with_edges x = part_then x (λ es. Ok (took_task (v + e) ((v + e) * part_bytes) (task_cells m v e vs es)))

  edges_give : {x : Result (List Edge) Stopped} → b ≡ x → with_edges x ≡ plain_lines v e m (drop from s)
  unfolding plain_lines
  edges_give q = sym (ap with_edges q) ∙ rw (drop-drop (v * part_bytes) from s, ← seen.vertices.gives, seen.covered, ← seen.gives)

  pub edges_stopped : {w : Stopped} → b ≡ Err w → Err w ≡ plain_lines v e m (drop from s)
  edges_stopped z = edges_give z

  pub all_edges : {es : List Edge} → b ≡ Ok es → Ok (took_task (v + e) ((v + e) * part_bytes) (task_cells m v e vs es)) ≡ plain_lines v e m (drop from s)
  all_edges z = edges_give z
