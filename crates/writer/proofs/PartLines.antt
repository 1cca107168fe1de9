-- The lines of a task: its own, its vertices', its edges'.
use mathlib.Core.Path.{◌≡◌, refl, sym, ap, ap₂, ◌∙◌}
use Prim.Native.Nat.{ℕ, ◌+◌, ◌*◌, ◌≤◌}
use native.Mathlib.Omega.{arith}
use mathlib.Core.List.{List, ◌++◌, map}
use lib.ListN.{length, take}
use Rattle.std.proofs.lemmas.List.{length-take}
use Rattle.meaning.specs.Lists.{gather}
use Rattle.meaning.specs.Text.{line}
use Rattle.meaning.specs.Texts.{task_line, vertex_line, edge_line, task_length}
use Rattle.meaning.specs.Writing.{frame_of_task, frame_of_vertex, frame_of_edge, frames_of_task}
use Rattle.meaning.proofs.Lists.{gather_append, gather-map}
use Rattle.meaning.proofs.TextSize.{lines_size, task-line}
use Rattle.table.specs.declared.Vertex.{Vertex}
use Rattle.table.specs.declared.Edge.{Edge}
use Rattle.table.specs.declared.Task.{Task}
use Rattle.table.specs.Record.{vertex_of, edge_of, vertices_held, edges_held, task_held}
use Rattle.table.proofs.Holding.{task-vertices, task_edges_lem}
use Rattle.put.specs.declared.Pen.{Pen}
use Rattle.put.specs.Pens.{Penned}
use Rattle.put.proofs.Pens.{penned_then, penned_as, penned_length, penned_end}
use Rattle.checks.proofs.Parts.{vertices_taken, edges_taken}

-- the lines of some vertices and of some edges

abbrev vertices : Task → List ℕ
vertices k = gather line (map (λ (x : Vertex). frame_of_vertex (vertex_of x)) (take k.nv k.vertices))

abbrev edges : Task → List ℕ
edges k = gather line (map (λ (x : Edge). frame_of_edge (edge_of x)) (take k.ne k.edges))

abbrev head : Task → List ℕ
head k = line (frame_of_task k.m.0 k.nv k.ne)

-- frames of parts, as what they stand for
mapped_lines : {X Y : Type 0} (f : Y → List ℕ) (g : X → Y) (xs : List X) → gather line (map f (map g xs)) ≡ gather line (map (λ (x : X). f (g x)) xs)
mapped_lines f g xs =
    gather-map line f (map g xs) ∙ gather-map (λ y. line (f y)) g xs ∙ sym (gather-map line (λ x. f (g x)) xs)

-- ---- a task whose parts lie in the record's cells

module _ (k : Task) (vertex_count : length (take k.nv k.vertices) ≡ k.nv) (edge_count : length (take k.ne k.edges) ≡ k.ne) where
  v : k.nv ≤ length k.vertices
  v = omega (arith, length-take k.nv k.vertices, vertex_count)

  e : k.ne ≤ length k.edges
  e = omega (arith, length-take k.ne k.edges, edge_count)

  vertices_are : gather line (map frame_of_vertex (vertices_held k.vertices k.nv)) ≡ vertices k
  vertices_are =
      ap (λ xs. gather line (map frame_of_vertex xs)) (sym (vertices_taken k.vertices k.nv v))
      ∙ mapped_lines frame_of_vertex vertex_of (take k.nv k.vertices)

  edges_are : gather line (map frame_of_edge (edges_held k.edges k.ne)) ≡ edges k
  edges_are =
      ap (λ xs. gather line (map frame_of_edge xs)) (sym (edges_taken k.edges k.ne e)) ∙ mapped_lines frame_of_edge edge_of (take k.ne k.edges)

  task_text_lem : gather line (frames_of_task (task_held k)) ≡ head k ++ (vertices k ++ edges k)
  unfolding task_held
  task_text_lem =
      ap₂ (λ (x y : List ℕ). x ++ y) (ap₂ (λ (v e : ℕ). line (frame_of_task k.m.0 v e)) (task-vertices k) (task_edges_lem k))
      (gather_append line (map frame_of_vertex (vertices_held k.vertices k.nv)) (map frame_of_edge (edges_held k.edges k.ne))
      ∙ ap₂ (λ (x y : List ℕ). x ++ y) vertices_are edges_are)

  task-bytes : task_length (task_held k) ≡ task_line k.m.0 + vertex_line * k.nv + edge_line * k.ne
  unfolding task_held
  task-bytes = omega (arith, task-vertices k, task_edges_lem k)

  vertices-bytes : length (vertices k) ≡ vertex_line * k.nv
  vertices-bytes =
      lines_size 5 (λ (x : Vertex). frame_of_vertex (vertex_of x)) (λ x. refl) (take k.nv k.vertices) ∙ ap (λ (n : ℕ). vertex_line * n) vertex_count

  module _ (p : Pen) (room : p.at + task_length (task_held k) ≤ length p.out.now) where
    -- room for all of it is room for its own line
    pub head_asks : p.at + task_line k.m.0 ≤ length p.out.now
    head_asks = omega (arith, room, task-bytes)

    module _ {q : Pen} (a : Penned (head k) p q) where
      head_end : q.at ≡ p.at + task_line k.m.0
      head_end = penned_end a ∙ ap (λ (n : ℕ). p.at + n) (task-line k.m.0 k.nv k.ne)

      pub vertices_ask : q.at + vertex_line * length (take k.nv k.vertices) ≤ length q.out.now
      vertices_ask = omega (arith, room, task-bytes, head_end, penned_length a, vertex_count)

      module _ {r : Pen} (b : Penned (vertices k) q r) where
        pub edges_ask : r.at + edge_line * length (take k.ne k.edges) ≤ length r.out.now
        edges_ask = omega (arith, room, task-bytes, head_end, penned_length a, penned_end b, vertices-bytes, penned_length b, edge_count)

        pub task-put : {s : Pen} → Penned (edges k) r s → Penned (gather line (frames_of_task (task_held k))) p s
        task-put c = penned_as (sym task_text_lem) (penned_then (head k) (vertices k ++ edges k) a (penned_then (vertices k) (edges k) b c))
