-- The vertices and the edges of a task, filled in from their cells one after the other.
use mathlib.Core.Path.{◌≡◌, sym, ap, ap₂, subst, ◌∙◌}
use Prim.Native.Nat.{ℕ, ◌+◌, ◌*◌, ◌≤◌, ◌<◌, min}
use native.Mathlib.Nat.{zero-add}
use native.Mathlib.Numerals.{add-one}
use native.Mathlib.Omega.{arith}
use mathlib.Core.List.{List, [], ◌∷◌, ◌++◌, map, map-map}
use lib.ListN.{length, take, set}
use Rattle.std.proofs.lemmas.List.{take_more_set}
use Rattle.meaning.specs.Lists.{below}
use Rattle.meaning.specs.Bounds.{most_vertices, most_edges}
use Rattle.meaning.specs.Table as Meant
use Rattle.meaning.proofs.Lists.{count_more}
use Rattle.table.specs.declared.Vertex.{Vertex}
use Rattle.table.specs.declared.Edge.{Edge}
use Rattle.table.specs.declared.Task.{Task}
use Rattle.table.specs.Record.{task_cells, vertex_of, edge_of, task_held}
use Rattle.table.specs.Inner.{ticks, vertex_cells, edge_cells}
use Rattle.checks.proofs.Parts.{vertices_taken, edges_taken}
use Rattle.cells.specs.Cells.{cell_at}
use Rattle.cells.specs.Inner.{narrow_edge, VerticesRead, EdgesRead, TaskRead}
use Rattle.cells.specs.Parts.{Filled}

-- ---- i parts stand at the front

module _ {X : Type 0} (made : ℕ → X) where
  abbrev pub FrontMade : List X → ℕ → Type 0
  FrontMade xs i = take i xs ≡ map made (below i)

  pub front_more : (xs : List X) (i : ℕ) (x : X) → FrontMade xs i → i < length xs → x ≡ made i → FrontMade (set xs i x) (i + 1)
  front_more xs i x h more e =
      take_more_set xs i x more
      ∙ ap₂ (λ (l : List X) (y : X). l ++ (y ∷ [])) h (e ∙ ap made (sym (zero-add i)))
      ∙ sym (ap (λ (m : ℕ). map made (below m)) (add-one i) ∙ count_more made 0 i)

-- ---- vertices and edges

module _ {cs : List ℕ} {at n : ℕ} where
  pub vertices-read : {before vs : List Vertex} → length before ≡ most_vertices
      → Filled 2 (λ (cells : List ℕ) (i : ℕ). vertex_cells (cell_at cells i) (cell_at cells (i + 1))) cs at n before vs → VerticesRead cs at n vs
  vertices-read {before} {vs} size f few =
      let all : min n (length before) ≡ n = omega arith in
      sym (vertices_taken vs n (omega (arith, f.size)))
      ∙ ap (λ (m : ℕ). map vertex_of (take m vs)) (sym all) ∙ ap (map vertex_of) f.front ∙ rw all (map-map vertex_of _ (below n))

  pub edges-read : {before es : List Edge} → length before ≡ most_edges
      → Filled 3 (λ (cells : List ℕ) (i : ℕ). edge_cells (min (cell_at cells i) 255) (min (cell_at cells (i + 1)) 255) (cell_at cells (i + 2))) cs at n before es
      → EdgesRead cs at n es
  edges-read {before} {es} size f few =
      let all : min n (length before) ≡ n = omega arith in
      sym (edges_taken es n (omega (arith, f.size)))
      ∙ ap (λ (m : ℕ). map edge_of (take m es)) (sym all) ∙ ap (map edge_of) f.front
      ∙ rw all (map-map edge_of _ (below n) ∙ sym (map-map narrow_edge _ (below n)))

-- ---- a task

pub task-read : {cs : List ℕ} {at m nv ne : ℕ} {vs : List Vertex} {es : List Edge} {k : Task} → nv ≡ cell_at cs at → ne ≡ cell_at cs (at + 1)
    → m ≡ cell_at cs (at + 2) → VerticesRead cs (at + 3) nv vs → (nv ≤ most_vertices → EdgesRead cs (at + 3 + 2 * nv) ne es) → k ≡ task_cells (ticks m) nv ne vs es
    → TaskRead cs at k
unfolding task_held
task-read {cs} {at} {m} {nv} {ne} {vs} {es} v-is e-is m-is vertices edges e =
    subst (TaskRead cs at) (sym e)
    (record {
      vertex_count = v-is;
      edge_count = e-is;
      held = λ a b. ap₂ (Meant.task m) (vertices a) (edges a b) ∙ rw (m-is, v-is, e-is);
    })
