-- What a record holds: as many parts as its counts say, each from its cell.
use mathlib.Core.Path.{◌≡◌, refl, sym, ap, ◌∙◌}
use Prim.Native.Nat.{ℕ, zero, suc, ◌+◌, ◌<◌, max}
use native.Mathlib.Nat.{zero-add}
use native.Mathlib.Numerals.{add-one}
use native.Mathlib.Omega.{arith}
use mathlib.Core.List.{List, [], ◌∷◌, ◌++◌, map}
use lib.ListN.{length, get_or, set}
use Rattle.meaning.specs.Lists.{count_from, below}
use Rattle.meaning.specs.Table as Meant
use Rattle.meaning.proofs.Lists.{count_length_lem, count_at, count_more, cells_shift, cells_set}
use Rattle.table.specs.declared.Vertex.{Vertex}
use Rattle.table.specs.declared.Edge.{Edge}
use Rattle.table.specs.declared.Task.{Task}
use Rattle.table.specs.declared.Table.{Table}
use Rattle.table.specs.Record.{no_vertex, no_edge, blank_task, vertex_of, edge_of, vertices_held, edges_held, task_held, table_held}
use Rattle.table.specs.Inner.{largest_of}

-- ---- parts from their cells

abbrev pub held_vertex : List Vertex → ℕ → Meant.Vertex
held_vertex xs i = vertex_of (get_or xs i no_vertex)

abbrev pub held_edge : List Edge → ℕ → Meant.Edge
held_edge xs i = edge_of (get_or xs i no_edge)

abbrev pub held_task : List Task → ℕ → Meant.Task
held_task ks i = task_held (get_or ks i blank_task)

pub vertices-length : (xs : List Vertex) (n : ℕ) → length (vertices_held xs n) ≡ n
unfolding vertices_held
vertices-length xs n = count_length_lem (held_vertex xs) 0 n

pub edges_length : (xs : List Edge) (n : ℕ) → length (edges_held xs n) ≡ n
unfolding edges_held
edges_length xs n = count_length_lem (held_edge xs) 0 n

pub vertices-at : (xs : List Vertex) (n i : ℕ) → i < n → get_or (vertices_held xs n) i Meant.no_vertex ≡ vertex_of (get_or xs i no_vertex)
unfolding vertices_held
vertices-at xs n i h = count_at (held_vertex xs) Meant.no_vertex 0 n i h ∙ ap (held_vertex xs) (zero-add i)

-- ---- a task's counts

pub task-vertices : (k : Task) → length (task_held k).vertices ≡ k.nv
unfolding task_held
task-vertices k = vertices-length k.vertices k.nv

pub task_edges_lem : (k : Task) → length (task_held k).edges ≡ k.ne
unfolding task_held
task_edges_lem k = edges_length k.edges k.ne

-- ---- a table's tasks

module _ (t : Table) where
  pub tasks_length_lem : length (table_held t) ≡ t.n
  unfolding table_held
  tasks_length_lem = count_length_lem (held_task t.tasks) 0 t.n

  pub tasks_at : (i : ℕ) → i < t.n → get_or (table_held t) i Meant.no_task ≡ task_held (get_or t.tasks i blank_task)
  unfolding table_held
  tasks_at i h = count_at (held_task t.tasks) Meant.no_task 0 t.n i h ∙ ap (held_task t.tasks) (zero-add i)

  -- counted as one more: with a task put there, or with what stands there
  abbrev pub one_more : List Task → Table
  one_more ks = record { n = t.n + 1; tasks = ks }

  pub tasks_put : (k : Task) → t.n < length t.tasks → table_held (one_more (set t.tasks t.n k)) ≡ table_held t ++ (task_held k ∷ [])
  unfolding table_held
  tasks_put k h =
      ap (λ (m : ℕ). map (held_task (set t.tasks t.n k)) (below m)) (add-one t.n) ∙ cells_set task_held blank_task k t.tasks t.n h

  pub tasks_counted : table_held (one_more t.tasks) ≡ table_held t ++ (held_task t.tasks t.n ∷ [])
  unfolding table_held
  tasks_counted =
      ap (λ (m : ℕ). map (held_task t.tasks) (below m)) (add-one t.n) ∙ count_more (held_task t.tasks) 0 t.n
      ∙ ap (λ (i : ℕ). map (held_task t.tasks) (below t.n) ++ (held_task t.tasks i ∷ [])) (zero-add t.n)

-- ---- the largest e: beyond the array stand zeros

abbrev largest_at : List Vertex → ℕ → ℕ → ℕ
largest_at xs k n = Meant.largest_e_in (map (held_vertex xs) (count_from k n))

beyond : (k n : ℕ) → largest_at [] k n ≡ 0
beyond k zero = refl
beyond k (suc n) = omega (arith, beyond (suc k) n)

pub vertices-largest : (xs : List Vertex) (n : ℕ) → largest_of n xs ≡ Meant.largest_e_in (vertices_held xs n)
unfolding largest_of vertices_held
vertices-largest xs zero = refl
vertices-largest [] (suc n) = omega (arith, beyond 0 (suc n))
vertices-largest (x ∷ xs) (suc n) = ap (max x.e.0) (vertices-largest xs n ∙ sym (ap Meant.largest_e_in (cells_shift vertex_of no_vertex x xs 0 n)))
