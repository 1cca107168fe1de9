-- What the inner functions say of the record, and the table that a record stands for; no promise of `read` rests on it.
use Rattle.std.specs.Prelude.{◌≡◌, ℕ, List, map, take, replicate}
use Rattle.meaning.specs.Bounds.{most_tasks, most_vertices, most_edges}
use Rattle.meaning.specs.Table as Meant
use Rattle.meaning.specs.Sound.{SoundTask, SoundTable}
use Rattle.kinds.specs.declared.Ticks.{Ticks}
use Rattle.kinds.specs.declared.VertexNumber.{VertexNumber}
use Rattle.table.specs.declared.Vertex.{Vertex}
use Rattle.table.specs.declared.Edge.{Edge}
use Rattle.table.specs.declared.Task.{Task}
use Rattle.table.specs.declared.Table.{Table}
use Rattle.table.specs.Record.{no_vertex, no_edge, no_task, padded, vertex_record, edge_record, task_record, table_record, vertex_of, edge_of}

-- ---- the parts of a record

abbrev pub ticks : ℕ → Ticks
ticks n = record { 0 = n }

abbrev pub vertex_number : ℕ → VertexNumber
vertex_number n = record { 0 = n }

abbrev pub vertex_cells : ℕ → ℕ → Vertex
vertex_cells e d = record { e = ticks e; d = ticks d }

abbrev pub edge_cells : ℕ → ℕ → ℕ → Edge
edge_cells from to p = record { from = vertex_number from; to = vertex_number to; p = ticks p }

abbrev pub vertices_record : List Meant.Vertex → List Vertex
vertices_record vs = padded most_vertices no_vertex (map vertex_record vs)

abbrev pub edges_record : List Meant.Edge → List Edge
edges_record es = padded most_edges no_edge (map edge_record es)

abbrev pub no_table : Table
no_table = record { n = 0; tasks = replicate most_tasks no_task }

-- ---- the table that a record stands for

abbrev pub task_of : Task → Meant.Task
task_of k = Meant.task k.m.0 (map vertex_of (take k.nv k.vertices)) (map edge_of (take k.ne k.edges))

-- the largest e of the first n
unfoldable pub largest_of : ℕ → List Vertex → ℕ
largest_of n vs = Meant.largest_e_in (map vertex_of (take n vs))

abbrev pub table_of : Table → Meant.Table
table_of t = map task_of (take t.n t.tasks)

-- ---- what a reading gives

-- the record of a readable table's task, and of a readable table
pub record HeldTask (k : Task) : Type 0 where
  pub whole : k ≡ task_record (task_of k)
  pub sound : SoundTask (task_of k)

pub record Held (t : Table) : Type 0 where
  pub whole : t ≡ table_record (table_of t)
  pub sound : SoundTable (table_of t)
