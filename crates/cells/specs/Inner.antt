-- What the functions here promise each other and the host.
use Rattle.std.specs.Prelude.{◌≡◌, ℕ, ◌+◌, ◌≤◌, min, List, map, length}
use Rattle.meaning.specs.Bounds.{most_vertices, most_edges}
use Rattle.meaning.specs.Table as Meant
use Rattle.meaning.specs.Table.{edge, task}
use Rattle.meaning.specs.Writing.{writing, writing_numbers, area_after}
use Rattle.table.specs.declared.Vertex.{Vertex}
use Rattle.table.specs.declared.Edge.{Edge}
use Rattle.table.specs.declared.Task.{Task}
use Rattle.table.specs.declared.Table.{Table}
use Rattle.table.specs.Record.{vertices_held, edges_held, task_held, table_held}
use Rattle.writer.specs.Written.{Written, written_numbers}
use Rattle.cells.specs.Cells.{cell_at, vertices_from, edges_from, task_from, cells_taken, cells_table}

-- ---- places

-- behind a cell by no more than a task's own cells and those of its vertices, so that no place near it is out of range
abbrev pub Near : List ℕ → ℕ → Type 0
Near cs at = at ≤ length cs + cells_taken 65535 0

-- ---- vertex numbers in 8 bits

-- 255 stands for every number above it
abbrev pub narrow_edge : Meant.Edge → Meant.Edge
narrow_edge x = edge (min x.from 255) (min x.to 255) x.p

abbrev pub narrow_task : Meant.Task → Meant.Task
narrow_task k = task k.m k.vertices (map narrow_edge k.edges)

-- ---- parts of a record, from their cells, where they have room

abbrev pub VerticesRead : List ℕ → ℕ → ℕ → List Vertex → Type 0
VerticesRead cs from n vs = n ≤ most_vertices → vertices_held vs n ≡ vertices_from cs from n

abbrev pub EdgesRead : List ℕ → ℕ → ℕ → List Edge → Type 0
EdgesRead cs from n es = n ≤ most_edges → edges_held es n ≡ map narrow_edge (edges_from cs from n)

-- the counts are the cells' in any case
pub record TaskRead (cs : List ℕ) (at : ℕ) (k : Task) : Type 0 where
  pub vertex_count : k.nv ≡ cell_at cs at
  pub edge_count : k.ne ≡ cell_at cs (at + 1)
  pub held : k.nv ≤ most_vertices → k.ne ≤ most_edges → task_held k ≡ narrow_task (task_from cs at)

-- ---- the table

-- a record is written as the cells' table is, in an area of any length: it holds that table, or one that breaks the same rule at the same line
abbrev pub WrittenAlike : List ℕ → Table → Type 0
WrittenAlike cs t = (room : ℕ) → writing (table_held t) room ≡ writing (cells_table cs) room

-- the table that the cells hold, written into an area that holds `before`
pub record CellsWritten (cs before : List ℕ) (r : Written) (after : List ℕ) : Type 0 where
  pub answer : written_numbers r ≡ writing_numbers (writing (cells_table cs) (length before))
  pub area : after ≡ area_after (writing (cells_table cs) (length before)) before
