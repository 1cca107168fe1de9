-- The record of a table, every cell of it, and the table that a record holds.
use Rattle.std.specs.Prelude.{ℕ, ◌-◌, List, [], ◌++◌, map, length, get_or, replicate}
use Rattle.meaning.specs.Lists.{below}
use Rattle.meaning.specs.Bounds.{most_tasks, most_vertices, most_edges}
use Rattle.meaning.specs.Table as Meant
use Rattle.kinds.specs.declared.Ticks.{Ticks}
use Rattle.table.specs.declared.Vertex.{Vertex}
use Rattle.table.specs.declared.Edge.{Edge}
use Rattle.table.specs.declared.Task.{Task}
use Rattle.table.specs.declared.Table.{Table}

-- ---- the record of a table

-- a list, filled up to n places
unfoldable pub padded : {X : Type 0} → ℕ → X → List X → List X
padded n z xs = xs ++ replicate (n - length xs) z

abbrev pub vertex_record : Meant.Vertex → Vertex
vertex_record x = record { e = record { 0 = x.e }; d = record { 0 = x.d } }

abbrev pub edge_record : Meant.Edge → Edge
edge_record x = record { from = record { 0 = x.from }; to = record { 0 = x.to }; p = record { 0 = x.p } }

abbrev pub task_cells : Ticks → ℕ → ℕ → List Vertex → List Edge → Task
task_cells m nv ne vs es = record { m = m; nv = nv; ne = ne; vertices = vs; edges = es }

-- with nothing in them
abbrev pub no_vertex : Vertex
no_vertex = vertex_record Meant.no_vertex

abbrev pub no_edge : Edge
no_edge = edge_record (Meant.edge 0 0 0)

abbrev pub no_task : Task
no_task = task_cells (record { 0 = 0 }) 0 0 (replicate most_vertices no_vertex) (replicate most_edges no_edge)

abbrev pub task_record : Meant.Task → Task
task_record k =
    task_cells (record { 0 = k.m }) (length k.vertices) (length k.edges) (padded most_vertices no_vertex (map vertex_record k.vertices))
    (padded most_edges no_edge (map edge_record k.edges))

abbrev pub table_record : Meant.Table → Table
table_record ts = record { n = length ts; tasks = padded most_tasks no_task (map task_record ts) }

-- ---- the table that a record holds

abbrev pub vertex_of : Vertex → Meant.Vertex
vertex_of x = Meant.vertex x.e.0 x.d.0

abbrev pub edge_of : Edge → Meant.Edge
edge_of x = Meant.edge x.from.0 x.to.0 x.p.0

-- as many as the counts say, whatever they say: beyond an array stand zeros, and what lies behind a count isn't looked at
unfoldable pub vertices_held : List Vertex → ℕ → List Meant.Vertex
vertices_held vs n = map (λ (i : ℕ). vertex_of (get_or vs i no_vertex)) (below n)

unfoldable pub edges_held : List Edge → ℕ → List Meant.Edge
edges_held es n = map (λ (i : ℕ). edge_of (get_or es i no_edge)) (below n)

unfoldable pub task_held : Task → Meant.Task
task_held k = Meant.task k.m.0 (vertices_held k.vertices k.nv) (edges_held k.edges k.ne)

abbrev pub blank_task : Task
blank_task = task_cells (record { 0 = 0 }) 0 0 [] []

unfoldable pub table_held : Table → Meant.Table
table_held t = map (λ (i : ℕ). task_held (get_or t.tasks i blank_task)) (below t.n)
