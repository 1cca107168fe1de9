-- The table that a list of 16-bit cells holds, for a host that has no record of it.
use Rattle.std.specs.Prelude.{ℕ, zero, suc, ◌+◌, ◌*◌, true, false, List, [], ◌∷◌, map, length, get_or, ltb}
use Rattle.meaning.specs.Lists.{below}
use Rattle.meaning.specs.Table.{Vertex, Edge, Task, Table, vertex, edge, task}

-- the cell at a place; where the list has ended, 0. A task that the list doesn't hold whole is refused: it has no vertex, or its last cell, a d or a p, is 0
abbrev pub cell_at : List ℕ → ℕ → ℕ
cell_at cs i = get_or cs i 0

-- v vertices from cell `at` on: e and d
abbrev pub vertices_from : List ℕ → ℕ → ℕ → List Vertex
vertices_from cs at v = map (λ (i : ℕ). vertex (cell_at cs (at + 2 * i)) (cell_at cs (at + 2 * i + 1))) (below v)

-- n edges: from, to and p
abbrev pub edges_from : List ℕ → ℕ → ℕ → List Edge
edges_from cs at n = map (λ (i : ℕ). edge (cell_at cs (at + 3 * i)) (cell_at cs (at + 3 * i + 1)) (cell_at cs (at + 3 * i + 2))) (below n)

-- a task: its counts of vertices and edges and its masked length, then its vertices, then its edges
abbrev pub task_from : List ℕ → ℕ → Task
task_from cs at =
    let v = cell_at cs at in
    task (cell_at cs (at + 2)) (vertices_from cs (at + 3) v) (edges_from cs (at + 3 + 2 * v) (cell_at cs (at + 1)))

-- the cells of a task with v vertices and n edges
abbrev pub cells_taken : ℕ → ℕ → ℕ
cells_taken v n = 3 + 2 * v + 3 * n

-- task after task, until the list has ended; at most n of them. Every cell counts: cells behind the last task are a further task
abbrev pub tasks_from : ℕ → List ℕ → ℕ → Table
tasks_from zero cs at = []
tasks_from (suc n) cs at =
    elim (ltb at (length cs)) [ true ↦ task_from cs at ∷ tasks_from n cs (at + cells_taken (cell_at cs at) (cell_at cs (at + 1))) | false ↦ [] ]

-- no task without a cell, so there are no more than cells
unfoldable pub cells_table : List ℕ → Table
cells_table cs = tasks_from (length cs) cs 0
