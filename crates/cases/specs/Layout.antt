-- The bytes of a record in its fixed layout.
use Rattle.std.specs.Prelude.{ℕ, ◌+◌, ◌*◌}
use Rattle.meaning.specs.Bounds.{most_tasks, most_vertices, most_edges}

-- of a vertex, and of an edge
abbrev pub place_bytes : ℕ
place_bytes = 4

abbrev pub task_bytes : ℕ
task_bytes = 6 + place_bytes * most_vertices + place_bytes * most_edges

abbrev pub record_bytes : ℕ
record_bytes = 2 + task_bytes * most_tasks
