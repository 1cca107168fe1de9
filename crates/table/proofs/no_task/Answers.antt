use mathlib.Core.Path.{◌∙◌, ap₂}
use lib.ListN.{replicate}
use Rattle.meaning.specs.Bounds.{most_vertices, most_edges}
use Rattle.table.specs.declared.Vertex.{Vertex}
use Rattle.table.specs.declared.Edge.{Edge}
use Rattle.table.specs.declared.Task.{Task}
use Rattle.table.specs.Record.{task_cells}
use Rattle.table.specs.Inner.{ticks}
use Rattle.table.proofs.no_task.Goals as goal

filled_with : Vertex → Edge → Task
filled_with x y = task_cells (ticks 0) 0 0 (replicate most_vertices x) (replicate most_edges y)

pub returns : goal.returns
unfolding filled_with
returns c = c.task_of.ensures ∙ ap₂ filled_with c.no_vertex-x.ensures c.no_edge-y.ensures
