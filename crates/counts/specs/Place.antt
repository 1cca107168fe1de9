-- The vertices, in rising order of task and then vertex.
use Rattle.std.specs.Prelude.{ℕ, ◌+◌, ◌<◌, ltb}
use Rattle.meaning.specs.Lists.{pick}
use Rattle.meaning.specs.Bounds.{most_tasks, most_vertices}
use Rattle.meaning.specs.Whole as Meant
use Rattle.counts.specs.declared.places.Place.{Place}

abbrev pub meant_place : Place → Meant.Place
meant_place at = record { task = at.task.0; vertex = at.vertex.0 }

abbrev pub first_place : Meant.Place
first_place = record { task = 0; vertex = 0 }

-- where the present task has n vertices: its next one, else the next task's first
abbrev pub next_place : ℕ → Meant.Place → Meant.Place
next_place n q = pick (ltb (q.vertex + 1) n) (record { task = q.task; vertex = q.vertex + 1 }) (record { task = q.task + 1; vertex = 0 })

-- a place that some table has
pub record Within (q : Meant.Place) : Type 0 where
  pub task : q.task < most_tasks
  pub vertex : q.vertex < most_vertices
