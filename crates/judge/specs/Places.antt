-- A loop over a table's vertices, in rising order of task and then vertex: those that are still to come.
use Rattle.std.specs.Prelude.{ℕ, suc, ◌-◌, ◌≤◌, ◌<◌, List, ◌++◌, map, length, drop}
use Rattle.meaning.specs.Lists.{count_from}
use Rattle.meaning.specs.Table.{Table, task_at}
use Rattle.meaning.specs.Whole.{Place, places_from}
use Rattle.table.specs.declared.Table as Record
use Rattle.table.specs.Inner.{table_of, Held}
use Rattle.counts.specs.Place.{next_place}

-- how many vertices task i has
abbrev pub size : Table → ℕ → ℕ
size ts i = length (task_at ts i).vertices

-- the task's next vertex, else the next task's first
abbrev pub next_in : Table → Place → Place
next_in ts q = next_place (size ts q.task) q

-- the vertices from a place on
abbrev pub remaining : Table → Place → List Place
remaining ts q =
    map (λ (v : ℕ). record { task = q.task; vertex = v }) (count_from q.vertex (size ts q.task - q.vertex)) ++ places_from (suc q.task) (drop (suc q.task) ts)

-- a vertex of the table, or the place behind the last
pub record Reached (t : Record.Table) (q : Place) : Type 0 where
  pub held : Held t
  pub task : q.task ≤ length (table_of t)
  pub vertex : q.task < length (table_of t) → q.vertex < size (table_of t) q.task
