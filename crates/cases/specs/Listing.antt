-- What is known when a task's loads are listed.
use Rattle.std.specs.Prelude.{◌≡◌, ℕ, ◌*◌, ◌≤◌, ◌<◌, List, length}
use Rattle.meaning.specs.Bounds.{largest_d, most_paths}
use Rattle.meaning.specs.Paths.{paths_of}
use Rattle.table.specs.declared.Task.{Task}
use Rattle.table.specs.Inner.{task_of, HeldTask}
use Rattle.meaning.specs.Areas.{rows_for}

-- the cells of a task's rows, at most
abbrev pub stretch_room : ℕ
stretch_room = rows_for most_paths * largest_d

-- a task with its n paths for horizon d, and an area for any task's rows
pub record Listing (t : Task) (n d : ℕ) (work : List ℕ) : Type 0 where
  pub held : HeldTask t
  pub some_d : 0 < d
  pub most_d : d ≤ largest_d
  pub some_path : 0 < n
  pub few_paths : n ≤ most_paths
  pub all : n ≡ length (paths_of (task_of t) d)
  pub room : stretch_room ≤ length work
