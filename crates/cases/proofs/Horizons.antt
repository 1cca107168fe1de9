-- The tasks of a held table are ready to be listed, and the last one's vertex 0 gives a horizon.
use mathlib.Core.Path.{ap, sym, subst}
use Prim.Native.Nat.{ℕ, ◌≤◌, ◌<◌}
use native.Mathlib.Omega.{arith}
use lib.ListN.{length, get_or, take}
use lib.Seq.{get_or-take}
use Rattle.std.proofs.lemmas.List.{length-take}
use Rattle.meaning.specs.Bounds.{largest_d}
use Rattle.meaning.specs.Table as Meant
use Rattle.meaning.specs.Table.{task_at}
use Rattle.meaning.specs.Paths.{paths_of}
use Rattle.meaning.proofs.PathsOf.{paths_some}
use Rattle.table.specs.declared.Vertex.{Vertex}
use Rattle.table.specs.declared.Task.{Task}
use Rattle.table.specs.declared.Table.{Table}
use Rattle.table.specs.Record.{blank_task}
use Rattle.table.specs.Inner.{task_of, table_of, Held, HeldTask}
use Rattle.table.proofs.Records.{held_count, held_sound, held_one, held_is}
use Rattle.table.proofs.Vertices.{own_task, own_vertex, own_size, job_is, job_sound}

module _ (t : Table) (k : Held t) where
  pub last_task : 1 ≤ t.n
  last_task = omega (arith, held_count t k, k.sound.some_task)

  task_asks : (j : ℕ) → j < t.n → (d : ℕ) → HeldTask (own_task t j) × (0 < length (paths_of (task_of (own_task t j)) d))
  task_asks j l d = (
    held_one t k _ j l,
    subst (λ (x : Meant.Task). 0 < length (paths_of x d))
        (sym (held_is t k _ j l)) (paths_some (task_at (table_of t) j) (held_sound t k j l) d),
  )

  -- the same of the tasks that are lent as a slice
  pub listed_asks : (j : ℕ) → j < length (take t.n t.tasks) → (d : ℕ)
      → HeldTask (get_or (take t.n t.tasks) j blank_task) × (0 < length (paths_of (task_of (get_or (take t.n t.tasks) j blank_task)) d))
  listed_asks j l d =
      let m : j < t.n = omega (arith, length-take t.n t.tasks) in
      subst (λ (x : Task). HeldTask x × (0 < length (paths_of (task_of x) d))) (sym (get_or-take t.n t.tasks j blank_task m)) (task_asks j m d)

  pub horizon : (j : ℕ) → j < t.n → (0 < (own_vertex t j 0).d.0) × ((own_vertex t j 0).d.0 ≤ largest_d)
  horizon j l =
      let first : 0 < (own_task t j).nv = omega (arith, own_size t k j l, (held_sound t k j l).some_vertex) in
      let s = job_sound t k j l 0 first in
      let e = ap (λ (x : Vertex). x.d.0) (job_is t k j l 0 first) in
      (omega (arith, e, s.some_d), omega (arith, e, s.most_d))
