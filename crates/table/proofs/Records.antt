-- The record of a readable table: what stands in its cells.
use mathlib.Core.Path.{◌≡◌, sym, ap, subst, ◌∙◌}
use Prim.Native.Nat.{ℕ, ◌≤◌, ◌<◌}
use native.Mathlib.Omega.{arith}
use mathlib.Core.List.{map}
use lib.ListN.{length, get_or, length-map}
use Rattle.meaning.specs.Bounds.{most_tasks}
use Rattle.meaning.specs.Table as Meant
use Rattle.meaning.specs.Table.{no_task, task_at}
use Rattle.meaning.specs.Sound.{SoundTask}
use Rattle.meaning.proofs.Lists.{mem_get_or, get_or_mapped}
use Rattle.table.specs.declared.Task.{Task}
use Rattle.table.specs.declared.Table.{Table}
use Rattle.table.specs.Record.{task_record}
use Rattle.table.specs.Inner.{table_of, task_of, HeldTask, Held}
use Rattle.table.specs.Record as Blank
use Rattle.table.proofs.Record.{get_or-padded, task-of_record}

-- the record of a sound task is held
pub held-task_record : (k : Meant.Task) → SoundTask k → HeldTask (task_record k)
held-task_record k s = record { whole = ap task_record (sym (task-of_record k)); sound = subst SoundTask (sym (task-of_record k)) s }

module _ (t : Table) (k : Held t) where
  abbrev ts : Meant.Table
  ts = table_of t

  pub held_count : t.n ≡ length ts
  held_count = ap (λ (x : Table). x.n) k.whole

  pub held_few : t.n ≤ most_tasks
  held_few = omega (arith, held_count, k.sound.task_count)

  -- the task at place j, whatever is read where there is none
  pub held-task : (z : Task) (j : ℕ) → j < t.n → get_or t.tasks j z ≡ task_record (task_at ts j)
  held-task z j h =
      ap (λ (x : Table). get_or x.tasks j z) k.whole
      ∙ get_or-padded most_tasks Blank.no_task z (map task_record ts) j (omega (arith, length-map ts task_record, held_count))
      ∙ get_or_mapped task_record z no_task ts j (omega (arith, held_count))

  pub held_sound : (j : ℕ) → j < t.n → SoundTask (task_at ts j)
  held_sound j h = k.sound.each_task (task_at ts j) (mem_get_or no_task ts j (omega (arith, held_count)))

  pub held_one : (z : Task) (j : ℕ) → j < t.n → HeldTask (get_or t.tasks j z)
  held_one z j h = subst HeldTask (sym (held-task z j h)) (held-task_record (task_at ts j) (held_sound j h))

  pub held_is : (z : Task) (j : ℕ) → j < t.n → task_of (get_or t.tasks j z) ≡ task_at ts j
  held_is z j h = ap task_of (held-task z j h) ∙ task-of_record (task_at ts j)
