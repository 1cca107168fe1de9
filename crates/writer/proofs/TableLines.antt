-- The lines of a table, task by task, then the end frame's.
use mathlib.Core.Path.{◌≡◌, refl, sym, ap, subst, ◌∙◌}
use Prim.Native.Nat.{ℕ, ◌+◌, ◌≤◌, ◌<◌}
use native.Mathlib.Omega.{arith}
use mathlib.Core.List.{List, [], ◌∷◌, ◌++◌, map}
use lib.ListN.{length, take, get_or, length-map}
use Rattle.std.proofs.lemmas.List.{length-take}
use Rattle.meaning.specs.Lists.{gather}
use Rattle.meaning.specs.Bounds.{most_tasks, most_vertices, most_edges}
use Rattle.meaning.specs.Table as Meant
use Rattle.meaning.specs.Text.{line}
use Rattle.meaning.specs.Texts.{end_line, task_length, text_length}
use Rattle.meaning.specs.Writing.{frame_of_end, frames_of_task, text_of}
use Rattle.meaning.specs.Sound.{SoundTask, SoundTable}
use Rattle.meaning.proofs.Lists.{mem_get_or, get_or_mapped, gather_append, gather-map, gather-gather}
use Rattle.meaning.proofs.TextSize.{task-size, tasks_size}
use Rattle.table.specs.declared.Task.{Task}
use Rattle.table.specs.declared.Table.{Table}
use Rattle.table.specs.Record.{blank_task, task_held, table_held}
use Rattle.table.proofs.Holding.{task-vertices, task_edges_lem, tasks_length_lem}
use Rattle.put.specs.declared.Pen.{Pen}
use Rattle.put.specs.Pens.{Penned}
use Rattle.put.proofs.Pens.{penned_then, penned_as, penned_length, penned_end, Gathered, gathered_room, gathered_all}
use Rattle.checks.proofs.Parts.{held_taken}

-- the lines of a task
abbrev pub task_text : Task → List ℕ
task_text k = gather line (frames_of_task (task_held k))

-- as many tasks as are counted
abbrev pub cells : Table → List Task
cells t = take t.n t.tasks

pub few_tasks : (t : Table) → SoundTable (table_held t) → t.n ≤ most_tasks
few_tasks t s = omega (arith, s.task_count, tasks_length_lem t)

module _ (t : Table) (counted : length (cells t) ≡ t.n) where
  abbrev ts : Meant.Table
  ts = table_held t

  tasks_held : ts ≡ map task_held (cells t)
  unfolding table_held
  tasks_held = sym (held_taken task_held blank_task t.tasks t.n (omega (arith, length-take t.n t.tasks, counted)))

  tasks_text : gather line (gather frames_of_task ts) ≡ gather task_text (cells t)
  tasks_text =
      gather-gather line frames_of_task ts
      ∙ ap (gather (λ (k : Meant.Task). gather line (frames_of_task k))) tasks_held
      ∙ gather-map (λ (k : Meant.Task). gather line (frames_of_task k)) task_held (cells t)

  tasks_bytes : length (gather task_text (cells t)) + end_line ≡ text_length ts
  tasks_bytes = omega (arith, tasks_size ts, ap length tasks_text)

  -- a task of a sound table
  pub few_parts : SoundTable ts → (i : ℕ) → i < length (cells t)
      → let k = get_or (cells t) i blank_task in (k.nv ≤ most_vertices) × (k.ne ≤ most_edges)
  few_parts s i h =
      let k = get_or (cells t) i blank_task in
      let all : length ts ≡ length (cells t) = ap length tasks_held ∙ length-map (cells t) task_held in
      let is : get_or ts i Meant.no_task ≡ task_held k =
      ap (λ (ks : Meant.Table). get_or ks i Meant.no_task) tasks_held ∙ get_or_mapped task_held Meant.no_task blank_task (cells t) i h in
      let sound : SoundTask (task_held k) = subst SoundTask is (s.each_task (get_or ts i Meant.no_task) (mem_get_or Meant.no_task ts i (omega (arith, all)))) in
      (omega (arith, sound.vertex_count, task-vertices k), omega (arith, sound.edge_count, task_edges_lem k))

  -- ---- after i of the tasks

  module _ (p : Pen) {q : Pen} {i : ℕ} (at : p.at ≡ 0) (room : text_length ts ≤ length p.out.now) (g : Gathered task_text (cells t) p q i) where
    pub task_asks : i < length (cells t) → let k = get_or (cells t) i blank_task in q.at + task_length (task_held k) ≤ length q.out.now
    task_asks h =
        let k = get_or (cells t) i blank_task in
        let next = gathered_room task_text (cells t) k blank_task refl g h (omega (arith, room, tasks_bytes)) in
        omega (arith, next, task-size (task_held k))

    module _ (h : length (cells t) ≤ i) where
      all : Penned (gather task_text (cells t)) p q
      all = gathered_all task_text (cells t) g h

      pub end_asks : q.at + end_line ≤ length q.out.now
      end_asks = omega (arith, penned_end all, penned_length all, tasks_bytes, room)

      pub table_put : {r : Pen} → Penned (line frame_of_end) q r → Penned (text_of ts) p r
      unfolding text_of
      table_put w =
          penned_as (sym text) (penned_then (gather task_text (cells t)) (line frame_of_end) all w)
        where
          text : gather line (gather frames_of_task ts ++ (frame_of_end ∷ [])) ≡ gather task_text (cells t) ++ line frame_of_end
          text =
              gather_append line (gather frames_of_task ts) (frame_of_end ∷ [])
              ∙ ap (λ (l : List ℕ). l ++ line frame_of_end) tasks_text
