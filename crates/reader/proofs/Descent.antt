-- The way of the reader through a text, task by task.
use Prim.Native.Nat.{ℕ, zero, suc, ◌+◌}
use mathlib.Core.List.{List}
use lib.ListN.{length, drop, set}
use lib.Dec.{eqb}
use Rattle.meaning.specs.Lists.{pick}
use Rattle.meaning.specs.Bounds.{most_tasks}
use Rattle.meaning.specs.Text as Meant
use Rattle.meaning.specs.Text.{readable, unreadable}
use Rattle.kinds.specs.declared.Refusal.TheVariants.{WrongFrame, BytesAfterEnd}
use Rattle.kinds.proofs.Numbers.{refusal_of}
use Rattle.table.specs.declared.Task.{Task}
use Rattle.table.specs.declared.Table.{Table}
use Rattle.table.specs.Record.{table_record}
use Rattle.table.specs.Inner.{no_table}
use Rattle.std.specs.Prelude.{Option, Some, None, Result, Ok, Err}
use Rattle.kinds.specs.declared.Refusal.{Refusal}
use Rattle.kinds.specs.declared.RefusedAt.{RefusedAt}
use Rattle.frames.specs.declared.Head.{Head}
use Rattle.frames.specs.Frames.{head_bytes, end_bytes, task_or_end_line}
use Rattle.lines.specs.declared.Stopped.{Stopped}
use Rattle.lines.specs.Parts.{TaskTaken, task_lines}
use Rattle.reader.specs.Inner.{refused_at}

abbrev pub put_task : Table → Task → Table
put_task t k = record { n = t.n + 1; tasks = set t.tasks t.n k }

-- behind the line of a task, with what its lines give
abbrev pub lines_then : Result TaskTaken Stopped → ℕ → (TaskTaken → Result Table RefusedAt) → Result Table RefusedAt
lines_then (Ok a) line go = go a
lines_then (Err s) line go = Err (refused_at s.refusal (line + 1 + s.count))

-- with `left` bytes from the line on
abbrev pub frame_then : Result (Option Head) Refusal → Table → ℕ → ℕ → (Head → Result Table RefusedAt) → Result Table RefusedAt
frame_then (Ok (Some h)) t line left go = go h
frame_then (Ok None) t line left go = pick (eqb left end_bytes) (Ok t) (Err (refused_at BytesAfterEnd (line + 1)))
frame_then (Err w) t line left go = Err (refused_at w line)

-- the text s from a task's line on, with g tasks still allowed
unfoldable pub tasks_on : ℕ → Table → ℕ → List ℕ → Result Table RefusedAt
tasks_on zero t line s = frame_then (task_or_end_line t.n s) t line (length s) (λ h. Err (refused_at WrongFrame line))
tasks_on (suc g) t line s =
    frame_then (task_or_end_line t.n s) t line (length s)
    (λ h.
    lines_then (task_lines h (drop (head_bytes h) s)) line
    (λ a. tasks_on g (put_task t a.task) (line + 1 + a.count) (drop (head_bytes h + a.bytes) s)))

abbrev pub whole_text : List ℕ → Result Table RefusedAt
whole_text s = tasks_on most_tasks no_table 1 s

-- the record of what a text means
abbrev pub reading_record : Meant.Reading → Result Table RefusedAt
reading_record (readable ts) = Ok (table_record ts)
reading_record (unreadable k n) = Err (refused_at (refusal_of k) n)
