use Rattle.reader.proofs.Turn.{turn_first, FrameTurn, frame_refused, end_behind, end_last, TaskFacts, task_facts, TaskTurn, lines_few, stop_few, task_stops, task_more}
use Rattle.reader.proofs.Result.{reading_reads}
use Rattle.std.specs.Prelude.{Result, Ok, Err}
use Rattle.table.specs.declared.Task.{Task}
use Rattle.lines.specs.declared.Stopped.{Stopped}
use Rattle.lines.specs.declared.TaskLines.{TaskLines}
use Rattle.lines.specs.Parts.{TaskTaken, taken_with}
use Prim.Native.Nat.{◌+◌}
use mathlib.Core.Path.{◌≡◌, refl, sym, ap, ◌∙◌}
use native.Mathlib.Omega.{arith}
use Rattle.reader.proofs.read.Goals as goal
use Rattle.reader.proofs.read.Goals.{After-task_or_end_line, In-Ok-Some, After-read_task}

-- ---- the places on the way: a line is tested, it is a task's, the task's lines are read

frame : (c : After-task_or_end_line) →
    FrameTurn c.args.text.now c.loop-head.table c.loop-head.at c.loop-head.line c.task_or_end_line.result
frame c = record { turn = c.loop-head.invariant; gives = c.task_or_end_line.ensures }

facts : (c : In-Ok-Some) → TaskFacts c.args.text.now c.loop-head.table c.loop-head.at c.loop-head.line c.in-Ok-Some.head
facts c = task_facts (record { turn = c.loop-head.invariant; gives = c.task_or_end_line.ensures }) (c.in-Ok-Some.is ∙ ap Ok c.in-Ok-Some.field-0-is)

-- an answer with the task that was filled beside it
with_task : (k : Task) {r b : Result TaskLines Stopped} → r ≡ b → taken_with r k ≡ taken_with b k
with_task k q = ap (λ r. taken_with r k) q

abbrev taken : (c : After-read_task) → Result TaskTaken Stopped
taken c = taken_with c.read_task.result c.read_task.new.task

lines : (c : After-read_task) →
    let l = c.loop-head in
    TaskTurn c.args.text.now l.table l.at l.line c.in-Ok-Some.head (l.at + c.bytes.result) (taken c)
lines c =
    record {
      frame = record { turn = c.loop-head.invariant; gives = sym (c.in-Ok-Some.is ∙ ap Ok c.in-Ok-Some.field-0-is) ∙ c.task_or_end_line.ensures };
      place = ap (λ n. c.loop-head.at + n) c.bytes.ensures;
      gives = c.read_task.ensures.lines;
    }

pub loop-head-init : goal.loop-head-init
loop-head-init c = turn_first c.args.text.now c.no_table-table.result c.no_table-table.ensures

pub returns-in-Err : goal.returns-in-Err
returns-in-Err c =
    reading_reads _ _ (ap Err c.refused_at.ensures ∙ frame_refused (frame (goal.at.returns-in-Err c).After-task_or_end_line) c.in-Err.is)

pub overflow_add-from : goal.overflow_add-from
overflow_add-from c = let f = facts (goal.at.overflow_add-from c).In-Ok-Some in omega (arith, c.bytes.ensures)

pub read_task-requires : goal.read_task-requires
read_task-requires c =
    let f = facts (goal.at.read_task-requires c).In-Ok-Some in
    (omega (arith, c.bytes.ensures), omega arith, omega arith, omega arith)

pub overflow_add-line-in-Err-read_task : goal.overflow_add-line-in-Err-read_task
overflow_add-line-in-Err-read_task c =
    let f = facts (goal.at.overflow_add-line-in-Err-read_task c).In-Ok-Some in
    omega (arith, stop_few (lines (goal.at.overflow_add-line-in-Err-read_task c).After-read_task) (with_task c.read_task.new.task c.in-Err-read_task.is))

pub refused_at-requires-in-Err-read_task : goal.refused_at-requires-in-Err-read_task
refused_at-requires-in-Err-read_task c =
    let f = facts (goal.at.refused_at-requires-in-Err-read_task c).In-Ok-Some in
    omega (arith, stop_few (lines (goal.at.refused_at-requires-in-Err-read_task c).After-read_task) (with_task c.read_task.new.task c.in-Err-read_task.is))

pub returns-in-Err-read_task : goal.returns-in-Err-read_task
returns-in-Err-read_task c =
    let stops = task_stops (lines (goal.at.returns-in-Err-read_task c).After-read_task) (with_task c.read_task.new.task c.in-Err-read_task.is) in
    reading_reads _ _ (ap Err c.refused_at-in-Err-read_task.ensures ∙ stops)

pub bounds-table-table : goal.bounds-table-table
bounds-table-table c = let f = facts (goal.at.bounds-table-table c).In-Ok-Some in omega arith

pub overflow_add-line-in-loop-head : goal.overflow_add-line-in-loop-head
overflow_add-line-in-loop-head c =
    omega (arith, lines_few (lines (goal.at.overflow_add-line-in-loop-head c).After-read_task) (with_task c.read_task.new.task c.in-Ok.is))

pub overflow_add-line-in-loop-head-2 : goal.overflow_add-line-in-loop-head-2
overflow_add-line-in-loop-head-2 c =
    let f = facts (goal.at.overflow_add-line-in-loop-head-2 c).In-Ok-Some in
    omega (arith, lines_few (lines (goal.at.overflow_add-line-in-loop-head-2 c).After-read_task) (with_task c.read_task.new.task c.in-Ok.is))

pub overflow_add-at : goal.overflow_add-at
overflow_add-at c =
    let g = task_more (lines (goal.at.overflow_add-at c).After-read_task) (with_task c.read_task.new.task c.in-Ok.is) refl in
    omega (arith, g.inside, c.well_formed)

pub loop-head-smaller : goal.loop-head-smaller
loop-head-smaller c = let f = facts (goal.at.loop-head-smaller c).In-Ok-Some in omega arith

pub loop-head-preserved : goal.loop-head-preserved
loop-head-preserved c = task_more (lines (goal.at.loop-head-preserved c).After-read_task) (with_task c.read_task.new.task c.in-Ok.is) (omega arith)

pub returns-then-text-at-ne-END_BYTES : goal.returns-then-text-at-ne-END_BYTES
returns-then-text-at-ne-END_BYTES c =
    let here = frame (goal.at.returns-then-text-at-ne-END_BYTES c).After-task_or_end_line in
    let more = end_behind here (c.in-Ok-None.is ∙ ap Ok c.in-Ok-None.field-0-is) c.if-text-at-ne-END_BYTES.true in
    reading_reads _ _ (ap Err c.refused_at-then-text-at-ne-END_BYTES.ensures ∙ more)

pub returns : goal.returns
returns c =
    let here = frame (goal.at.returns c).After-task_or_end_line in
    reading_reads _ _ (end_last here (c.in-Ok-None.is ∙ ap Ok c.in-Ok-None.field-0-is) c.if-text-at-ne-END_BYTES.false)
