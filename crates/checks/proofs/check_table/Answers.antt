use mathlib.Core.Path.{◌≡◌, sym, ap, subst, ◌∙◌}
use Prim.Native.Nat.{◌<◌, ◌≤◌}
use native.Mathlib.Omega.{arith}
use lib.ListN.{length, take}
use borrow.Author.Rules.{rules}
use Rattle.std.specs.Prelude.{Err}
use Rattle.std.proofs.lemmas.List.{length-take}
use Rattle.checks.specs.Checks.{TableChecked}
use Rattle.checks.proofs.InOrder.{passed_on}
use Rattle.checks.proofs.Tables.{turn_first, taken_next, turn_ninth, turn_broken, turn_more, few_bytes, turn_none, turn_last}
use Rattle.checks.proofs.Tasks.{kept_bounds}
use Rattle.checks.proofs.check_table.Goals as goal
use Rattle.checks.proofs.check_table.Goals.{then-tasks-t-via-then-tasks-t, then-tasks-t-via-else-tasks-t+then-t-eq0}

pub loop-k-init : goal.loop-k-init
loop-k-init c = turn_first c.args.t.now

pub check_task-requires : goal.check_task-requires
check_task-requires c = let h = c.loop-k.invariant in omega (arith, h.early, length-take c.min.result c.args.t.now.tasks, c.min.ensures)

pub returns-in_err-check_task : goal.returns-in_err-check_task
returns-in_err-check_task c =
    let t = c.args.t.now in
    let p = taken_next t c.min.result c.loop-k.k-index (omega (arith, c.min.ensures)) c.loop-k-test.true in
    let few : c.loop-k.k-index < 8 = omega (arith, length-take c.min.result t.tasks, c.min.ensures) in
    subst (TableChecked t) (sym (passed_on c.from_residual.result c.in_err-check_task.field-0.0 c.from_residual.ensures.1))
    (turn_broken c.loop-k.invariant _ p few c.check_task.ensures c.in_err-check_task.was)

pub overflow_add-line-in-loop-k : goal.overflow_add-line-in-loop-k
overflow_add-line-in-loop-k c = let b = kept_bounds _ _ (sym c.check_task.ensures ∙ c.in_ok-check_task.was) in omega arith

pub overflow_add-line-in-loop-k-2 : goal.overflow_add-line-in-loop-k-2
overflow_add-line-in-loop-k-2 c =
    let b = kept_bounds _ _ (sym c.check_task.ensures ∙ c.in_ok-check_task.was) in
    omega (arith, c.loop-k.invariant.early, length-take c.min.result c.args.t.now.tasks, c.min.ensures)

pub overflow_add-bytes-in-loop-k : goal.overflow_add-bytes-in-loop-k
overflow_add-bytes-in-loop-k c = omega (arith, few_bytes _ c.task_bytes.ensures)

pub overflow_add-bytes-in-loop-k-2 : goal.overflow_add-bytes-in-loop-k-2
overflow_add-bytes-in-loop-k-2 c =
    let h = c.loop-k.invariant in
    omega (arith, few_bytes _ c.task_bytes.ensures, h.small, length-take c.min.result c.args.t.now.tasks, c.min.ensures)

pub loop-k-preserved : goal.loop-k-preserved
loop-k-preserved c =
    let t = c.args.t.now in
    let p = taken_next t c.min.result c.loop-k.k-index (omega (arith, c.min.ensures)) c.loop-k-test.true in
    let few : c.loop-k.k-index < 8 = omega (arith, length-take c.min.result t.tasks, c.min.ensures) in
    turn_more c.loop-k.invariant _ p few c.check_task.ensures c.in_ok-check_task.was c.task_bytes.ensures (omega arith) (omega arith)

pub returns-then-tasks-t : goal.returns-then-tasks-t
returns-then-tasks-t c =
    let t = c.args.t.now in
    let all : length (take c.min.result t.tasks) ≡ c.min.result = search rules in
    let end : c.loop-k.k-index ≡ c.min.result = omega (arith, c.loop-k-test.false, c.loop-k.auto.k-index-end) in
    subst (TableChecked t) (ap Err (sym c.at_line.ensures))
    (elim c.then-tasks-t.branch [
      | then-tasks-t-via-then-tasks-t w ↦ turn_ninth c.loop-k.invariant (omega (arith, c.min.ensures)) (omega (arith, c.min.ensures))
      | then-tasks-t-via-else-tasks-t+then-t-eq0 w ↦ turn_none c.loop-k.invariant (omega (arith, c.min.ensures)) (omega (arith, c.min.ensures))
    ])

pub returns : goal.returns
returns c =
    let end : c.args.t.now.n ≤ c.loop-k.k-index = omega (arith, c.loop-k-test.false, c.if-tasks-t.false) in
    turn_last c.loop-k.invariant end (λ z. c.if-t-eq0.false (omega (arith, end, z)))
