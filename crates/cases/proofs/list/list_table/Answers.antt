use Prim.Native.Nat.{◌-◌}
use native.Mathlib.Omega.{arith}
use Rattle.cases.proofs.Horizons.{last_task, listed_asks, horizon}
use borrow.Author.Rules.{rules}
use Rattle.cases.proofs.list.list_table.Goals as goal

pub overflow_sub-d : goal.overflow_sub-d
overflow_sub-d c = omega (arith, last_task c.args.t.now c.requires)

pub list_task-requires-clause-held_task : goal.list_task-requires-clause-held_task
list_task-requires-clause-held_task c = listed_asks c.args.t.now c.requires c.loop-task.task-index c.loop-task-test.true _

pub list_task-requires-clause-d_nonzero : goal.list_task-requires-clause-d_nonzero
list_task-requires-clause-d_nonzero c =
    let t = c.args.t.now in
    let held = c.requires in
    let s = horizon t held (t.n - 1) (omega (arith, last_task t held)) in
    (s.0, s.1, search rules)
