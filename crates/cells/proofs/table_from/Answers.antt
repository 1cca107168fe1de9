use mathlib.Core.Path.{refl, subst, ◌∙◌}
use Prim.Native.Nat.{ℕ}
use native.Mathlib.Omega.{arith}
use mathlib.Core.List.{List}
use Rattle.cells.specs.Inner.{TaskRead}
use Rattle.cells.proofs.Turns.{turn_first, turn_end, turn_ninth, turn_cut, turn_more}
use Rattle.cells.proofs.table_from.Goals as goal

pub loop-cells-init : goal.loop-cells-init
loop-cells-init c = record { same_list = refl; turn = turn_first c.args.list.now c.no_table-t.ensures }

pub returns-then-k-eq-MOST_TASKS : goal.returns-then-k-eq-MOST_TASKS
returns-then-k-eq-MOST_TASKS c = turn_ninth c.loop-cells.invariant.turn c.loop-cells-test.true c.if-k-eq-MOST_TASKS.true

pub returns-then-from-gt-MOST_VERTICES : goal.returns-then-from-gt-MOST_VERTICES
returns-then-from-gt-MOST_VERTICES c =
    let read = c.task_from-task.ensures.read in
    let task = subst (λ (l : List ℕ). TaskRead l c.loop-cells.cells.at c.task_from-task.result) c.loop-cells.invariant.same_list read in
    turn_cut c.loop-cells.invariant.turn c.loop-cells-test.true c.if-k-eq-MOST_TASKS.false task
    (λ a b. omega (arith, c.if-from-gt-MOST_VERTICES.true, c.from.ensures))

pub returns-then-from-gt-MOST_EDGES : goal.returns-then-from-gt-MOST_EDGES
returns-then-from-gt-MOST_EDGES c =
    let read = c.task_from-task.ensures.read in
    let task = subst (λ (l : List ℕ). TaskRead l c.loop-cells.cells.at c.task_from-task.result) c.loop-cells.invariant.same_list read in
    turn_cut c.loop-cells.invariant.turn c.loop-cells-test.true c.if-k-eq-MOST_TASKS.false task
    (λ a b. omega (arith, c.if-from-gt-MOST_EDGES.true, c.from-in-loop-cells.ensures))

pub loop-cells-preserved : goal.loop-cells-preserved
loop-cells-preserved c =
    let made = c.task_from-task.ensures in
    let task = subst (λ (l : List ℕ). TaskRead l c.loop-cells.cells.at c.task_from-task.result) c.loop-cells.invariant.same_list made.read in
    let v = rw c.from.ensures at c.if-from-gt-MOST_VERTICES.false in
    let e = rw c.from-in-loop-cells.ensures at c.if-from-gt-MOST_EDGES.false in
    record {
      same_list = made.same_list ∙ c.loop-cells.invariant.same_list;
      turn = turn_more c.loop-cells.invariant.turn c.loop-cells-test.true c.if-k-eq-MOST_TASKS.false task v e (made.place v e);
    }

pub loop-cells-smaller : goal.loop-cells-smaller
loop-cells-smaller c =
    let v = rw c.from.ensures at c.if-from-gt-MOST_VERTICES.false in
    let e = rw c.from-in-loop-cells.ensures at c.if-from-gt-MOST_EDGES.false in
    let on = c.task_from-task.ensures.place v e in
    omega (arith, on, c.loop-cells-test.true)

pub returns : goal.returns
returns c = turn_end c.loop-cells.invariant.turn c.loop-cells-test.false
