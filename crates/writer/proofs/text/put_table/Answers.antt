use mathlib.Core.Path.{◌≡◌, refl}
use native.Mathlib.Omega.{arith}
use lib.ListN.{length, take}
use borrow.Author.Rules.{rules}
use Rattle.std.proofs.lemmas.List.{length-take}
use Rattle.table.specs.Record.{blank_task}
use Rattle.put.proofs.Pens.{gathered_none, gathered_more}
use Rattle.writer.proofs.TableLines.{task_text, cells, few_tasks, few_parts, task_asks, end_asks, table_put}
use Rattle.writer.proofs.text.put_table.Goals as goal

pub shared_ref_as_front-tasks : goal.shared_ref_as_front-tasks
shared_ref_as_front-tasks c = few_tasks c.args.t.now c.requires.0

pub loop-k-init : goal.loop-k-init
loop-k-init c = gathered_none task_text (cells c.args.t.now) _

pub offset_bounds-tasks-k-index : goal.offset_bounds-tasks-k-index
offset_bounds-tasks-k-index c =
    let t = c.args.t.now in
    omega (arith, few_tasks t c.requires.0, length-take t.n t.tasks, c.loop-k-test.true)

pub put_task-requires : goal.put_task-requires
put_task-requires c =
    let t = c.args.t.now in
    let i : length (take t.n t.tasks) ≡ t.n = search rules in
    let few = few_parts t i c.requires.0 c.loop-k.k-index c.loop-k-test.true in
    (few.0, few.1, task_asks t i _ refl c.requires.1 c.loop-k.invariant c.loop-k-test.true)

pub loop-k-preserved : goal.loop-k-preserved
loop-k-preserved c =
    let t = c.args.t.now in
    gathered_more task_text (cells t) _ blank_task refl c.loop-k.invariant c.loop-k-test.true c.put_task.ensures

pub end_line-requires : goal.end_line-requires
end_line-requires c =
    let t = c.args.t.now in
    let i : length (take t.n t.tasks) ≡ t.n = search rules in
    end_asks t i _ refl c.requires.1 c.loop-k.invariant c.loop-k-test.false

pub returns : goal.returns
returns c =
    let t = c.args.t.now in
    let i : length (take t.n t.tasks) ≡ t.n = search rules in
    let p = table_put t i _ refl c.requires.1 c.loop-k.invariant c.loop-k-test.false c.end_line.ensures in
    search rules
