use mathlib.Core.Path.{◌≡◌, sym, ap, ◌∙◌}
use Prim.Native.Nat.{ℕ, ◌+◌}
use native.Mathlib.Omega.{arith}
use lib.ListN.{length}
use lib.Seq.{length-take-le}
use borrow.Author.Rules.{rules}
use Rattle.std.specs.Prelude.{Err}
use Rattle.rules.proofs.Within.{task_bounds}
use Rattle.kinds.specs.declared.Refusal.TheVariants.{OutOfBounds}
use Rattle.checks.specs.Checks.{broken_by}
use Rattle.checks.proofs.InOrder.{passed_on}
use Rattle.checks.proofs.Tasks.{inside, Counted, task-outside, task_broken, task_uncovered, task_covered}
use Rattle.checks.proofs.check_task.Goals as goal
use Rattle.checks.proofs.check_task.Goals.{After-task_in, Else-not-task_in}

-- the test, of the task's own numbers
in_is : (c : After-task_in) → c.task_in.result ≡ inside c.args.k.now
in_is c = rw (c.from.ensures, c.from-2.ensures, c.from-3.ensures) at c.task_in.ensures

-- the task's own line is kept
counted : (c : Else-not-task_in) → Counted c.args.k.now
counted c =
    let own = sym (in_is (goal.at.Else-not-task_in c).After-task_in) ∙ c.if-not-task_in.false in
    let b = task_bounds _ _ _ _ own in
    let v : length c.args.k.now.vertices ≡ 12 = search rules in
    let e : length c.args.k.now.edges ≡ 32 = search rules in
    record { own = own; vertices_in = omega arith; edges_in = omega arith }

pub returns-then-not-task_in : goal.returns-then-not-task_in
returns-then-not-task_in c =
    let a = c.args in
    task-outside a.k.now a.line (sym (in_is (goal.at.returns-then-not-task_in c).After-task_in) ∙ c.if-not-task_in.true) (ap Err c.at_line.ensures)

pub shared_ref_as_front-vertices : goal.shared_ref_as_front-vertices
shared_ref_as_front-vertices c = let b = task_bounds _ _ _ _ (sym c.task_in.ensures ∙ c.if-not-task_in.false) in omega arith

pub shared_ref_as_front-edges : goal.shared_ref_as_front-edges
shared_ref_as_front-edges c = let b = task_bounds _ _ _ _ (sym c.task_in.ensures ∙ c.if-not-task_in.false) in omega arith

pub check_vertices-requires : goal.check_vertices-requires
check_vertices-requires c =
    let b = task_bounds _ _ _ _ (sym c.task_in.ensures ∙ c.if-not-task_in.false) in
    let k = counted (goal.at.check_vertices-requires c).Else-not-task_in in
    (omega (arith, length-take-le _ c.args.k.now.vertices k.vertices_in), omega (arith, c.requires))

pub returns-in_err-check_vertices : goal.returns-in_err-check_vertices
returns-in_err-check_vertices c =
    let k = counted (goal.at.returns-in_err-check_vertices c).Else-not-task_in in
    passed_on c.from_residual.result c.in_err-check_vertices.field-0.0 c.from_residual.ensures.1
    ∙ task_broken k c.args.line (rw c.from-4.ensures at c.check_vertices.ensures) c.in_err-check_vertices.was

pub returns-then-not-mask_covered : goal.returns-then-not-mask_covered
returns-then-not-mask_covered c =
    let k = counted (goal.at.returns-then-not-mask_covered c).Else-not-task_in in
    let vertices = rw c.from-4.ensures at c.check_vertices.ensures in
    let largest = rw c.from-4.ensures at c.largest_e-largest.ensures in
    let covered = rw (c.from-7.ensures, c.from-8.ensures) at c.mask_covered.ensures in
    task_uncovered k c.args.line vertices c.in_ok-check_vertices.was largest (sym covered ∙ c.if-not-mask_covered.true)
    (ap Err c.at_line-then-not-mask_covered.ensures ∙ ap (λ (n : ℕ). broken_by OutOfBounds (c.args.line + n)) c.from-6.ensures)

pub check_edges-requires : goal.check_edges-requires
check_edges-requires c =
    let b = task_bounds _ _ _ _ (sym c.task_in.ensures ∙ c.if-not-task_in.false) in
    let k = counted (goal.at.check_edges-requires c).Else-not-task_in in (
      omega (arith, length-take-le _ c.args.k.now.vertices k.vertices_in),
      omega (arith, length-take-le _ c.args.k.now.edges k.edges_in),
      omega (arith, c.requires),
    )

pub returns : goal.returns
returns c =
    let k = counted (goal.at.returns c).Else-not-task_in in
    let vertices = rw c.from-4.ensures at c.check_vertices.ensures in
    let largest = rw c.from-4.ensures at c.largest_e-largest.ensures in
    let covered = rw (c.from-7.ensures, c.from-8.ensures) at c.mask_covered.ensures in
    task_covered k c.args.line vertices c.in_ok-check_vertices.was largest (sym covered ∙ c.if-not-mask_covered.false)
    (rw (c.from-4.ensures, c.from-5.ensures, c.from-6.ensures) at c.check_edges.ensures)
