use mathlib.Core.Path.{refl, sym, ap, subst, ◌∙◌}
use mathlib.Core.List.{List, map}
use native.Mathlib.Omega.{arith}
use Prim.Native.Nat.{ℕ}
use lib.ListN.{replicate, take}
use lib.Seq.{sets, length-take-le}
use Rattle.std.proofs.lemmas.List.{take-map}
use Rattle.meaning.specs.Bounds.{most_vertices}
use Rattle.table.specs.Inner.{task_of}
use Rattle.columns.specs.Columns.{ColumnsOf, Cuts, Sorted, execution_in}
use Rattle.columns.proofs.TaskColumns.{column_sorted, columns_say, from_in, front-all, front_more, p_in, to_in}
use Rattle.columns.proofs.Readiness.{ready}
use Rattle.columns.proofs.columns_of.Goals as goal
use Rattle.columns.proofs.columns_of.Goals.{After-executions-e}

pub loop-k-preserved : goal.loop-k-preserved
loop-k-preserved c =
    let l = c.loop-k in
    let t = c.args.t.now in
    let more = front_more t (ready t c.requires) c.from-links.ensures in (
      more from_in l.from l.k refl c.loop-k-test.true l.invariant.0,
      more to_in l.to l.k refl c.loop-k-test.true l.invariant.1,
      more p_in l.p l.k refl c.loop-k-test.true l.invariant.2,
    )

pub edge_starts-start-requires : goal.edge_starts-start-requires
edge_starts-start-requires c =
    let l = c.loop-k in
    let t = c.args.t.now in
    let r = ready t c.requires in
    let all = front-all t r c.from-links.ensures l.auto.k-end c.loop-k-test.false in
    (omega (arith, r.links), subst (Sorted l.from) (sym c.from-links.ensures) (column_sorted t r l.from (all from_in l.from l.invariant.0)))

pub executions-e-requires : goal.executions-e-requires
executions-e-requires c = let r = ready c.args.t.now c.requires in omega (arith, r.few, r.cells_v, length-take-le c.from.result c.args.t.now.vertices)

-- what the columns say
says : (c : After-executions-e) → ColumnsOf (task_of c.args.t.now) c.executions-e.result c.edge_starts-start.result c.loop-k.to c.loop-k.p
says c =
    let l = c.loop-k in
    let t = c.args.t.now in
    let r = ready t c.requires in
    let all = front-all t r c.from-links.ensures l.auto.k-end c.loop-k-test.false in
    columns_say t r l.from c.edge_starts-start.result l.to l.p c.executions-e.result
    (all from_in l.from l.invariant.0) (all to_in l.to l.invariant.1) (all p_in l.p l.invariant.2)
    (c.executions-e.ensures ∙ ap (λ (es : List ℕ). sets (replicate most_vertices 0) 0 es)
    (ap (λ (n : ℕ). map execution_in (take n t.vertices)) c.from.ensures ∙ sym (take-map execution_in t.nv t.vertices)))
    (subst (λ (n : ℕ). Cuts l.from n c.edge_starts-start.result) c.from-links.ensures c.edge_starts-start.ensures)

pub invariant_of-result : goal.invariant_of-result
invariant_of-result c = let few = (ready c.args.t.now c.requires).few in record { sound = (says (goal.at.invariant_of-result c).After-executions-e).sound; few = omega arith }

pub overflow_cast-n : goal.overflow_cast-n
overflow_cast-n c = omega (arith, (ready c.args.t.now c.requires).few)

pub returns-clause-says : goal.returns-clause-says
returns-clause-says c = says (goal.at.returns-clause-says c).After-executions-e
