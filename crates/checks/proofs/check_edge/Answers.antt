use mathlib.Core.Path.{◌≡◌, sym, ap, ◌∙◌}
use native.Mathlib.Omega.{arith}
use lib.ListN.{length, get_or}
use Rattle.std.specs.Prelude.{Err}
use Rattle.rules.specs.Rules.{edge_in, edge_spaced}
use Rattle.rules.proofs.Within.{edge_bounds}
use Rattle.table.specs.Record.{no_vertex}
use Rattle.checks.proofs.Parts.{edge-outside, edge_late, edge_unordered, edge_kept}
use Rattle.checks.proofs.check_edge.Goals as goal
use Rattle.checks.proofs.check_edge.Goals.{After-edge_in, After-edge_spaced}

-- the tests, of the edge's own numbers
in_is : (c : After-edge_in) → c.edge_in.result ≡ edge_in (length c.args.vertices.now) c.args.x.from.0 c.args.x.to.0 c.args.x.p.0
in_is c = rw (c.from-p.ensures, c.from.ensures, c.from-2.ensures) at c.edge_in.ensures

spaced_is : (c : After-edge_spaced) → c.edge_spaced.result ≡ edge_spaced (get_or c.args.vertices.now c.args.x.from.0 no_vertex).d.0 c.args.x.p.0
spaced_is c = rw (c.from-4.ensures, c.from-3.ensures, c.from-p.ensures) at c.edge_spaced.ensures

pub returns-then-not-edge_in : goal.returns-then-not-edge_in
returns-then-not-edge_in c =
    let a = c.args in
    let i = in_is (goal.at.returns-then-not-edge_in c).After-edge_in in
    edge-outside a.vertices.now a.x a.least a.line (sym i ∙ c.if-not-edge_in.true) (ap Err c.at_line.ensures)

pub bounds-vertices-from : goal.bounds-vertices-from
bounds-vertices-from c =
    let i = in_is (goal.at.bounds-vertices-from c).After-edge_in in
    omega (arith, (edge_bounds _ _ _ _ (sym i ∙ c.if-not-edge_in.false)).from_in)

pub returns-then-not-edge_spaced : goal.returns-then-not-edge_spaced
returns-then-not-edge_spaced c =
    let a = c.args in
    let i = in_is (goal.at.returns-then-not-edge_spaced c).After-edge_in in
    let s = spaced_is (goal.at.returns-then-not-edge_spaced c).After-edge_spaced in
    edge_late a.vertices.now a.x a.least a.line (sym i ∙ c.if-not-edge_in.false) (sym s ∙ c.if-not-edge_spaced.true)
    (ap Err c.at_line-then-not-edge_spaced.ensures)

pub returns-then-not-edge_after : goal.returns-then-not-edge_after
returns-then-not-edge_after c =
    let a = c.args in
    let i = in_is (goal.at.returns-then-not-edge_after c).After-edge_in in
    let s = spaced_is (goal.at.returns-then-not-edge_after c).After-edge_spaced in
    edge_unordered a.vertices.now a.x a.least a.line (sym i ∙ c.if-not-edge_in.false) (sym s ∙ c.if-not-edge_spaced.false)
    (sym c.edge_after.ensures ∙ c.if-not-edge_after.true) (ap Err c.at_line-then-not-edge_after.ensures)

pub returns : goal.returns
returns c =
    let a = c.args in
    let i = in_is (goal.at.returns c).After-edge_in in
    let s = spaced_is (goal.at.returns c).After-edge_spaced in
    edge_kept a.vertices.now a.x a.least a.line (sym i ∙ c.if-not-edge_in.false) (sym s ∙ c.if-not-edge_spaced.false)
    (sym c.edge_after.ensures ∙ c.if-not-edge_after.false)
