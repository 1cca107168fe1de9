use Rattle.lines.proofs.Turns.{mask_tested, VerticesSeen, vertices_stopped, vertices_fit, vertices_long, mask_stopped, EdgesSeen, edges_stopped, all_edges}
use Rattle.lines.specs.Parts.{filled, covers}
use mathlib.Core.Path.{◌≡◌, sym, ap, ◌∙◌}
use mathlib.Core.Bool.{true}
use native.Mathlib.Omega.{arith}
use Rattle.std.proofs.lemmas.Result.{err_from_is_err_and}
use Rattle.lines.proofs.read_plain.Goals as goal
use Rattle.lines.proofs.read_plain.Goals.{After-mask_covered, After-read_edges, After-read_vertices}

vertices : (c : After-read_vertices) →
    VerticesSeen c.args.text.now c.args.from c.args.v (filled c.read_vertices.result c.read_vertices.new.vertices)
vertices c = record { fits = c.requires.0; gives = c.read_vertices.ensures }

pub returns-in_err-read_vertices : goal.returns-in_err-read_vertices
returns-in_err-read_vertices c =
    let p = err_from_is_err_and c.from_residual.result c.from_residual.ensures.1 in
    let stop = ap (λ r. filled r c.read_vertices.new.vertices) c.in_err-read_vertices.was in
    rw (p.1, p.2) (vertices_stopped (vertices (goal.at.returns-in_err-read_vertices c).After-read_vertices) c.args.e c.args.m stop)

-- the test of m, by the largest e that was found
tested : (c : After-mask_covered) → covers c.args.v c.args.m c.read_vertices.new.vertices ≡ c.mask_covered.result
tested c =
    let all = ap (λ r. filled r c.read_vertices.new.vertices) c.in_ok-read_vertices.was in
    let seen : VerticesSeen c.args.text.now c.args.from c.args.v (filled c.read_vertices.result c.read_vertices.new.vertices) =
    record { fits = c.requires.0; gives = c.read_vertices.ensures } in
    let n = vertices_long seen all in
    mask_tested c.args.m c.read_vertices.new.vertices c.args.v (omega (arith, n)) c.mask_covered.ensures c.from.ensures
    (c.from-2.ensures ∙ c.largest_e-largest.ensures)

pub returns-then-not-mask_covered : goal.returns-then-not-mask_covered
returns-then-not-mask_covered c =
    let test = tested (goal.at.returns-then-not-mask_covered c).After-mask_covered ∙ c.if-not-mask_covered.true in
    let all = ap (λ r. filled r c.read_vertices.new.vertices) c.in_ok-read_vertices.was in
    mask_stopped (vertices (goal.at.returns-then-not-mask_covered c).After-read_vertices) all c.args.e c.args.m test (omega arith)

pub read_edges-requires : goal.read_edges-requires
read_edges-requires c =
    let all = ap (λ r. filled r c.read_vertices.new.vertices) c.in_ok-read_vertices.was in
    (vertices_fit (vertices (goal.at.read_edges-requires c).After-read_vertices) all, c.requires.2, c.requires.3)

edges : (c : After-read_edges) → covers c.args.v c.args.m c.read_vertices.new.vertices ≡ true →
    EdgesSeen c.args.text.now c.args.from c.args.v c.args.e c.args.m c.read_vertices.new.vertices (filled c.read_edges.result c.read_edges.new.edges)
edges c test =
    let all = ap (λ r. filled r c.read_vertices.new.vertices) c.in_ok-read_vertices.was in
    record { vertices = record { fits = c.requires.0; gives = sym all ∙ c.read_vertices.ensures }; covered = test; gives = c.read_edges.ensures }

pub returns-in_err-read_edges : goal.returns-in_err-read_edges
returns-in_err-read_edges c =
    let p = err_from_is_err_and c.from_residual-in_err-read_edges.result c.from_residual-in_err-read_edges.ensures.1 in
    let test = tested (goal.at.returns-in_err-read_edges c).After-mask_covered ∙ c.if-not-mask_covered.false in
    let stop = ap (λ r. filled r c.read_edges.new.edges) c.in_err-read_edges.was in
    rw (p.1, p.2) (edges_stopped (edges (goal.at.returns-in_err-read_edges c).After-read_edges test) stop)

pub returns : goal.returns
returns c =
    let test = tested (goal.at.returns c).After-mask_covered ∙ c.if-not-mask_covered.false in
    let all = ap (λ r. filled r c.read_edges.new.edges) c.in_ok-read_edges.was in
    rw (c.task_of.ensures) (all_edges (edges (goal.at.returns c).After-read_edges test) all)
