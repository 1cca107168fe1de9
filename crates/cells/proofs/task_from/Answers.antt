use mathlib.Core.Path.{◌≡◌, subst}
use Prim.Native.Nat.{ℕ, ◌+◌, ◌*◌, min}
use native.Mathlib.Omega.{arith}
use lib.ListN.{length-replicate}
use Rattle.meaning.specs.Bounds.{most_vertices, most_edges}
use Rattle.table.specs.declared.Vertex.{Vertex}
use Rattle.table.specs.declared.Edge.{Edge}
use Rattle.cells.specs.Cells.{cell_at}
use Rattle.cells.specs.Inner.{VerticesRead, EdgesRead}
use Rattle.cells.proofs.Cursors.{passed_then, moved}
use Rattle.cells.proofs.Filled.{vertices-read, edges-read, task-read}
use Rattle.cells.proofs.task_from.Goals as goal

pub returns-clause-read : goal.returns-clause-read
returns-clause-read c =
    let cs = c.args.cells.now.list.now in
    let at = c.args.cells.now.at in
    let nv = c.next-nv.result in
    let ne = c.next-ne.result in
    let vs = c.fill.new.parts in
    let es = c.fill-2.new.parts in
    let one = c.next-nv.ensures.passed in
    let two = passed_then one c.next-ne.ensures.passed in
    let own = passed_then two c.next.ensures.passed in
    let first = passed_then own (rw c.from.ensures at c.fill.ensures.passed) in
    let filled_vertices = rw c.from.ensures at c.fill.ensures.filled in
    let vertices = moved own (λ l i. VerticesRead l i nv vs)
    (vertices-read (length-replicate {A = Vertex} most_vertices c.no_vertex-vertices.result) filled_vertices) in
    let filled_edges = rw c.from-2.ensures at c.fill-2.ensures.filled in
    let edges = moved first (λ l i. EdgesRead l i ne es)
    (edges-read (length-replicate {A = Edge} most_edges c.no_edge-edges.result) filled_edges) in
    task-read c.next-nv.ensures.cell (moved one (λ l i. ne ≡ cell_at l i) c.next-ne.ensures.cell)
    (moved two (λ l i. c.next.result ≡ cell_at l i) c.next.ensures.cell) vertices
    (λ few.
    let place : at + (3 + 2 * min nv most_vertices) ≡ at + 3 + 2 * nv = omega arith in
    subst (λ (i : ℕ). EdgesRead cs i ne es) place edges)
    c.task_of.ensures
