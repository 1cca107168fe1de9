use mathlib.Core.Path.{◌≡◌}
use lib.ListN.{length, take}
use borrow.Author.Rules.{rules}
use Rattle.writer.proofs.PartLines.{head_asks, vertices_ask, edges_ask, task-put}
use Rattle.writer.proofs.text.put_task.Goals as goal

pub task_line-requires : goal.task_line-requires
task_line-requires c =
    let k = c.args.k.now in
    let v : length (take k.nv k.vertices) ≡ k.nv = search rules in
    let e : length (take k.ne k.edges) ≡ k.ne = search rules in
    head_asks k v e c.args.pen.now c.requires.2

pub part_lines-requires : goal.part_lines-requires
part_lines-requires c =
    let k = c.args.k.now in
    let v : length (take k.nv k.vertices) ≡ k.nv = search rules in
    let e : length (take k.ne k.edges) ≡ k.ne = search rules in
    rw c.from.ensures (vertices_ask k v e c.args.pen.now c.requires.2 c.task_line.ensures)

pub part_lines-requires-2 : goal.part_lines-requires-2
part_lines-requires-2 c =
    let k = c.args.k.now in
    let v : length (take k.nv k.vertices) ≡ k.nv = search rules in
    let e : length (take k.ne k.edges) ≡ k.ne = search rules in
    let vertices = rw c.from.ensures at c.part_lines.ensures in
    rw c.from-2.ensures (edges_ask k v e c.args.pen.now c.requires.2 c.task_line.ensures vertices)

pub returns : goal.returns
returns c =
    let k = c.args.k.now in
    let v : length (take k.nv k.vertices) ≡ k.nv = search rules in
    let e : length (take k.ne k.edges) ≡ k.ne = search rules in
    let vertices = rw c.from.ensures at c.part_lines.ensures in
    let edges = rw c.from-2.ensures at c.part_lines-2.ensures in
    task-put k v e c.args.pen.now c.requires.2 c.task_line.ensures vertices edges
