use mathlib.Core.Path.{sym, ap, ◌∙◌}
use native.Mathlib.Omega.{arith}
use lib.ListN.{length}
use Rattle.meaning.specs.Text.{line}
use Rattle.meaning.proofs.Lists.{gather-map}
use Rattle.meaning.proofs.TextSize.{line-length, lines_size}
use Rattle.put.proofs.Pens.{penned_as, gathered_none, gathered_more, gathered_room, gathered_all}
use Rattle.put.proofs.Pen.part_lines.Goals as goal

pub loop-part-init : goal.loop-part-init
loop-part-init g c = gathered_none (λ x. line (g.T.Part.frame_of x)) c.args.parts.now c.args.self.now

pub part_line-requires : goal.part_line-requires
part_line-requires g c =
    let frame = λ (x : g.row.T.Denot). g.T.Part.frame_of x in
    let xs = c.args.parts.now in
    let x = c.part-item.result in
    let all = sym (ap length (gather-map line frame xs)) ∙ lines_size 5 frame g.met.T.Part.five_bytes xs in
    let next =
    gathered_room (λ y. line (frame y)) xs x x c.part-item.is c.loop-part.invariant c.loop-part-test.true (omega (arith, c.requires, all))
    in
    omega (arith, next, line-length (frame x), g.met.T.Part.five_bytes x)

pub loop-part-preserved : goal.loop-part-preserved
loop-part-preserved g c =
    gathered_more (λ x. line (g.T.Part.frame_of x)) c.args.parts.now c.part-item.result c.part-item.result c.part-item.is c.loop-part.invariant
    c.loop-part-test.true c.part_line.ensures

pub returns : goal.returns
returns g c =
    let frame = λ (x : g.row.T.Denot). g.T.Part.frame_of x in
    penned_as (sym (gather-map line frame c.args.parts.now))
    (gathered_all (λ x. line (frame x)) c.args.parts.now c.loop-part.invariant c.loop-part-test.false)
