use mathlib.Core.Path.{ap}
use native.Mathlib.Omega.{arith}
use Rattle.meaning.specs.Text.{digits}
use Rattle.put.proofs.Lines.{low_size}
use Rattle.put.proofs.Pens.{penned_as, gathered_none, gathered_more, gathered_room, gathered_all}
use Rattle.put.proofs.Pen.bytes.Goals as goal

pub loop-b-init : goal.loop-b-init
loop-b-init g c = gathered_none (λ b. digits (g.T.LowByte.low b)) c.args.bytes.now c.args.self.now

pub byte-requires : goal.byte-requires
byte-requires g c =
    let low = λ (b : g.row.T.Denot). g.T.LowByte.low b in
    let bs = c.args.bytes.now in (
      c.digits_in_order-order.ensures,
      gathered_room (λ b. digits (low b)) bs c.b-item.result c.b-item.result c.b-item.is c.loop-b.invariant c.loop-b-test.true
          (omega (arith, c.requires, low_size low bs)),
    )

pub loop-b-preserved : goal.loop-b-preserved
loop-b-preserved g c =
    gathered_more (λ b. digits (g.T.LowByte.low b)) c.args.bytes.now c.b-item.result c.b-item.result c.b-item.is c.loop-b.invariant c.loop-b-test.true
    (penned_as (ap digits c.low_byte.ensures) c.byte.ensures)

pub returns : goal.returns
returns g c = gathered_all (λ b. digits (g.T.LowByte.low b)) c.args.bytes.now c.loop-b.invariant c.loop-b-test.false
