use native.Mathlib.Omega.{arith}
use Rattle.loads.proofs.FollowingRows.{led_none, led_alone}
use Rattle.loads.proofs.follow.follow_row.Goals as goal

pub loop-edge-init : goal.loop-edge-init
loop-edge-init c =
    let k = c.args.columns.now in
    let b = c.args.begun in
    led_none k.e k.start k.to k.p c.args.d.0 b.v.number.0 b.span.0 b.below c.args.row c.args.part.now b.v.own c.requires.0 c.requires.2

pub overflow_add-below : goal.overflow_add-below
overflow_add-below c = omega (arith, c.loop-edge.invariant.light, c.loop-edge.invariant.room, c.execution-below.ensures.1)

pub loop-edge-preserved : goal.loop-edge-preserved
loop-edge-preserved c =
    let x = c.execution-below in
    led_alone c.args.columns.now.sound c.loop-edge.invariant c.in-Some.ensures c.requires.3 x.result x.ensures.0 x.ensures.1
    c.fill_run.new.part (rw c.from.ensures at c.fill_run.ensures)
