use native.Mathlib.Omega.{arith}
use Rattle.judge.proofs.Rooms.{summing_there, summing_fits, summing_more}
use Rattle.judge.proofs.room.table_room.Goals as goal

pub bounds-t-at : goal.bounds-t-at
bounds-t-at c = (summing_there c.loop-at.invariant.2 c.in-Some.ensures.steps).0

pub bounds-t-at-in-Some : goal.bounds-t-at-in-Some
bounds-t-at-in-Some c = omega (arith, (summing_there c.loop-at.invariant.2 c.in-Some.ensures.steps).1)

pub overflow_add-room : goal.overflow_add-room
overflow_add-room c = omega (arith, summing_fits c.loop-at.invariant.2 c.in-Some.ensures.steps c.vertex_room-room.ensures)

pub loop-at-preserved : goal.loop-at-preserved
loop-at-preserved c = (tt, tt, summing_more c.loop-at.invariant.2 c.in-Some.ensures.steps c.vertex_room-room.ensures)
