use native.Mathlib.Omega.{arith}
use Rattle.loads.proofs.AllRows.{filling_all, filling_on, filling_room}
use Rattle.loads.proofs.rows_all.Goals as goal

pub rows_from-i-requires-clause-room : goal.rows_from-i-requires-clause-room
rows_from-i-requires-clause-room c = filling_room c.loop-v.invariant (omega arith) c.requires.room

pub loop-v-preserved : goal.loop-v-preserved
loop-v-preserved c = filling_on c.loop-v.invariant (omega arith) c.rows_from-i.new.part c.rows_from-i.result c.rows_from-i.ensures

pub returns : goal.returns
returns c = filling_all c.loop-v.invariant (omega arith)
