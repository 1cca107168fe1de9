use native.Mathlib.Omega.{arith}
use Rattle.walk.proofs.Places.{places_more, places_all}
use Rattle.walk.proofs.places_of.Goals as goal

pub loop-j-preserved : goal.loop-j-preserved
loop-j-preserved c = places_more c.args.group.now c.loop-j.j c.loop-j-test.true (omega arith) c.loop-j.invariant

pub returns : goal.returns
returns c = places_all c.args.group.now c.loop-j.j (omega arith) c.loop-j.invariant
