use native.Mathlib.Omega.{arith}
use Rattle.overload.proofs.Ticks.{reached_first, reached_here, reached_late, reached_jump}
use Rattle.overload.proofs.finish.Goals as goal

pub loop-tick-init : goal.loop-tick-init
loop-tick-init c = reached_first

pub returns-then-sum-tick : goal.returns-then-sum-tick
returns-then-sum-tick c = reached_here c.loop-tick.invariant c.loads_at-loads.ensures.0 (omega arith) (omega arith)

pub loop-tick-preserved : goal.loop-tick-preserved
loop-tick-preserved c = reached_jump c.requires.1 c.loop-tick.invariant c.loads_at-loads.ensures.0 (omega arith) (omega arith)

pub returns : goal.returns
returns c = omega (arith, reached_late c.loop-tick.invariant (omega arith))
