use Prim.Native.Nat.{◌+◌, ◌-◌}
use Rattle.groups.specs.Lent.{starts_in}
use Rattle.overload.proofs.Ticks.{Reached}
use Rattle.overload.proofs.finish.Given as goal

abbrev pub invariant-loop-tick : goal.invariant-loop-tick
invariant-loop-tick l = Reached l.work l.d l.e (starts_in l.group) l.tick

abbrev pub decreases-loop-tick : goal.decreases-loop-tick
decreases-loop-tick l = l.d + 1 - l.tick
