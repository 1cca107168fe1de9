use Rattle.groups.specs.Lent.{starts_in}
use Rattle.overload.proofs.Ticks.{Summed}
use Rattle.overload.proofs.loads_at.Given as goal
use Prim.Native.Nat.{◌-◌}

abbrev pub invariant-loop-j : goal.invariant-loop-j
invariant-loop-j l = Summed l.work (starts_in l.group) (l.tick - 1) l.j l.total
