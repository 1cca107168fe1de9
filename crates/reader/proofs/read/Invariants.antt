use Rattle.reader.proofs.Turn.{Turn}
use Rattle.meaning.specs.Bounds.{most_tasks}
use Prim.Native.Nat.{◌-◌}
use Rattle.reader.proofs.read.Given as goal

abbrev pub invariant-loop-head : goal.invariant-loop-head
invariant-loop-head l = Turn l.text l.table l.at l.line

abbrev pub decreases-loop-head : goal.decreases-loop-head
decreases-loop-head l = most_tasks - l.table.n
