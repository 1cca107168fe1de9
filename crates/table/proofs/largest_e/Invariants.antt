use Rattle.std.proofs.Common.{◌≡◌}
use Rattle.table.specs.Inner.{largest_of}
use Rattle.table.proofs.largest_e.Given as goal

abbrev pub invariant-loop-x : goal.invariant-loop-x
invariant-loop-x l = l.largest.0 ≡ largest_of l.x-index l.vertices
