use mathlib.Core.Path.{◌≡◌}
use mathlib.Core.List.{map}
use lib.ListN.{take, replicate}
use lib.Seq.{sets}
use Rattle.meaning.specs.Bounds.{most_vertices}
use Rattle.columns.specs.Columns.{execution_in}
use Rattle.columns.proofs.executions.Given as goal

abbrev pub invariant-loop-v : goal.invariant-loop-v
invariant-loop-v l = l.e ≡ sets (replicate most_vertices 0) 0 (take l.v (map execution_in l.vertices))
