use Prim.Native.Nat.{◌+◌}
use mathlib.Core.List.{map}
use Rattle.table.specs.Record.{vertex_of, edge_of}
use Rattle.checks.proofs.InOrder.{Rest}
use Rattle.checks.proofs.Parts.{edge_order}
use Rattle.checks.proofs.check_edges.Given as goal

abbrev pub invariant-loop-i : goal.invariant-loop-i
invariant-loop-i l = Rest (edge_order (map vertex_of l.vertices)) (map edge_of l.edges) (0, l.line) (l.least, l.line + l.i) l.i
