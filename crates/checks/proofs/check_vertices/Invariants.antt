use Prim.Native.Nat.{◌+◌}
use mathlib.Core.List.{map}
use Rattle.table.specs.Record.{vertex_of}
use Rattle.checks.proofs.InOrder.{Rest}
use Rattle.checks.proofs.Parts.{vertex_order}
use Rattle.checks.proofs.check_vertices.Given as goal

abbrev pub invariant-loop-i : goal.invariant-loop-i
invariant-loop-i l = Rest vertex_order (map vertex_of l.vertices) l.line (l.line + l.i) l.i
