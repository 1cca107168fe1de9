use Rattle.lines.proofs.Turns.{VertexTurn}
use Rattle.lines.proofs.read_vertices.Given as goal

abbrev pub invariant-loop-i : goal.invariant-loop-i
invariant-loop-i l = VertexTurn l.text l.from l.n l.vertices l.i
