use Rattle.lines.proofs.Turns.{EdgeTurn}
use Rattle.lines.proofs.read_edges.Given as goal

abbrev pub invariant-loop-i : goal.invariant-loop-i
invariant-loop-i l = EdgeTurn l.n l.vertices l.text l.from l.m l.edges l.least l.i
