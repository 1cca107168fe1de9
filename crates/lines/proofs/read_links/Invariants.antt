use Rattle.lines.proofs.LinkTurns.{LinkTurn}
use Rattle.frames.specs.Frames.{form_to}
use Rattle.lines.proofs.read_links.Given as goal

abbrev pub invariant-loop-i : goal.invariant-loop-i
invariant-loop-i l = LinkTurn l.text l.from (form_to l.form l.n) l.n l.task.vertices l.task.edges l.i
