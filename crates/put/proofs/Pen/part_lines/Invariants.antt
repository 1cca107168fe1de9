use Rattle.meaning.specs.Text.{line}
use Rattle.put.proofs.Pens.{Gathered}
use Rattle.put.proofs.Pen.part_lines.Given as goal

abbrev pub invariant-loop-part : goal.invariant-loop-part
invariant-loop-part g l = Gathered (λ x. line (g.T.Part.frame_of x)) l.parts l.initial.self l.self l.part-index
