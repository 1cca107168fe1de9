use Rattle.meaning.specs.Text.{digits}
use Rattle.put.proofs.Pens.{Gathered}
use Rattle.put.proofs.Pen.bytes.Given as goal

abbrev pub invariant-loop-b : goal.invariant-loop-b
invariant-loop-b g l = Gathered (λ b. digits (g.T.LowByte.low b)) l.bytes l.initial.self l.self l.b-index
