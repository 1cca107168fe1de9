use Rattle.put.proofs.Pens.{Gathered}
use Rattle.writer.proofs.TableLines.{task_text}
use Rattle.writer.proofs.text.put_table.Given as goal

abbrev pub invariant-loop-k : goal.invariant-loop-k
invariant-loop-k l = Gathered task_text l.tasks l.initial.pen l.pen l.k-index
