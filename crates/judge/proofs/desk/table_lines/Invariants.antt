use Rattle.judge.proofs.Desking.{Desking}
use Rattle.judge.proofs.desk.table_lines.Given as goal

abbrev pub invariant-loop-at : goal.invariant-loop-at
invariant-loop-at l =
    (goal.iterator-loop-at).can_next l.at-iterator × (goal.iterator-loop-at).is_finite l.at-iterator
    × Desking l.t l.initial.pen l.pen l.work l.witness l.counts l.at-iterator
