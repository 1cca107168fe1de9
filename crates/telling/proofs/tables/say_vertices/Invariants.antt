use Rattle.telling.proofs.Saying.{Saying}
use Rattle.telling.proofs.tables.say_vertices.Given as goal

abbrev pub invariant-loop-at : goal.invariant-loop-at
invariant-loop-at l =
    (goal.iterator-loop-at).can_next l.at-iterator × (goal.iterator-loop-at).is_finite l.at-iterator
    × Saying l.text l.table l.counts l.at-iterator
