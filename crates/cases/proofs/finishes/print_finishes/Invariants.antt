use Rattle.cases.proofs.Asking.{Asking}
use Rattle.cases.proofs.finishes.print_finishes.Given as goal

abbrev pub invariant-loop-at : goal.invariant-loop-at
invariant-loop-at l =
    (goal.iterator-loop-at).can_next l.at-iterator × (goal.iterator-loop-at).is_finite l.at-iterator × Asking l.counts l.at-iterator
