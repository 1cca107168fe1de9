use Rattle.judge.proofs.WholeTable.{JudgedSoFar}
use Rattle.judge.proofs.whole.count_verdicts.Given as goal

abbrev pub invariant-loop-at : goal.invariant-loop-at
invariant-loop-at l =
    (goal.iterator-loop-at).can_next l.at-iterator × (goal.iterator-loop-at).is_finite l.at-iterator
    × JudgedSoFar l.t l.budget l.initial.work l.work l.witness l.counts l.at-iterator
