use Rattle.groups.proofs.NextGroup.{Back}
use Rattle.groups.proofs.Layout.next_group.Given as goal

abbrev pub invariant-loop-j : goal.invariant-loop-j
invariant-loop-j l = Back l.self.d l.self.stretches.now l.initial.group l.group l.j
