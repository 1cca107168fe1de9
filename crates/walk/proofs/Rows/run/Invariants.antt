use Rattle.walk.proofs.Running.{Going}
use Rattle.walk.proofs.Rows.run.Given as goal

abbrev pub invariant-loop-n : goal.invariant-loop-n
invariant-loop-n l = Going l.self.layout.d l.self.e l.from l.budget l.self.layout.stretches.now l.self.work.now l.group l.best l.n
