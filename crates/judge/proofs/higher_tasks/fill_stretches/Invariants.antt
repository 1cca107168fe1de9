use Rattle.meaning.specs.Table.{higher}
use Rattle.table.specs.Inner.{table_of}
use Rattle.judge.proofs.Higher.{FilledTo}
use Rattle.judge.proofs.higher_tasks.fill_stretches.Given as goal

abbrev pub invariant-loop-k : goal.invariant-loop-k
invariant-loop-k l = FilledTo (higher (table_of l.t) l.h) l.h l.d.0 l.initial.work l.work l.k
