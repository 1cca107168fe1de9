use Rattle.meaning.specs.Table.{higher}
use Rattle.table.specs.Inner.{table_of}
use Rattle.judge.proofs.Higher.{CountedTo}
use Rattle.judge.proofs.higher_tasks.count_paths.Given as goal

abbrev pub invariant-loop-j : goal.invariant-loop-j
invariant-loop-j l = CountedTo (higher (table_of l.t) l.h) l.h l.d.0 l.above l.j
