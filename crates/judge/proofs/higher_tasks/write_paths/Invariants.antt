use lib.ListN.{length}
use Rattle.meaning.specs.Table.{higher}
use Rattle.table.specs.Inner.{table_of}
use Rattle.judge.proofs.Missing.{MissTo}
use Rattle.judge.proofs.higher_tasks.write_paths.Given as goal

abbrev pub invariant-loop-next : goal.invariant-loop-next
invariant-loop-next l = MissTo (higher (table_of l.t) (length l.places)) (length l.places) l.d.0 l.places l.initial.witness l.witness l.cells (length l.yielded)
