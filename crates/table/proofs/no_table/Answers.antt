use mathlib.Core.Path.{ap}
use lib.ListN.{replicate}
use Rattle.meaning.specs.Bounds.{most_tasks}
use Rattle.table.specs.declared.Task.{Task}
use Rattle.table.specs.declared.Table.{Table}
use Rattle.table.proofs.no_table.Goals as goal

filled_with : Task → Table
filled_with k = record { n = 0; tasks = replicate most_tasks k }

pub returns : goal.returns
unfolding filled_with
returns c = ap filled_with c.no_task-k.ensures
