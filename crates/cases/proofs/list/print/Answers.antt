use mathlib.Core.Path.{refl}
use Rattle.reader.proofs.Result.{table_read}
use Rattle.judge.proofs.Answers.{read_held}
use Rattle.cases.proofs.list.print.Goals as goal

pub list_table-requires : goal.list_table-requires
list_table-requires c = read_held (table_read _ _ c.in-Ok.ensures refl)
