use mathlib.Core.Path.{refl}
use Rattle.reader.proofs.Result.{table_read}
use Rattle.judge.proofs.Answers.{read_held}
use Rattle.cases.proofs.finishes.print.Goals as goal

pub print_finishes-requires : goal.print_finishes-requires
print_finishes-requires c = read_held (table_read _ _ c.in-Ok.ensures refl)
