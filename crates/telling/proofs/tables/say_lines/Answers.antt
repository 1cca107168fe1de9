use mathlib.Core.Path.{refl}
use Rattle.std.proofs.lemmas.Result.{err_from_is_err_and}
use Rattle.reader.proofs.Result.{table_read, line_refused}
use Rattle.telling.proofs.Saying.{lines_ask, lines_counted, lines_refused}
use Rattle.telling.proofs.tables.say_lines.Goals as goal

pub returns-in_err-table : goal.returns-in_err-table
returns-in_err-table c =
    let p = err_from_is_err_and c.from_residual.result c.from_residual.ensures.1 in
    rw (p.1, p.2) (lines_refused (line_refused _ _ c.in_err-table.ensures refl))

pub say_vertices-requires : goal.say_vertices-requires
say_vertices-requires c = lines_ask (table_read _ _ c.in_ok-table.ensures refl)

pub returns : goal.returns
returns c = lines_counted (table_read _ _ c.in_ok-table.ensures refl) c.say_vertices.ensures
