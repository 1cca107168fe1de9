use mathlib.Core.Path.{refl}
use Rattle.std.proofs.lemmas.Result.{err_from_is_err_and}
use Rattle.reader.proofs.Result.{table_read, line_refused}
use Rattle.judge.proofs.Answers.{read_held, text_uncounted, table_counted}
use Rattle.judge.proofs.judge_table.Goals as goal

pub returns-in_err-table : goal.returns-in_err-table
returns-in_err-table c =
    let s = c.args in
    let p = err_from_is_err_and c.from_residual.result c.from_residual.ensures.1 in
    rw (p.1, p.2) (text_uncounted s.text.now s.budget s.work.now _ (line_refused _ _ c.in_err-table.ensures refl))

pub count_verdicts-requires : goal.count_verdicts-requires
count_verdicts-requires c = read_held (table_read _ _ c.in_ok-table.ensures refl)

pub returns : goal.returns
returns c =
    let s = c.args in
    table_counted s.text.now s.budget s.work.now _ _ _ (table_read _ _ c.in_ok-table.ensures refl) c.count_verdicts.ensures
