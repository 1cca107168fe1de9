use mathlib.Core.Path.{refl, sym, ◌∙◌}
use borrow.Author.Tests.{ltb-true, ltb-false}
use Rattle.reader.proofs.Result.{table_read, line_refused}
use Rattle.judge.proofs.Answers.{read_held}
use Rattle.judge.proofs.Output.{writes_long, writes_table, writes_refused}
use Rattle.judge.proofs.desk_output.Goals as goal

pub returns-then-input_too_long : goal.returns-then-input_too_long
returns-then-input_too_long c = writes_long _ (ltb-true _ _ (sym c.input_too_long.ensures ∙ c.if-input_too_long.true)) c.refusal_output.ensures

pub table_output-requires : goal.table_output-requires
table_output-requires c = read_held (table_read _ _ c.in-Ok.ensures refl)

pub returns-in-Ok : goal.returns-in-Ok
returns-in-Ok c =
    let fits = ltb-false _ _ (sym c.input_too_long.ensures ∙ c.if-input_too_long.false) in
    writes_table _ fits _ (table_read _ _ c.in-Ok.ensures refl) c.table_output.ensures

pub returns-in-Err : goal.returns-in-Err
returns-in-Err c =
    let fits = ltb-false _ _ (sym c.input_too_long.ensures ∙ c.if-input_too_long.false) in
    writes_refused _ fits _ (line_refused _ _ c.in-Err.ensures refl) c.refusal_output-in-Err.ensures
