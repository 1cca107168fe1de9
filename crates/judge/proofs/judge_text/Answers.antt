use Prim.Native.Nat.{◌<◌}
use native.Mathlib.Omega.{arith}
use mathlib.Core.Path.{refl, sym, ◌∙◌}
use borrow.Author.Tests.{leb-true, leb-false}
use Rattle.reader.proofs.Result.{table_read, line_refused}
use Rattle.table.proofs.Records.{held_few}
use Rattle.search.specs.Meant.{asked_by}
use Rattle.judge.proofs.Answers.{read_held, text_refuses, table_answers}
use Rattle.judge.proofs.Told.{answer_8, answer_8_vertex, is_there_lem}
use Rattle.judge.proofs.judge_text.Goals as goal

pub returns-in-Err : goal.returns-in-Err
returns-in-Err c =
    let s = c.args in
    text_refuses (asked_by s.late) s.text.now s.at.task.0 s.at.vertex.0 s.budget s.work.now s.witness.now _ (line_refused _ _ c.in-Err.ensures refl) refl

pub returns-then-no_such : goal.returns-then-no_such
returns-then-no_such c =
    let s = c.args in
    let table = table_read _ _ c.in-Ok.ensures refl in
    let h = leb-true _ _ (sym c.no_such.ensures ∙ c.if-no_such.true) in
    table_answers (asked_by s.late) s.text.now s.at.task.0 s.at.vertex.0 s.budget s.work.now s.witness.now _ _ _ _ table
    (answer_8 (asked_by s.late) _ (read_held table) s.at.task.0 s.at.vertex.0 s.budget s.work.now s.witness.now h c.no_such_vertex.ensures)

pub bounds-table-at : goal.bounds-table-at
bounds-table-at c =
    let table = read_held (table_read _ _ c.in-Ok.ensures refl) in
    let l : c.args.at.task.0 < c.in-Ok.table.n = leb-false _ _ (sym c.no_such.ensures ∙ c.if-no_such.false) in
    omega (arith, held_few _ table)

pub returns-then-no_such-2 : goal.returns-then-no_such-2
returns-then-no_such-2 c =
    let s = c.args in
    let table = table_read _ _ c.in-Ok.ensures refl in
    let l = leb-false _ _ (sym c.no_such.ensures ∙ c.if-no_such.false) in
    let h = leb-true _ _ (sym c.no_such-2.ensures ∙ c.if-no_such-2.true) in
    table_answers (asked_by s.late) s.text.now s.at.task.0 s.at.vertex.0 s.budget s.work.now s.witness.now _ _ _ _ table
    (answer_8_vertex (asked_by s.late) _ (read_held table) s.at.task.0 s.at.vertex.0 s.budget s.work.now s.witness.now l h c.no_such_vertex-then-no_such-2.ensures)

pub judge_vertex-requires : goal.judge_vertex-requires
judge_vertex-requires c =
    let s = c.args in
    let table = read_held (table_read _ _ c.in-Ok.ensures refl) in
    let l = leb-false _ _ (sym c.no_such.ensures ∙ c.if-no_such.false) in
    let m = leb-false _ _ (sym c.no_such-2.ensures ∙ c.if-no_such-2.false) in
    (table, is_there_lem (asked_by s.late) _ table s.at.task.0 s.at.vertex.0 s.budget s.work.now s.witness.now l m)

pub returns : goal.returns
returns c =
    let s = c.args in
    table_answers (asked_by s.late) s.text.now s.at.task.0 s.at.vertex.0 s.budget s.work.now s.witness.now _ _ _ _
    (table_read _ _ c.in-Ok.ensures refl) c.judge_vertex.ensures
