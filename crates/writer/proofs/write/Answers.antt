use mathlib.Core.Path.{subst}
use native.Mathlib.Omega.{arith}
use Rattle.checks.specs.Checks.{TableChecked}
use Rattle.writer.proofs.Answers.{answer_broken, answer_sound, answer-bytes, answer_few, answer_short, answer-written}
use Rattle.writer.proofs.write.Goals as goal
use Rattle.writer.proofs.write.Goals.{In-Ok}
use Rattle.std.specs.Prelude.{Ok}

pub returns-in-Err : goal.returns-in-Err
returns-in-Err c = answer_broken _ (subst (λ r. TableChecked c.args.t.now r) c.in-Err.is c.check_table.ensures)

sound : (c : In-Ok) → TableChecked c.args.t.now (Ok c.in-Ok.need)
sound c = subst (λ r. TableChecked c.args.t.now r) c.in-Ok.is c.check_table.ensures

pub overflow_cast-place : goal.overflow_cast-place
overflow_cast-place c = omega (arith, answer_few (sound (goal.at.overflow_cast-place c).In-Ok))

pub returns-then-out-need : goal.returns-then-out-need
returns-then-out-need c = answer_short (sound (goal.at.returns-then-out-need c).In-Ok) _ c.if-out-need.true

pub put_table-end-requires : goal.put_table-end-requires
put_table-end-requires c =
    let s = sound (goal.at.put_table-end-requires c).In-Ok in
    (answer_sound s, omega (arith, (answer-bytes s).0, c.if-out-need.false))

pub returns : goal.returns
returns c = answer-written (sound (goal.at.returns c).In-Ok) c.if-out-need.false c.put_table-end.ensures
