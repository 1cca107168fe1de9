use Rattle.frames.proofs.Answers.{fault_then}
use Rattle.digits.specs.Digits.{frame_at, digit_count}
use Rattle.digits.proofs.Counting.{number_of}
use borrow.Author.Tests.{eqb-false}
use mathlib.Core.Path.{sym, ◌∙◌}
use native.Mathlib.Omega.{arith}
use Rattle.frames.proofs.Frame.fault.Goals as goal

pub returns-in-Some : goal.returns-in-Some
returns-in-Some c =
    let n = number_of (digit_count 0 (frame_at c.args.text.now)) c.in-Some.ensures in
    let same = c.if-n-digits.true ∙ c.digits.ensures in
    fault_then _ _ _ (eqb-false _ 0 (sym c.if-is_empty.ensures)) (n.0 ∙ same, omega (arith, n.1, same))
