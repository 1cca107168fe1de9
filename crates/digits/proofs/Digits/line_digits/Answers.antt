use mathlib.Core.Path.{◌≡◌, subst}
use Prim.Native.Nat.{ℕ, ◌+◌, ◌*◌, ◌<◌}
use native.Mathlib.Omega.{arith}
use lib.ListN.{length}
use Rattle.digits.proofs.Counting.{Counted, count_first, count_feed, some_number, no_number, count_one, count_high, count_low, count_more}
use Rattle.digits.proofs.Digits.line_digits.Goals as goal
use Rattle.digits.proofs.Digits.line_digits.Goals.{then-text-i-eq1-via-then-text-i-eq1, then-text-i-eq1-via-else-text-i-eq1+then-worth-gt15}
use Rattle.digits.proofs.Digits.line_digits.Goals.{then-text-i-eq1-via-else-text-i-eq1+else-worth-gt15+then-worth-gt15-2}

pub loop-k-init : goal.loop-k-init
loop-k-init c = count_first c.args.text.now

pub returns-else-k-eq0 : goal.returns-else-k-eq0
returns-else-k-eq0 c =
    let more : 2 * c.loop-k.k < length c.args.text.now = omega (arith, c.loop-k-test.true, c.loop-k.auto.k-end, c.div_ceil-k-end.ensures) in
    some_number (count_feed c.loop-k.invariant more c.if-text-i-eq10.true) (λ none. c.if-k-eq0.false (omega arith))

pub returns-then-text-i-eq1 : goal.returns-then-text-i-eq1
returns-then-text-i-eq1 c =
    let more : 2 * c.loop-k.k < length c.args.text.now = omega (arith, c.loop-k-test.true, c.loop-k.auto.k-end, c.div_ceil-k-end.ensures) in
    let e = c.loop-k.invariant in
    let n = c.if-text-i-eq10.false in
    elim c.then-text-i-eq1.branch [
      | then-text-i-eq1-via-then-text-i-eq1 w ↦ no_number (count_one e more n w.if-text-i-eq1.true)
      | then-text-i-eq1-via-else-text-i-eq1+then-worth-gt15 w ↦ no_number (count_high e more n w.if-text-i-eq1.false w.worth.ensures w.if-worth-gt15.true)
      | then-text-i-eq1-via-else-text-i-eq1+else-worth-gt15+then-worth-gt15-2 w ↦
          no_number (count_low e more n w.if-text-i-eq1.false w.worth-else-worth-gt15.ensures w.if-worth-gt15-2.true)
    ]

pub loop-k-preserved : goal.loop-k-preserved
loop-k-preserved c =
    let more : 2 * c.loop-k.k < length c.args.text.now = omega (arith, c.loop-k-test.true, c.loop-k.auto.k-end, c.div_ceil-k-end.ensures) in
    let next =
    count_more c.loop-k.invariant more c.if-text-i-eq10.false c.if-text-i-eq1.false
    c.worth.ensures c.if-worth-gt15.false c.worth-else-worth-gt15.ensures c.if-worth-gt15-2.false in
    let o : 2 * c.loop-k.k + 2 ≡ 2 * (c.loop-k.k + 1) = omega arith in
    subst (λ (i : ℕ). Counted c.args.text.now i) o next
