use Prim.Native.Nat.{◌+◌}
use Rattle.digits.proofs.Worths.{foreign_above, pair_most}
use native.Mathlib.Omega.{arith}
use Rattle.digits.proofs.Digits.word_at.Goals as goal

pub overflow_mul-result : goal.overflow_mul-result
overflow_mul-result c =
    let a = c.args in
    omega (arith, foreign_above.bits, pair_most a.text.now a.i, pair_most a.text.now (a.i + 2))

pub overflow_add-result : goal.overflow_add-result
overflow_add-result c =
    let a = c.args in
    omega (arith, foreign_above.bits, pair_most a.text.now a.i, pair_most a.text.now (a.i + 2))
