use Prim.Native.Nat.{◌+◌}
use lib.ListN.{get_or}
use Rattle.digits.proofs.Worths.{foreign_above, worth_most}
use native.Mathlib.Omega.{arith}
use Rattle.digits.proofs.Digits.pair_at.Goals as goal

pub overflow_mul-result : goal.overflow_mul-result
overflow_mul-result c = omega (arith, foreign_above.bits, worth_most (get_or c.args.text.now c.args.i 0))

pub overflow_add-result : goal.overflow_add-result
overflow_add-result c =
    let a = c.args in
    omega (arith, foreign_above.bits, worth_most (get_or a.text.now a.i 0), worth_most (get_or a.text.now (a.i + 1) 0))
