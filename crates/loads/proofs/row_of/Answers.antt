use Prim.Native.Nat.{◌*◌, ◌≤◌}
use native.Mathlib.Nat.{mul-le-mul_right}
use native.Mathlib.Omega.{arith}
use Rattle.ways.specs.Ways.{most_counted}
use Rattle.loads.proofs.row_of.Goals as goal

pub overflow_mul-result-2 : goal.overflow_mul-result-2
overflow_mul-result-2 c =
    let z : 2 * c.args.i * c.from.result ≤ 2 * most_counted * c.from.result = mul-le-mul_right {m = 2 * c.args.i} c.from.result (omega arith) in
    omega arith
