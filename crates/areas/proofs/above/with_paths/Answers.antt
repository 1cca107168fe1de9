use native.Mathlib.Omega.{arith}
use Rattle.areas.proofs.Counting.{cells_fit}
use Rattle.areas.proofs.above.with_paths.Goals as goal

pub overflow_mul-next : goal.overflow_mul-next
overflow_mul-next c =
    let s = c.args in
    omega (arith, cells_fit s.above.rows s.j c.from.result c.requires.counted.0.rows c.requires.counted.1 (omega (arith, c.requires.paths_nonzero.2)))
