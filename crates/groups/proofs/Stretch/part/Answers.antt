use native.Mathlib.Omega.{arith}
use mathlib.Core.Path.{refl}
use Prim.Native.Nat.{◌+◌, ◌*◌, ◌≤◌}
use Rattle.rows.specs.Ranges.{row_start}
use Rattle.groups.specs.Lent.{largest_index}
use Rattle.groups.proofs.Stretch.part.Goals as goal

pub overflow_add-base : goal.overflow_add-base
unfolding row_start
overflow_add-base c =
    let s = c.args in
    let k : s.self.now.root + (2 * s.first + c.top_row.result) * s.d ≤ largest_index = rw c.top_row.ensures c.requires.2 in
    omega arith

pub returns : goal.returns
unfolding row_start
returns c = rw c.top_row.ensures refl
