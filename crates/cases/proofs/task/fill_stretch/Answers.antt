use mathlib.Core.Path.{sym}
use native.Mathlib.Omega.{arith}
use Rattle.cases.proofs.Stretches.{stretch_small, stretch_fits, stretch_part}
use Rattle.cases.proofs.task.fill_stretch.Goals as goal

pub overflow_mul-need-2 : goal.overflow_mul-need-2
overflow_mul-need-2 c = omega (arith, stretch_small c.requires)

pub slice_bounds-fill-end : goal.slice_bounds-fill-end
slice_bounds-fill-end c = stretch_fits c.requires

pub slice_bounds-fill-end-2 : goal.slice_bounds-fill-end-2
slice_bounds-fill-end-2 c = sym (stretch_part c.requires)

pub fill-requires : goal.fill-requires
fill-requires c =
    let l = c.requires in
    record { held_task = l.held; d_nonzero = (l.some_d, l.most_d, omega (arith, l.few_paths), l.some_path, l.all, stretch_part l) }

pub returns : goal.returns
returns c = stretch_small c.requires
