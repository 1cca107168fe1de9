use mathlib.Core.Path.{sym}
use native.Mathlib.Omega.{arith}
use lib.Seq.{length-take-le}
use borrow.Author.Rules.{rules}
use Rattle.cases.proofs.task.print_loads.Goals as goal

pub slice_bounds-weigh-end-2 : goal.slice_bounds-weigh-end-2
slice_bounds-weigh-end-2 c =
    let f = c.fill_stretch-need in
    sym (length-take-le f.result f.new.work (search rules))

pub weigh-requires : goal.weigh-requires
weigh-requires c =
    let f = c.fill_stretch-need in
    omega (arith, length-take-le f.result f.new.work (search rules), f.ensures)
