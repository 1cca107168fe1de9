use mathlib.Core.Path.{sym}
use lib.Seq.{length-take-le}
use Rattle.judge.proofs.Output.{output-within}
use Rattle.desk.proofs.write_from.Goals as goal

pub slice_bounds-write_all-end : goal.slice_bounds-write_all-end
slice_bounds-write_all-end c = output-within _ c.desk_output-end.ensures

pub slice_bounds-write_all-end-2 : goal.slice_bounds-write_all-end-2
slice_bounds-write_all-end-2 c = sym (length-take-le _ _ (output-within _ c.desk_output-end.ensures))
