use native.Mathlib.Omega.{arith}
use Rattle.table.proofs.Largest.{of_none, of_more}
use Rattle.table.proofs.largest_e.Goals as goal

pub loop-x-init : goal.loop-x-init
loop-x-init c = of_none _

pub loop-x-preserved : goal.loop-x-preserved
loop-x-preserved c = omega (arith, c.loop-x.invariant, c.longer-largest.ensures, of_more c.args.vertices.now c.loop-x.x-index)
