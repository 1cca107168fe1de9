use native.Mathlib.Omega.{arith}
use Rattle.walk.proofs.Running.{going_top, going_next}
use Rattle.walk.proofs.Rows.run.Goals as goal

pub loop-n-init : goal.loop-n-init
loop-n-init c = going_top _ c.args.self.now.walkable (omega arith) c.top_group.ensures

pub loop-n-preserved : goal.loop-n-preserved
loop-n-preserved c = going_next _ c.args.self.now.walkable c.loop-n.invariant c.loop-n-test.true c.step-told.ensures c.in-Next.is
