use Rattle.lister.proofs.CountLoop.{followed_on}
use Rattle.lister.proofs.follow.follow.Goals as goal

pub loop-edge-preserved : goal.loop-edge-preserved
loop-edge-preserved c = followed_on c.args.columns.now.sound c.loop-edge.invariant c.in-Some.ensures
