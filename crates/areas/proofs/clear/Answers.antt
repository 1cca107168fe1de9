use Rattle.areas.proofs.Fronts.{front_zeroed}
use Rattle.areas.proofs.clear.Goals as goal

pub returns : goal.returns
returns c = front_zeroed c.args.n c.args.work.now c.requires c.fill.new.self (c.fill.ensures.after (λ y e. e))
