use Rattle.judge.proofs.Masking.{masked_more}
use Rattle.judge.proofs.lower_tasks.longest_mask.Goals as goal

pub loop-lower-preserved : goal.loop-lower-preserved
loop-lower-preserved c = masked_more _ c.requires.0 _ c.first_lower.ensures c.loop-lower.invariant _ c.loop-lower-test.true c.longer-masked.ensures
