use Rattle.judge.proofs.Higher.{fill_asks, fill_room, filled_more, filled_all}
use Rattle.judge.proofs.higher_tasks.fill_stretches.Goals as goal

pub fill_stretch-requires-clause-held_task : goal.fill_stretch-requires-clause-held_task
fill_stretch-requires-clause-held_task c =
    let r = c.requires.held in
    fill_asks _ r.0 _ r.1 _ (r.2, r.3) c.requires.counted.0 _ c.requires.counted.1 c.loop-k.invariant c.loop-k-test.true _

pub fill_stretch-requires-clause-d_nonzero : goal.fill_stretch-requires-clause-d_nonzero
fill_stretch-requires-clause-d_nonzero c =
    let r = c.requires.held in
    fill_room _ r.0 _ r.1 _ (r.2, r.3) c.requires.counted.0 _ c.requires.counted.1 c.loop-k.invariant c.loop-k-test.true

pub loop-k-preserved : goal.loop-k-preserved
loop-k-preserved c =
    let r = c.requires.held in
    filled_more _ r.0 _ r.1 _ (r.2, r.3) c.requires.counted.0 _ c.requires.counted.1 c.loop-k.invariant c.loop-k-test.true _ c.fill_stretch.ensures

pub returns : goal.returns
returns c =
    let r = c.requires.held in
    filled_all _ r.0 _ r.1 _ (r.2, r.3) c.requires.counted.0 _ c.requires.counted.1 c.loop-k.invariant c.loop-k-test.false
