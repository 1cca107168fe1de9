use Rattle.judge.proofs.SoFar.{so_far_there, so_far_few}
use Rattle.judge.proofs.WholeTable.{judged_more}
use Rattle.judge.proofs.whole.count_verdicts.Goals as goal

pub judge_vertex-told-requires : goal.judge_vertex-told-requires
judge_vertex-told-requires c = so_far_there c.loop-at.invariant.2.so_far c.in-Some.ensures.steps

pub counted-counts-requires : goal.counted-counts-requires
counted-counts-requires c = so_far_few c.loop-at.invariant.2.so_far c.in-Some.ensures.steps

pub loop-at-preserved : goal.loop-at-preserved
loop-at-preserved c = (
  tt,
  tt,
  judged_more c.loop-at.invariant.2 c.in-Some.ensures.steps c.judge_vertex-told.ensures c.from.ensures c.judge_vertex-told.auto.work
      c.judge_vertex-told.auto.witness c.counted-counts.ensures,
)
