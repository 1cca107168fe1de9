use borrow.Author.Rules.{rules}
use Rattle.judge.proofs.SoFar.{so_far_there, so_far_few}
use Rattle.judge.proofs.Desking.{lines_ask, desking_more, counts_ask, desking_all}
use Rattle.judge.proofs.desk.table_lines.Goals as goal

pub judge_vertex-told-requires : goal.judge_vertex-told-requires
judge_vertex-told-requires c = so_far_there c.loop-at.invariant.2.so_far c.in-Some.ensures.steps

pub vertex_lines-requires : goal.vertex_lines-requires
vertex_lines-requires c = lines_ask c.loop-at.invariant.2 c.in-Some.ensures.steps c.judge_vertex-told.ensures c.from-verdict.ensures

pub counted-counts-requires : goal.counted-counts-requires
counted-counts-requires c = so_far_few c.loop-at.invariant.2.so_far c.in-Some.ensures.steps

pub loop-at-preserved : goal.loop-at-preserved
loop-at-preserved c = (
  tt,
  tt,
  desking_more c.loop-at.invariant.2 c.in-Some.ensures.steps c.judge_vertex-told.ensures c.from-verdict.ensures
      c.vertex_lines.ensures c.judge_vertex-told.auto.work c.judge_vertex-told.auto.witness c.counted-counts.ensures,
)

pub counts_line-requires : goal.counts_line-requires
counts_line-requires c = counts_ask c.loop-at.invariant.2 c.in-None.ensures.steps.0

pub returns : goal.returns
returns c =
    let all = desking_all c.loop-at.invariant.2 c.in-None.ensures.steps.0 c.counts_line.ensures in
    search rules
