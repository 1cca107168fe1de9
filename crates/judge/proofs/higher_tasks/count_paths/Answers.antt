use Rattle.judge.proofs.Higher.{counted_none, next_held, crowds, with_asks, count_pos, counted_more}
use Rattle.judge.proofs.higher_tasks.count_paths.Goals as goal

pub loop-j-init : goal.loop-j-init
loop-j-init c = let r = c.requires in counted_none _ r.0 _ r.1 _ c.none_above-above.ensures

pub path_count-paths-requires-clause-held_task : goal.path_count-paths-requires-clause-held_task
path_count-paths-requires-clause-held_task c = let r = c.requires in next_held _ r.0 _ r.1 c.args.d.0 _ _ c.loop-j-test.true

pub returns-then-paths-gt-MOST_PATHS : goal.returns-then-paths-gt-MOST_PATHS
returns-then-paths-gt-MOST_PATHS c =
    let r = c.requires in crowds _ r.0 _ r.1 _ _ c.loop-j.invariant c.loop-j-test.true _ c.path_count-paths.ensures c.if-paths-gt-MOST_PATHS.true

pub with_paths-above-requires-clause-counted : goal.with_paths-above-requires-clause-counted
with_paths-above-requires-clause-counted c =
    let r = c.requires in with_asks _ r.0 _ r.1 _ _ c.loop-j.invariant c.loop-j-test.true _ c.path_count-paths.ensures c.if-paths-gt-MOST_PATHS.false

pub with_paths-above-requires-clause-paths_nonzero : goal.with_paths-above-requires-clause-paths_nonzero
with_paths-above-requires-clause-paths_nonzero c =
    let r = c.requires in
    let h = c.if-paths-gt-MOST_PATHS.false in
    (count_pos _ r.0 _ r.1 _ _ c.loop-j.invariant c.loop-j-test.true _ c.path_count-paths.ensures h, h, r.3)

pub loop-j-preserved : goal.loop-j-preserved
loop-j-preserved c =
    let r = c.requires in
    counted_more _ r.0 _ r.1 _ _ c.loop-j.invariant c.loop-j-test.true _ c.path_count-paths.ensures c.if-paths-gt-MOST_PATHS.false c.with_paths-above.ensures
