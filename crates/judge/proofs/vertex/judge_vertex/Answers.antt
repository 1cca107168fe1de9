use native.Mathlib.Omega.{arith}
use mathlib.Core.Path.{refl}
use Rattle.search.specs.Meant.{asked_by}
use Rattle.judge.proofs.OneVertex.{Asked, cell_in, higher_asks, sum_fits, answer_9, area_asks, answer_areas, search_rows, search_walks}
use Rattle.judge.proofs.OneVertex.{write_held, write_small, said_asks, answer-walked}
use Rattle.judge.proofs.vertex.judge_vertex.Goals as goal
use Rattle.judge.proofs.vertex.judge_vertex.Goals.{Start}

-- what the call was asked
abbrev asked : (c : Start) → Asked
asked c =
    record {
      asks = asked_by c.args.late;
      table = c.args.t.now;
      held = c.requires.0;
      task = c.args.at.task.0;
      vertex = c.args.at.vertex.0;
      budget = c.args.budget;
      work = c.args.work.now;
      witness = c.args.witness.now;
      there = c.requires.1;
    }

pub bounds-t-at : goal.bounds-t-at
bounds-t-at c = cell_in (asked (goal.at.bounds-t-at c).Start)

pub count_paths-requires : goal.count_paths-requires
count_paths-requires c = higher_asks (asked (goal.at.count_paths-requires c).Start)

pub returns-in-Err : goal.returns-in-Err
returns-in-Err c = answer_9 (asked (goal.at.returns-in-Err c).Start) c.in-Err.ensures c.too_many_paths.ensures

pub area_rows-rows-requires : goal.area_rows-rows-requires
area_rows-rows-requires c = area_asks (asked (goal.at.area_rows-rows-requires c).Start) c.in-Ok.ensures

pub returns-in-Err-rows : goal.returns-in-Err-rows
returns-in-Err-rows c = answer_areas (asked (goal.at.returns-in-Err-rows c).Start) c.in-Ok.ensures c.area_rows-rows.ensures c.in-Err-rows.is refl

pub fill_stretches-requires-clause-held : goal.fill_stretches-requires-clause-held
fill_stretches-requires-clause-held c = higher_asks (asked (goal.at.fill_stretches-requires-clause-held c).Start)

pub overflow_add-e : goal.overflow_add-e
overflow_add-e c = omega (arith, sum_fits (asked (goal.at.overflow_add-e c).Start) c.longest_mask.ensures)

pub search-walked-requires-clause-rows_bound : goal.search-walked-requires-clause-rows_bound
search-walked-requires-clause-rows_bound c =
    let a = asked (goal.at.search-walked-requires-clause-rows_bound c).Start in
    search_rows a c.in-Ok.ensures c.area_rows-rows.ensures c.in_default.is c.fill_stretches.ensures c.fill_stretches.auto.work

pub search-walked-requires-clause-walkable : goal.search-walked-requires-clause-walkable
search-walked-requires-clause-walkable c =
    let a = asked (goal.at.search-walked-requires-clause-walkable c).Start in
    search_walks a c.in-Ok.ensures c.area_rows-rows.ensures c.in_default.is c.fill_stretches.ensures c.longest_mask.ensures

pub write_paths-cells-requires-clause-held : goal.write_paths-cells-requires-clause-held
write_paths-cells-requires-clause-held c =
    let a = asked (goal.at.write_paths-cells-requires-clause-held c).Start in
    write_held a c.in-Ok.ensures c.area_rows-rows.ensures c.in_default.is c.fill_stretches.ensures c.longest_mask.ensures c.first_bar-bar.ensures
    c.search-walked.ensures.value c.written_paths-shown.ensures

pub write_paths-cells-requires-clause-counted : goal.write_paths-cells-requires-clause-counted
write_paths-cells-requires-clause-counted c =
    let a = asked (goal.at.write_paths-cells-requires-clause-counted c).Start in
    write_small a c.in-Ok.ensures c.area_rows-rows.ensures c.in_default.is c.fill_stretches.ensures c.longest_mask.ensures c.first_bar-bar.ensures
    c.search-walked.ensures.value c.written_paths-shown.ensures

pub said-requires : goal.said-requires
said-requires c =
    let a = asked (goal.at.said-requires c).Start in
    said_asks a c.in-Ok.ensures c.area_rows-rows.ensures c.in_default.is c.fill_stretches.ensures c.longest_mask.ensures c.first_bar-bar.ensures
    c.search-walked.ensures.value c.written_paths-shown.ensures c.write_paths-cells.ensures

pub returns : goal.returns
returns c =
    let a = asked (goal.at.returns c).Start in
    answer-walked a c.in-Ok.ensures c.area_rows-rows.ensures c.in_default.is c.fill_stretches.ensures c.longest_mask.ensures c.first_bar-bar.ensures
    c.search-walked.ensures.value c.written_paths-shown.ensures c.write_paths-cells.ensures c.search-walked.ensures.work_after c.said.ensures
