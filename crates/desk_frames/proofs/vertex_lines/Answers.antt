use mathlib.Core.Path.{ap}
use Rattle.kinds.specs.declared.Verdict.{Verdict}
use Rattle.desk_frames.specs.Lines.{place_of, shown_paths}
use Rattle.desk_frames.proofs.VertexLines.{verdict_asks, shown-alone, shown_none, paths_ask, shown-all}
use Rattle.desk_frames.proofs.vertex_lines.Goals as goal

pub verdict_line-requires : goal.verdict_line-requires
verdict_line-requires c =
    let s = c.args in
    verdict_asks (place_of s.task s.vertex) s.verdict s.cells.now _ _ c.requires.1

pub path_lines-requires : goal.path_lines-requires
path_lines-requires c =
    let s = c.args in
    let shows = ap (λ (x : Verdict). shown_paths x s.task.0 s.cells.now) c.in-Misses.is in (
      rw c.in-Misses.is at c.requires.0,
      paths_ask (place_of s.task s.vertex) s.verdict s.cells.now _ c.verdict_line.ensures shows c.requires.1,
    )

pub returns-in-Misses : goal.returns-in-Misses
returns-in-Misses c =
    let s = c.args in
    let shows = ap (λ (x : Verdict). shown_paths x s.task.0 s.cells.now) c.in-Misses.is in
    shown-all (place_of s.task s.vertex) s.verdict s.cells.now _ c.verdict_line.ensures shows c.path_lines.ensures

pub returns-in_default : goal.returns-in_default
returns-in_default c =
    let s = c.args in
    shown-alone (place_of s.task s.vertex) s.verdict s.cells.now c.verdict_line.ensures (shown_none s.verdict s.task.0 s.cells.now c.in_default.not-Misses)
