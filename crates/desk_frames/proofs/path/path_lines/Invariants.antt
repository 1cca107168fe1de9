use Rattle.desk_frames.proofs.PathLines.{Pathing}
use Rattle.desk_frames.proofs.path.path_lines.Given as goal

abbrev pub invariant-loop-task : goal.invariant-loop-task
invariant-loop-task l = Pathing l.h l.cells l.initial.pen l.pen l.rest l.task
