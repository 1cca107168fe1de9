use Rattle.loads.proofs.Fronts.{copied_here, copied_behind}
use Rattle.loads.proofs.runs.copy_front.Goals as goal

pub returns-then-to-row : goal.returns-then-to-row
returns-then-to-row c =
    let s = c.args in
    copied_behind s.part.now s.row s.span.0 s.to c.from.result c.from.ensures (c.requires.0 c.if-to-row.true) c.requires.1
    c.copy_within.new.self c.copy_within.ensures.after

pub returns-else-to-row : goal.returns-else-to-row
returns-else-to-row c =
    let s = c.args in
    copied_here s.part.now s.row s.span.0 s.to c.if-to-row.false c.requires.1
