use lib.ListN.{length}
use mathlib.Core.Path.{sym}
use native.Mathlib.Omega.{arith}
use Rattle.table.specs.Inner.{task_of}
use Rattle.ranges.proofs.WholeStretch.{room_for, stretch_is}
use Rattle.ranges.proofs.fill.Goals as goal

pub path_rows-requires : goal.path_rows-requires
path_rows-requires c =
    let asked = c.requires.d_nonzero in
    let room = room_for c.args.d.0 c.args.paths (length c.args.part.now) _ asked.3 asked.2 asked.5 (sym asked.4) in
    record { held_task = c.requires.held_task; d_nonzero = (asked.0, asked.1); room = room }

pub returns : goal.returns
returns c =
    stretch_is (task_of c.args.t.now) c.args.d.0 c.args.paths c.args.part.now c.path_rows.new.part c.build.new.part c.requires.d_nonzero.4 (omega arith)
    c.path_rows.ensures (rw c.from.ensures at c.build.ensures)
