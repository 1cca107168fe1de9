use native.Mathlib.Omega.{arith}
use Rattle.areas.proofs.Filling.{paths_pos, fill_asks, stretch_put}
use Rattle.areas.proofs.stretches.fill_stretch.Goals as goal

pub overflow_sub-to : goal.overflow_sub-to
overflow_sub-to c = omega (arith, paths_pos c.args.t.now c.requires.held_task.0 c.args.paths c.args.d.0 c.requires.held_task.1)

pub fill-requires : goal.fill-requires
fill-requires c =
    let s = c.args in
    let held = c.requires.held_task in
    let asked = c.requires.d_nonzero in
    let asks = fill_asks s.t.now held.0 s.paths s.d.0 held.1 s.work.now s.from asked.2 held.2 (asked.0, asked.1) in
    record { held_task = asks.0; d_nonzero = rw c.from.ensures asks.1 }

pub returns : goal.returns
returns c =
    let s = c.args in
    let held = c.requires.held_task in
    rw c.from.ensures (stretch_put s.t.now held.0 s.paths s.d.0 held.1 s.work.now s.from c.requires.d_nonzero.2 c.fill.ensures)
