use native.Mathlib.Omega.{arith}
use Rattle.walk.proofs.Stepping.{many, step_rows}
use Rattle.walk.proofs.Rows.step.Goals as goal

pub finish-t-requires : goal.finish-t-requires
finish-t-requires c = let f = c.args.self.now.walkable in (f.own, step_rows f c.requires)

pub places_of-places-requires : goal.places_of-places-requires
places_of-places-requires c =
    let f = c.args.self.now.walkable in
    omega (arith, many f c.requires, c.first_child.auto.group, f.stretches.few)
