use mathlib.Core.Path.{ap, ◌∙◌}
use Prim.Native.Nat.{◌+◌}
use native.Mathlib.Omega.{arith}
use lib.ListN.{set, take, length-set}
use Rattle.meaning.proofs.Stores.{copy_more}
use Rattle.areas.proofs.Witnesses.{len_short, path-size, place_written}
use Rattle.areas.proofs.witness.write_place.Goals as goal

pub shared_ref_as_front-vertices : goal.shared_ref_as_front-vertices
shared_ref_as_front-vertices c = omega (arith, len_short c.requires.0 c.requires.1 c.requires.2 c.args.place c.path_at-path.ensures, c.requires.2)

pub overflow_cast-witness : goal.overflow_cast-witness
overflow_cast-witness c = omega (arith, len_short c.requires.0 c.requires.1 c.requires.2 c.args.place c.path_at-path.ensures, c.requires.2)

pub bounds-witness-from : goal.bounds-witness-from
bounds-witness-from c =
    let path = c.path_at-path in
    let short = len_short c.requires.0 c.requires.1 c.requires.2 c.args.place path.ensures in
    let size = path-size c.requires.0 c.requires.1 c.requires.2 c.args.place path.ensures in
    omega (arith, length-set c.args.witness.now c.args.at path.result.len, c.requires.4)

pub loop-i-preserved : goal.loop-i-preserved
loop-i-preserved c =
    let l = c.loop-i in
    let path = c.path_at-path.result in
    ap (set l.witness (c.args.at + 1 + l.i)) c.from.ensures
    ∙ copy_more (set c.args.witness.now c.args.at path.len) l.witness (take path.len path.vertices) (c.args.at + 1) l.i c.loop-i-test.true l.invariant

pub returns : goal.returns
returns c = place_written c.requires.0 c.requires.1 c.requires.2 c.args.place c.path_at-path.ensures c.args.at c.args.witness.now c.loop-i.invariant (omega arith)
