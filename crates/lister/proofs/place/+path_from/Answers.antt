use Prim.Native.Nat.{◌+◌}
use native.Mathlib.Omega.{arith}
use Rattle.lister.proofs.Places.{here, past_one, past_some, seeking_found, seeking_on, seeking_skip}
use Rattle.lister.proofs.place.+path_from.Goals as goal

pub loop-k-preserved-then-r-edge : goal.loop-k-preserved-then-r-edge
loop-k-preserved-then-r-edge t c = seeking_skip c.loop-k.invariant c.loop-k-test.true (omega arith)

pub returns-in-Break : goal.returns-in-Break
returns-in-Break t c =
    let e = c.edge-edge.ensures in
    seeking_found c.loop-k.invariant c.loop-k-test.true (omega arith) c.args.depth c.path_from.new.cells c.path_from.result c.in-Break.len
    (rw (e.0, e.1) at c.path_from.ensures) c.in-Break.is c.args.columns.now.sound

pub loop-k-preserved : goal.loop-k-preserved
loop-k-preserved t c =
    let e = c.edge-edge.ensures in
    seeking_on c.loop-k.invariant c.loop-k-test.true (omega arith) (c.args.depth + 1) c.path_from.new.cells c.path_from.result c.in-Continue.place
    (rw (e.0, e.1) at c.path_from.ensures) c.in-Continue.is

pub returns-then-left-i : goal.returns-then-left-i
returns-then-left-i t c = past_some c.loop-k.invariant c.args.columns.now.sound c.loop-k-test.false c.args.depth c.if-left-i.true

pub returns-then-i-eq0 : goal.returns-then-i-eq0
returns-then-i-eq0 t c = here c.loop-k.invariant c.args.columns.now.sound c.loop-k-test.false c.args.depth c.if-left-i.false c.if-i-eq0.true

pub returns : goal.returns
returns t c = past_one c.loop-k.invariant c.args.columns.now.sound c.loop-k-test.false c.args.depth c.if-left-i.false (omega arith)
