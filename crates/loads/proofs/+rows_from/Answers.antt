use mathlib.Core.Path.{sym, subst, ◌∙◌}
use Prim.Native.Nat.{ℕ, ◌+◌, ◌-◌, ◌*◌, ◌≤◌}
use native.Mathlib.Omega.{arith}
use lib.ListN.{length}
use Rattle.ways.specs.Ways.{ways}
use Rattle.ways.proofs.Turns.{edge_on}
use Rattle.loads.specs.Rows.{Room}
use Rattle.loads.proofs.PutRows.{going_skip, going_on, going_room, put_some, put_alone, room_here, rows_apart}
use Rattle.loads.proofs.+rows_from.Goals as goal
use Rattle.loads.proofs.+rows_from.Goals.{Start, Else-d-s}

-- the row of i lies in the part
fits-first : (t : ℕ) (c : Start t) → 2 * c.args.i * c.args.d.0 + c.args.d.0 ≤ length c.args.part.now
fits-first t c = room_here c.args.columns.now.sound c.args.i c.args.begun.v.own c.requires.span.0 c.requires.room

-- there is room for the rows by the edge
room : (t : ℕ) (c : Else-d-s t)
    → let k = c.args.columns.now in
    let edge = c.edge-edge.result in
    Room c.args.d.0 (c.loop-k.n + length (ways k.start k.to k.p edge.to.number.0 (c.args.d.0 - (c.follow_row-s.result.span.0 + edge.p.0)))) (length c.loop-k.part)
room t c =
    let e = c.edge-edge.ensures in
    let r = c.loop-k.invariant.some in
    rw (e.0, e.1) (going_room c.loop-k.invariant c.args.columns.now.sound c.loop-k-test.true (omega arith) c.follow_row-s.ensures c.requires.room)

-- the row of n lies in the part
fits-here : (t : ℕ) (c : Else-d-s t) → 2 * c.loop-k.n * c.args.d.0 + c.args.d.0 ≤ length c.loop-k.part
fits-here t c =
    let so = c.args.columns.now.sound in
    let r = c.loop-k.invariant.some in
    let w = edge_on so c.loop-k.invariant.turn c.loop-k-test.true in
    room_here so c.loop-k.n (omega arith) (omega arith) (room t c)

pub follow_row-s-requires : goal.follow_row-s-requires
follow_row-s-requires t c =
    let asked = c.requires.span in
    (asked.0, asked.1, asked.2, omega (arith, fits-first t (goal.at.follow_row-s-requires t c).Start))

pub loop-k-preserved-then-d-s : goal.loop-k-preserved-then-d-s
loop-k-preserved-then-d-s t c = going_skip c.loop-k.invariant c.loop-k-test.true (omega arith)

pub row_of-here-requires : goal.row_of-here-requires
row_of-here-requires t c = (omega (arith, (room t (goal.at.row_of-here-requires t c).Else-d-s).few), c.requires.span.1)

pub copy_front-requires : goal.copy_front-requires
copy_front-requires t c =
    let r = c.loop-k.invariant.some in
    let h = fits-here t (goal.at.copy_front-requires t c).Else-d-s in
    (rw (c.row_of-row.ensures, c.row_of-here.ensures) (rows_apart c.args.d.0 c.args.i c.loop-k.n _ c.loop-k.invariant.onward (omega arith)), omega arith)

pub overflow_add-here : goal.overflow_add-here
overflow_add-here t c =
    let r = c.loop-k.invariant.some in
    omega (arith, fits-here t (goal.at.overflow_add-here t c).Else-d-s, c.loop-k.invariant.size, c.follow_row-s.ensures.size, c.well_formed)

pub fill_run-requires : goal.fill_run-requires
fill_run-requires t c =
    let r = c.loop-k.invariant.some in
    omega (arith, fits-here t (goal.at.fill_run-requires t c).Else-d-s, c.copy_front.auto.part)

pub rows_from-n-requires : goal.rows_from-n-requires
rows_from-n-requires t c =
    let led = c.follow_row-s.ensures in
    let w = edge_on c.args.columns.now.sound c.loop-k.invariant.turn c.loop-k-test.true in
    let x = c.execution.ensures in
    let o = led.onward in
    let l = led.light in
    let r = led.room in
    let z = c.fill_run.auto.part ∙ c.copy_front.auto.part in (
      omega arith,
      ((omega arith, c.requires.span.1, omega arith), subst (Room _ _) (sym z) (room t (goal.at.rows_from-n-requires t c).Else-d-s)),
    )

pub loop-k-preserved : goal.loop-k-preserved
loop-k-preserved t c =
    let e = c.edge-edge.ensures in
    let row = c.row_of-row.ensures in
    let here = c.row_of-here.ensures in
    let rows = c.rows_from-n in
    let r = c.loop-k.invariant.some in
    going_on c.loop-k.invariant c.args.columns.now.sound c.loop-k-test.true (omega arith) (fits-here t (goal.at.loop-k-preserved t c).Else-d-s)
    (c.follow_row-s.result.below + c.execution.result) (omega (arith, c.execution.ensures.0)) (rw (row, here) at c.copy_front.ensures)
    (rw (here, c.from.ensures, e.1) at c.fill_run.ensures) rows.new.part rows.result (rw (e.0, e.1) at rows.ensures)

pub fill_run-requires-then-n-i : goal.fill_run-requires-then-n-i
fill_run-requires-then-n-i t c =
    let r = c.loop-k.invariant.some in
    omega (arith, fits-first t (goal.at.fill_run-requires-then-n-i t c).Start, c.loop-k.invariant.size, c.follow_row-s.ensures.size)

pub returns-then-n-i : goal.returns-then-n-i
returns-then-n-i t c =
    let led = c.follow_row-s in
    let row = c.row_of-row.ensures in
    led.ensures.put c.args.i _ _ row
    (put_alone c.loop-k.invariant c.args.columns.now.sound c.loop-k-test.false (led.result.below + c.execution.result) (omega (arith, c.execution.ensures.0))
    c.if-n-i.true (omega (arith, fits-first t (goal.at.returns-then-n-i t c).Start, led.ensures.size)) c.fill_run-then-n-i.new.part
    (rw (row, c.from-then-n-i.ensures) at c.fill_run-then-n-i.ensures))

pub returns : goal.returns
returns t c =
    c.follow_row-s.ensures.put c.args.i _ _ c.row_of-row.ensures (put_some c.loop-k.invariant c.args.columns.now.sound c.loop-k-test.false c.if-n-i.false)
