use Rattle.std.proofs.lemmas.Bool.{eqb-true, eqb-false}
use mathlib.Core.Path.{sym, subst}
use native.Mathlib.Omega.{arith}
use Prim.Native.Nat.{ℕ, ◌+◌, ◌-◌}
use Rattle.groups.specs.Lent.{starts_in}
use Rattle.groups.proofs.Arrays.{starts_many}
use Rattle.overload.proofs.Ticks.{Summed, summed_none, summed_more, summed_behind, summed_all, row_within, cell_within, cell_light}
use Rattle.overload.proofs.loads_at.Goals as goal
use Rattle.overload.proofs.loads_at.Goals.{then-j-group, else-j-group}

pub loop-j-init : goal.loop-j-init
loop-j-init c = summed_none

pub slice_bounds-cells-count : goal.slice_bounds-cells-count
slice_bounds-cells-count c =
    let some = eqb-false _ 0 (sym c.if-is_empty.ensures) in
    omega (arith, row_within _ c.requires.2 0 (c.args.tick - 1) (omega (arith, some)) (omega arith))

pub bounds-cells-group : goal.bounds-cells-group
bounds-cells-group c = cell_within _ c.requires.2 c.loop-j.j (c.args.tick - 1) c.if-j-group.true (omega arith)

pub overflow_add-total : goal.overflow_add-total
overflow_add-total c =
    let rows = c.requires.2 in
    let light = cell_light _ rows c.loop-j.j (c.args.tick - 1) c.if-j-group.true (omega arith) in
    omega (arith, light, starts_many c.args.group.now, rows.few)

pub loop-j-preserved : goal.loop-j-preserved
loop-j-preserved c =
    let s = c.args in
    let to = λ (n : ℕ). Summed s.work.now (starts_in s.group.now) (s.tick - 1) (c.loop-j.j + 1) n in
    elim c.if-j-group.branch [
      | then-j-group w ↦
          subst to (sym w.total-is) (summed_more _ c.requires.2 c.loop-j.j (s.tick - 1) w.if-j-group.true (omega arith) c.loop-j.invariant)
      | else-j-group w ↦ subst to (sym w.total-is) (summed_behind c.loop-j.invariant (omega (arith, w.if-j-group.false, starts_many s.group.now)))
    ]

pub returns : goal.returns
returns c =
    let many = starts_many c.args.group.now in
    let few = c.requires.2.few in
    (summed_all c.loop-j.invariant (omega (arith, many)), omega (arith, many, few))

pub returns-then-is_empty : goal.returns-then-is_empty
returns-then-is_empty c =
    let none = eqb-true _ 0 (sym c.if-is_empty.ensures) in
    (summed_all summed_none (omega (arith, none, starts_many c.args.group.now)), omega arith)

pub offset_bounds-cells-group : goal.offset_bounds-cells-group
offset_bounds-cells-group c = omega (arith, row_within _ c.requires.2 c.loop-j.j (c.args.tick - 1) c.if-j-group.true (omega arith))
