use mathlib.Core.Path.{ap₂, ◌∙◌}
use Prim.Native.Nat.{ℕ, ◌*◌}
use mathlib.Core.List.{List}
use lib.ListN.{take}
use Rattle.walk.specs.Steps.{run_rows}
use Rattle.search.proofs.Lending.{front_roots, front_counts, front_walkable}
use Rattle.search.proofs.search.Goals as goal

pub invariant_of-rows : goal.invariant_of-rows
invariant_of-rows c = record { walkable = rw (c.from-ticks.ensures, c.from.ensures) (front_walkable c.args.above.now.stretches c.requires.walkable) }

pub returns-clause-value : goal.returns-clause-value
returns-clause-value c =
    let a = c.args in
    let ss = a.above.now.stretches in
    let w = c.requires.walkable in
    rw (c.from-ticks.ensures, c.from.ensures, c.from-2.ensures) at c.run-walked.ensures
    ∙ ap₂ (λ (rs ns : List ℕ). run_rows (take (a.above.now.rows * a.d.0) a.work.now) a.d.0 a.e.0 rs ns a.bar.0 a.budget) (front_roots ss w) (front_counts ss w)
