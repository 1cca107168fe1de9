use Prim.Native.Nat.{◌-◌}
use mathlib.Core.Path.{◌≡◌, ap, ◌∙◌}
use native.Mathlib.Omega.{arith}
use lib.ListN.{replicate}
use lib.Seq.{sets}
use Rattle.meaning.proofs.Stores.{run_more}
use Rattle.loads.proofs.runs.fill_run.Goals as goal

pub loop-cell-init : goal.loop-cell-init
loop-cell-init c = let z : 0 ≡ c.args.at - c.args.at = omega arith in ap (λ n. sets c.args.part.now c.args.at (replicate n c.args.x)) z

pub loop-cell-preserved : goal.loop-cell-preserved
loop-cell-preserved c =
    let s = c.args in
    let l = c.loop-cell in
    run_more s.part.now l.part s.at l.cell s.x (omega arith) l.invariant

pub returns : goal.returns
returns c =
    let s = c.args in
    let z : c.loop-cell.cell - s.at ≡ s.n.0 = omega arith in
    c.loop-cell.invariant ∙ ap (λ n. sets s.part.now s.at (replicate n s.x)) z
