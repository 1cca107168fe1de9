use Rattle.lines.proofs.LinkTurns.{to_in}
use Rattle.table.specs.Inner.{edge_cells}
use Prim.Native.Nat.{ℕ}
use mathlib.Core.Path.{ap}
use native.Mathlib.Omega.{arith}
use Rattle.lines.proofs.link_edge.Goals as goal

pub overflow_cast-second : goal.overflow_cast-second
overflow_cast-second c =
    let a = c.args in
    omega (arith, c.leads-to.ensures, to_in a.form a.n a.i c.requires.0)

pub returns : goal.returns
returns c = let a = c.args in ap (λ (to : ℕ). edge_cells a.i to a.p.0) c.leads-to.ensures
