use mathlib.Core.Path.{sym, ◌∙◌}
use native.Mathlib.Omega.{arith}
use Rattle.columns.proofs.EdgeStarts.{own_more, own_none, own_to}
use Rattle.columns.proofs.edges_end.Goals as goal

pub loop-i-init : goal.loop-i-init
loop-i-init c = own_none c.args.from.now c.args.v c.args.k

pub returns-then-from-v : goal.returns-then-from-v
returns-then-from-v c = record { low = omega arith; high = omega arith; own = c.loop-i.invariant; next = λ h q. c.if-from-v.true (c.from.ensures ∙ q) }

pub loop-i-preserved : goal.loop-i-preserved
loop-i-preserved c = own_more c.args.from.now c.args.v c.args.k c.loop-i.i c.loop-i.invariant (sym c.from.ensures ∙ c.if-from-v.false)

pub returns : goal.returns
returns c = record { low = omega arith; high = omega arith; own = own_to c.args.from.now c.args.v c.args.k c.loop-i.invariant (omega arith); next = λ h q. omega arith }
