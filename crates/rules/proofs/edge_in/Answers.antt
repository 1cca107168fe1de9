use Rattle.rules.specs.Rules.{edge_in}
use borrow.Author.Tests.{lt-ltb, le-ltb}
use Rattle.rules.proofs.edge_in.Goals as goal

pub returns-then-n-from : goal.returns-then-n-from
unfolding edge_in
returns-then-n-from c = simp (le-ltb _ _ c.if-n-from.true)

pub returns-then-n-to : goal.returns-then-n-to
unfolding edge_in
returns-then-n-to c = simp (lt-ltb _ _ c.if-n-from.false, le-ltb _ _ c.if-n-to.true)

pub returns : goal.returns
unfolding edge_in
returns c = simp (lt-ltb _ _ c.if-n-from.false, lt-ltb _ _ c.if-n-to.false) c.separation_in.ensures
