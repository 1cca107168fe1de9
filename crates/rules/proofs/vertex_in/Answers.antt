use Rattle.rules.specs.Rules.{vertex_in}
use borrow.Author.Tests.{le-leb, lt-leb}
use Rattle.rules.proofs.vertex_in.Goals as goal

pub returns-then-e-lt1 : goal.returns-then-e-lt1
unfolding vertex_in
returns-then-e-lt1 c = simp (lt-leb _ _ c.if-e-lt1.true)

pub returns-then-e-gt-LARGEST_E : goal.returns-then-e-gt-LARGEST_E
unfolding vertex_in
returns-then-e-gt-LARGEST_E c = simp (le-leb _ _ c.if-e-lt1.false, lt-leb _ _ c.if-e-gt-LARGEST_E.true)

pub returns-then-d-lt1 : goal.returns-then-d-lt1
unfolding vertex_in
returns-then-d-lt1 c = simp (le-leb _ _ c.if-e-lt1.false, le-leb _ _ c.if-e-gt-LARGEST_E.false, lt-leb _ _ c.if-d-lt1.true)

pub returns : goal.returns
unfolding vertex_in
returns c = simp (le-leb _ _ c.if-e-lt1.false, le-leb _ _ c.if-e-gt-LARGEST_E.false, le-leb _ _ c.if-d-lt1.false)
