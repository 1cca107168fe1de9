use borrow.Author.Tests.{le-leb, lt-leb}
use Rattle.rules.proofs.separation_in.Goals as goal

pub returns-then-p-lt1 : goal.returns-then-p-lt1
returns-then-p-lt1 c = simp (lt-leb _ _ c.if-p-lt1.true)

pub returns : goal.returns
returns c = simp (le-leb _ _ c.if-p-lt1.false)
