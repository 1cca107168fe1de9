use borrow.Author.Tests.{eq-eqb, ne_eqb}
use Rattle.frames.specs.Frames.{task_bytes}
use Rattle.frames.proofs.task_bytes.Goals as goal

pub returns-then-m-eq0 : goal.returns-then-m-eq0
unfolding task_bytes
returns-then-m-eq0 c = rw (eq-eqb _ _ c.if-m-eq0.true)

pub returns : goal.returns
unfolding task_bytes
returns c = rw (ne_eqb _ _ c.if-m-eq0.false)
