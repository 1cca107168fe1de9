use Rattle.lines.proofs.LinkTurns.{to_itself, to_next, to_first}
use Rattle.lines.proofs.leads.Goals as goal

pub returns-in_default : goal.returns-in_default
returns-in_default c = let a = c.args in to_itself a.form a.n a.i c.in_default.not-Ring

pub returns-then-next-n : goal.returns-then-next-n
returns-then-next-n c = to_next _ _ c.in-Ring.is c.if-next-n.true

pub returns : goal.returns
returns c = to_first _ _ c.in-Ring.is c.if-next-n.false
