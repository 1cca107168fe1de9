use mathlib.Core.Path.{refl}
use borrow.Author.Rules.{rules}
use Rattle.put.proofs.Lines.{wrote_byte}
use Rattle.put.proofs.Pen.byte.Goals as goal

pub returns : goal.returns
returns c =
    let s = c.args in
    let wrote = wrote_byte s.order.now s.self.now.out.now s.self.now.at s.b c.requires.0 (search rules) in
    record { same_area = refl; wrote = rw c.from.ensures (rw c.from-2.ensures wrote) }
