use mathlib.Core.Path.{sym, ap, ◌∙◌}
use lib.ListN.{length}
use borrow.Author.Rules.{rules}
use Rattle.judge.proofs.Remaining.{reached_within, reached_turn, reached_next}
use Rattle.judge.proofs.places.PlacesIterator.next.Goals as goal

pub next-self-inside-requires : goal.next-self-inside-requires
next-self-inside-requires c = reached_within c.self.invariant c.if-self-task.false

pub invariant_of-self : goal.invariant_of-self
invariant_of-self c = reached_next c.self.invariant c.if-self-task.false c.next-self-inside.ensures

pub returns-clause-steps : goal.returns-clause-steps
returns-clause-steps c = sym c.self.view_is ∙ reached_turn c.self.invariant c.if-self-task.false c.next-self-inside.ensures

pub returns-clause-goes : goal.returns-clause-goes
returns-clause-goes c =
    let fewer = ap length (sym c.self.view_is ∙ reached_turn c.self.invariant c.if-self-task.false c.next-self-inside.ensures) in
    search rules
