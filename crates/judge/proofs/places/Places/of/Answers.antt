use mathlib.Core.Path.{sym, subst}
use Rattle.judge.specs.Places.{Reached}
use Rattle.judge.proofs.Remaining.{reached_first}
use Rattle.judge.proofs.places.Places.of.Goals as goal

pub invariant_of-result : goal.invariant_of-result
invariant_of-result c = subst (Reached c.args.table.now) (sym c.first.ensures) (reached_first c.args.table.now c.requires)
