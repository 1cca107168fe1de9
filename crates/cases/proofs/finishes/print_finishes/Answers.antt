use borrow.Author.Rules.{rules}
use Rattle.cases.proofs.Asking.{asking_none, asking_few, asking_more}
use Rattle.cases.proofs.finishes.print_finishes.Goals as goal

pub loop-at-init : goal.loop-at-init
loop-at-init c = (tt, tt, asking_none c.requires c.none-counts.ensures (search rules))

pub counted-counts-requires : goal.counted-counts-requires
counted-counts-requires c = asking_few c.loop-at.invariant.2 c.in-Some.ensures.steps

pub loop-at-preserved : goal.loop-at-preserved
loop-at-preserved c = (tt, tt, asking_more c.loop-at.invariant.2 c.in-Some.ensures.steps c.from.result c.counted-counts.ensures)
