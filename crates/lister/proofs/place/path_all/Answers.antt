use native.Mathlib.Omega.{arith}
use Rattle.lister.proofs.AllPlaces.{passing_on, passing_found, passing_past}
use Rattle.lister.proofs.place.path_all.Goals as goal

pub returns-in-Break : goal.returns-in-Break
returns-in-Break c =
    passing_found c.loop-v.invariant c.args.columns.now.sound c.args.columns.now.few c.requires.0 c.requires.1 (omega arith)
    c.path_from.new.cells c.path_from.result c.in-Break.len c.path_from.ensures c.in-Break.is

pub loop-v-preserved : goal.loop-v-preserved
loop-v-preserved c =
    passing_on c.loop-v.invariant (omega arith) c.path_from.new.cells c.path_from.result c.in-Continue.place c.path_from.ensures c.in-Continue.is

pub returns : goal.returns
returns c = passing_past c.loop-v.invariant (omega arith)
