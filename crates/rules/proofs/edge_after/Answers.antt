use mathlib.Core.Path.{ap}
use lib.Dec.{leb}
use Rattle.rules.proofs.edge_after.Goals as goal

pub returns : goal.returns
returns c = ap (leb c.args.least) c.edge_place.ensures
