use Rattle.paths.proofs.Listing.{placed}
use Rattle.paths.proofs.path_at.Goals as goal

pub returns : goal.returns
returns c =
    let columns = c.columns_of.ensures in
    placed c.requires.held_task columns.says c.args.d.0 columns.all c.args.i c.path_all.result c.path_all.ensures
