use Rattle.paths.proofs.Listing.{counted}
use Rattle.paths.proofs.path_count.Goals as goal

pub returns : goal.returns
returns c =
    let columns = c.columns_of-columns.ensures in
    counted c.requires.held_task columns.says c.args.d.0 columns.all c.args.cap c.count_all.result c.count_all.ensures
