use lib.ListN.{length}
use Rattle.paths.proofs.Listing.{room_for_all, rows_put}
use Rattle.paths.proofs.path_rows.Goals as goal

pub rows_all-requires-clause-room : goal.rows_all-requires-clause-room
rows_all-requires-clause-room c =
    let columns = c.columns_of.ensures in
    room_for_all c.requires.held_task columns.says c.args.d.0 columns.all (length c.args.part.now) c.requires.room

pub returns : goal.returns
returns c =
    let columns = c.columns_of.ensures in
    rows_put c.requires.held_task columns.says c.args.d.0 columns.all c.args.part.now c.rows_all.new.part c.rows_all.ensures.1
