use Rattle.cells.proofs.Alike.{cells_written}
use Rattle.cells.proofs.write_cells.Goals as goal

pub returns : goal.returns
returns c = cells_written c.args.cells.now c.table_from-t.ensures c.write.ensures
