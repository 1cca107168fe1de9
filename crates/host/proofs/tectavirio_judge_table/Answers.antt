use mathlib.Core.Path.{◌∙◌}
use Rattle.host.proofs.Telling.{table_told}
use Rattle.host.proofs.tectavirio_judge_table.Goals as goal

pub returns-in-Ok : goal.returns-in-Ok
returns-in-Ok c = table_told c.in-Ok.ensures (c.from.ensures ∙ c.counts_number.ensures)

pub returns-in-Err : goal.returns-in-Err
returns-in-Err c = table_told c.in-Err.ensures c.refused_number.ensures
