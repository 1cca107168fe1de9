use native.Mathlib.Omega.{arith}
use Rattle.host.proofs.Telling.{write_told}
use Rattle.host.proofs.tectavirio_write.Goals as goal

pub returns-in-Ok : goal.returns-in-Ok
returns-in-Ok c = write_told c.in-Ok.ensures (omega arith)

pub returns-in-Err : goal.returns-in-Err
returns-in-Err c = write_told c.in-Err.ensures c.refused_number.ensures
