use Rattle.reader.proofs.Result.{line_refused}
use native.Mathlib.Omega.{arith}
use Rattle.reader.proofs.text_check.Goals as goal

pub overflow_add-result : goal.overflow_add-result
overflow_add-result c =
    omega (arith, (line_refused c.args.text.now c.read.result c.read.ensures c.in-Err.is).bounds.2, c.from.ensures, c.number.ensures)
