use native.Mathlib.Omega.{arith}
use Rattle.rows.proofs.Order.{top_one, top_two}
use Rattle.rows.proofs.top_row.Goals as goal

pub returns-then-len-gt1 : goal.returns-then-len-gt1
returns-then-len-gt1 c = omega (arith, top_two c.args.len c.if-len-gt1.true)

pub returns : goal.returns
returns c = top_one c.args.len c.if-len-gt1.false
