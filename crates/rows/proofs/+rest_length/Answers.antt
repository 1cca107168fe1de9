use native.Mathlib.Omega.{arith}
use mathlib.Core.Path.{◌∙◌}
use Rattle.rows.proofs.Halving.{rest_middle, rest_low, rest_high}
use Rattle.rows.proofs.+rest_length.Goals as goal

pub returns-then-s-m : goal.returns-then-s-m
returns-then-s-m t c =
    let h = c.half-c in
    let a = c.args in
    rest_middle a.first a.n a.s h.result (omega arith) (omega arith) h.ensures c.if-s-m.true

pub returns-then-s-m-2 : goal.returns-then-s-m-2
returns-then-s-m-2 t c =
    let h = c.half-c in
    let a = c.args in
    c.rest_length.ensures ∙ rest_low a.first a.n a.s h.result (omega arith) (omega arith) h.ensures (omega arith)

pub returns-else-s-m-2 : goal.returns-else-s-m-2
returns-else-s-m-2 t c =
    let h = c.half-c in
    let a = c.args in
    c.rest_length-else-s-m-2.ensures ∙ rest_high a.first a.n a.s h.result (omega arith) (omega arith) h.ensures (omega arith)
