use native.Mathlib.Omega.{arith}
use Rattle.groups.proofs.NextGroup.{back_start, back_end, back_asks, back_asks_rest, back_found, back_more, back_none}
use Rattle.groups.proofs.Layout.next_group.Goals as goal

pub loop-j-init : goal.loop-j-init
loop-j-init c = back_start c.requires

pub overflow_add-end : goal.overflow_add-end
overflow_add-end c = omega (arith, back_end c.requires c.loop-j-test.true c.loop-j.invariant)

pub rest_length-len-requires : goal.rest_length-len-requires
rest_length-len-requires c = omega (arith, back_end c.requires c.loop-j-test.true c.loop-j.invariant)

pub part-requires : goal.part-requires
part-requires c =
    back_asks_rest c.requires c.loop-j-test.true c.loop-j.invariant c.if-end-stretch.true c.rest_length-len.result c.rest_length-len.ensures

pub returns-then-end-stretch : goal.returns-then-end-stretch
returns-then-end-stretch c =
    let r = c.rest_length-len in
    back_found c.requires c.loop-j-test.true c.loop-j.invariant r.result c.if-end-stretch.true r.ensures c.part.ensures

pub part-requires-in-loop-j : goal.part-requires-in-loop-j
part-requires-in-loop-j c = back_asks c.requires c.loop-j-test.true c.loop-j.invariant

pub loop-j-preserved : goal.loop-j-preserved
loop-j-preserved c = back_more c.requires c.loop-j-test.true c.loop-j.invariant c.if-end-stretch.false c.part-in-loop-j.ensures

pub returns : goal.returns
returns c = back_none c.requires (omega arith) c.loop-j.invariant
