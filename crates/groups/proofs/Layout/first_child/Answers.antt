use native.Mathlib.Omega.{arith}
use Rattle.groups.proofs.Arrays.{own_length}
use Rattle.groups.proofs.FirstChild.{child_asks, child_found, child_none}
use Rattle.groups.proofs.Layout.first_child.Goals as goal

pub bounds-self-j : goal.bounds-self-j
bounds-self-j c = omega (arith, own_length c.requires)

pub part-requires : goal.part-requires
part-requires c =
    let i = c.loop-j.invariant in
    rw i.0 (child_asks c.requires (omega (arith, own_length c.requires)) (rw i.0 at c.half.ensures))

pub returns-then-part-gt1 : goal.returns-then-part-gt1
returns-then-part-gt1 c =
    let i = c.loop-j.invariant in
    rw i.0
    (child_found c.requires (omega (arith, own_length c.requires)) (rw i.0 at c.half.ensures) (rw i.0 at c.if-part-gt1.true) i.1 (rw i.0 at c.part.ensures))

pub returns : goal.returns
returns c = let i = c.loop-j.invariant in rw i.0 (child_none c.requires (λ k m. i.1 k (omega arith)))
