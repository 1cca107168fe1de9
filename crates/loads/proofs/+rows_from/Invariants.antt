use Prim.Native.Nat.{◌-◌}
use Rattle.loads.proofs.PutRows.{Going}
use Rattle.loads.proofs.+rows_from.Given as goal

abbrev pub decreases-rows_from : goal.decreases-rows_from
decreases-rows_from l = l.d.0 - l.begun.span.0

abbrev pub invariant-loop-k : goal.invariant-loop-k
invariant-loop-k l =
    let k = l.columns in
    let s = l.s in
    Going k.e k.start k.to k.p l.d.0 s.v.number.0 s.span.0 s.below l.i l.k-end l.initial.part l.part l.k l.n
