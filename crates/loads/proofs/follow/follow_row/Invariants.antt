use Prim.Native.Nat.{◌-◌}
use Rattle.loads.specs.Follow.{FollowedRow}
use Rattle.loads.proofs.follow.follow_row.Given as goal

abbrev pub invariant-loop-edge : goal.invariant-loop-edge
invariant-loop-edge l =
    let k = l.columns in
    FollowedRow k.e k.start k.to k.p l.d.0 l.initial.v.number.0 l.initial.span.0 l.initial.below l.row l.initial.part l.v.number.0 l.span.0 l.below l.part

abbrev pub decreases-loop-edge : goal.decreases-loop-edge
decreases-loop-edge l = l.d.0 - l.span.0
