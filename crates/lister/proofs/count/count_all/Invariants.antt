use Prim.Native.Nat.{◌+◌, ◌<◌}
use mathlib.Core.Path.{◌≡◌}
use lib.ListN.{length}
use Rattle.ways.specs.Ways.{all_ways}
use Rattle.lister.proofs.count.count_all.Given as goal

abbrev pub invariant-loop-v : goal.invariant-loop-v
invariant-loop-v l =
    let k = l.columns in
    (l.sum < l.cap) × (l.sum + length (all_ways k.start k.to k.p l.d.0 l.v k.n) ≡ length (all_ways k.start k.to k.p l.d.0 0 k.n))
