use mathlib.Core.Path.{ap}
use native.Mathlib.Omega.{arith}
use lib.ListN.{length}
use Rattle.ways.proofs.Ways.{all_ways_length, all_ways_none}
use Rattle.lister.proofs.count.count_all.Goals as goal

pub returns-then-sum-cap : goal.returns-then-sum-cap
returns-then-sum-cap c =
    let k = c.args.columns.now in
    omega (arith, all_ways_length k.start k.to k.p c.args.d.0 c.loop-v.v k.n (omega arith), c.count_from-sum.ensures)

pub loop-v-preserved : goal.loop-v-preserved
loop-v-preserved c =
    let k = c.args.columns.now in
    let y = all_ways_length k.start k.to k.p c.args.d.0 c.loop-v.v k.n (omega arith) in
    let z = c.count_from-sum.ensures in
    (omega arith, omega arith)

pub returns : goal.returns
returns c =
    let k = c.args.columns.now in
    omega (arith, ap length (all_ways_none k.start k.to k.p c.args.d.0 c.loop-v.v k.n (omega arith)))
