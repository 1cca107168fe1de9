use native.Mathlib.Omega.{arith}
use Rattle.columns.proofs.EdgeStarts.{cutting_more, cutting_none}
use Rattle.columns.proofs.edge_starts.Goals as goal

pub loop-v-init : goal.loop-v-init
loop-v-init c = cutting_none c.args.from.now c.args.m

pub edges_end-k-requires : goal.edges_end-k-requires
edges_end-k-requires c =
    let l = c.loop-v in
    (omega (arith, (l.invariant.cuts l.v (omega arith)).high, l.invariant.last), c.requires.0)

pub overflow_cast-s : goal.overflow_cast-s
overflow_cast-s c = omega (arith, c.edges_end-k.ensures.high)

pub loop-v-preserved : goal.loop-v-preserved
loop-v-preserved c =
    let l = c.loop-v in
    cutting_more c.args.from.now c.args.m l.s l.k l.v c.edges_end-k.result
    c.requires.1 l.invariant c.loop-v-test.true c.edges_end-k.ensures

pub returns : goal.returns
returns c = λ u h. c.loop-v.invariant.cuts u (omega arith)
