use mathlib.Core.Path.{ap, ◌∙◌}
use native.Mathlib.Omega.{arith}
use lib.Seq.{sets, take_all}
use Rattle.ranges.proofs.LargerCells.{larger_more, pair_length, pair_larger}
use Rattle.ranges.proofs.larger_row.Goals as goal

pub loop-t-preserved : goal.loop-t-preserved
loop-t-preserved c =
    let s = c.args in
    let l = c.loop-t in
    larger_more s.part.now s.o s.a s.b s.d c.requires.0 c.requires.1 c.requires.2 l.part l.t c.max.result c.loop-t-test.true l.invariant c.max.ensures

pub returns : goal.returns
returns c =
    let s = c.args in
    let row = pair_larger s.part.now s.a s.b s.d in
    let size = pair_length s.part.now s.o s.a s.b s.d c.requires.0 c.requires.1 c.requires.2 in
    c.loop-t.invariant ∙ ap (sets s.part.now s.o) (take_all c.loop-t.t row (omega (arith, size)))
