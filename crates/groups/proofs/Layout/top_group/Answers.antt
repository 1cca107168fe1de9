use native.Mathlib.Omega.{arith}
use Rattle.groups.proofs.TopGroup.{top_asks, top_all}
use Rattle.groups.proofs.Layout.top_group.Goals as goal

pub part-requires : goal.part-requires
part-requires c = top_asks _ c.requires.0 c.loop-j.j (omega arith)

pub returns : goal.returns
returns c = top_all (omega arith) (λ k l. c.loop-j.invariant k (omega arith))
