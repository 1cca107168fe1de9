use native.Mathlib.Omega.{arith}
use Rattle.judge.proofs.SoFar.{so_far_few}
use Rattle.telling.proofs.Saying.{saying_cells, saying_more}
use Rattle.telling.proofs.tables.say_vertices.Goals as goal

pub bounds-table-from : goal.bounds-table-from
bounds-table-from c = omega (arith, (saying_cells c.loop-at.invariant.2 c.in-Some.ensures.steps).0, c.from.ensures)

pub bounds-table-from-in-Some : goal.bounds-table-from-in-Some
bounds-table-from-in-Some c = omega (arith, (saying_cells c.loop-at.invariant.2 c.in-Some.ensures.steps).1, c.from-in-loop-at.ensures)

pub counted-counts-requires : goal.counted-counts-requires
counted-counts-requires c = so_far_few c.loop-at.invariant.2.so_far c.in-Some.ensures.steps

pub loop-at-preserved : goal.loop-at-preserved
loop-at-preserved c = (
  tt,
  tt,
  saying_more c.loop-at.invariant.2 c.in-Some.ensures.steps c.say_vertex.result c.say_vertex.ensures c.counted-counts.ensures,
)
