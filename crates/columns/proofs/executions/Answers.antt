use Prim.Native.Nat.{◌<◌}
use mathlib.Core.Path.{sym, ap, ◌∙◌}
use mathlib.Core.List.{map}
use native.Mathlib.Omega.{arith}
use lib.ListN.{length, replicate, length-map, get_or-map}
use lib.Seq.{sets, take_all}
use Rattle.table.specs.Record.{no_vertex}
use Rattle.meaning.specs.Bounds.{most_vertices}
use Rattle.columns.specs.Columns.{execution_in}
use Rattle.meaning.proofs.Stores.{col_more}
use Rattle.columns.proofs.executions.Goals as goal

pub loop-v-preserved : goal.loop-v-preserved
loop-v-preserved c =
    let l = c.loop-v in
    let vs = c.args.vertices.now in
    let h : l.v < length (map execution_in vs) = omega (arith, length-map vs execution_in) in
    col_more (replicate most_vertices 0) l.e (map execution_in vs) l.v _ h l.invariant (sym (get_or-map execution_in vs l.v no_vertex))

pub returns : goal.returns
returns c =
    let l = c.loop-v in
    let es = map execution_in c.args.vertices.now in
    l.invariant ∙ ap (sets (replicate most_vertices 0) 0) (take_all l.v es (omega (arith, length-map c.args.vertices.now execution_in)))
