use mathlib.Core.List.{[], ◌∷◌}
use native.Mathlib.Omega.{arith}
use Rattle.meaning.specs.Lists.{gather}
use Rattle.meaning.specs.Text.{digits, line_feed}
use Rattle.meaning.proofs.TextSize.{digits-length}
use Rattle.put.proofs.Pens.{penned_then, penned_length, penned_end}
use Rattle.put.proofs.Pen.line.Goals as goal

pub line_feed-requires : goal.line_feed-requires
line_feed-requires c =
    let w = c.bytes.ensures in
    omega (arith, digits-length c.args.frame.now, penned_end w, penned_length w)

pub returns : goal.returns
returns c = penned_then (gather digits c.args.frame.now) (line_feed ∷ []) c.bytes.ensures c.line_feed.ensures
