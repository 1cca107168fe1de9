use mathlib.Core.Path.{ap, ap₂, ◌∙◌}
use Prim.Native.Nat.{ℕ}
use mathlib.Core.List.{List, ◌∷◌}
use Rattle.meaning.specs.Text.{line}
use Rattle.meaning.specs.Desk.{four}
use Rattle.put.proofs.Pens.{penned_as}
use Rattle.desk_frames.proofs.VertexLines.{four_bytes}
use Rattle.desk_frames.proofs.verdict_line.Goals as goal

pub returns : goal.returns
returns c =
    let s = c.args in
    let written = rw c.to_be_bytes.ensures at c.line.ensures in
    penned_as
    (ap₂ (λ (kind : ℕ) (value : List ℕ). line (16 ∷ s.task.0 ∷ s.vertex.0 ∷ kind ∷ value)) c.number-kind.ensures
    (four_bytes c.value.result ∙ ap four c.value.ensures))
    written
