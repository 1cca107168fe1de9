use mathlib.Core.Path.{ap₂, ◌∙◌}
use mathlib.Core.List.{List, [], ◌∷◌}
use Prim.Native.Nat.{ℕ}
use lib.ListN.{get_or}
use Rattle.put.proofs.Lines.{two_bytes}
use borrow.Author.Rules.{rules}
use Rattle.put.proofs.parts.VertexPart.frame.Goals as goal

pub returns : goal.returns
returns c =
    let x = c.args.self in
    ap₂ (λ (e d : List ℕ). 2 ∷ get_or e 0 0 ∷ get_or e 1 0 ∷ get_or d 0 0 ∷ get_or d 1 0 ∷ [])
    (c.to_be_bytes.ensures ∙ two_bytes x.e.0 (search rules)) (c.to_be_bytes-2.ensures ∙ two_bytes x.d.0 (search rules))
