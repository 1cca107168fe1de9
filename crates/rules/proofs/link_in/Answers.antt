use Rattle.rules.specs.Rules.{vertex_in, link_in}
use mathlib.Core.Path.{sym, ◌∙◌}
use Rattle.rules.proofs.link_in.Goals as goal

pub returns-then-not-vertex_in : goal.returns-then-not-vertex_in
unfolding link_in vertex_in
returns-then-not-vertex_in c = simp (sym c.vertex_in.ensures ∙ c.if-not-vertex_in.true)

pub returns : goal.returns
unfolding link_in vertex_in
returns c = simp (sym c.vertex_in.ensures ∙ c.if-not-vertex_in.false) c.separation_in.ensures
