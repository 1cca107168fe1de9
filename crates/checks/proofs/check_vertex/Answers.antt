use mathlib.Core.Path.{sym, ap, ap₂, ◌∙◌}
use Rattle.std.specs.Prelude.{Err}
use Rattle.rules.specs.Rules.{vertex_in, job_in_time}
use Rattle.checks.proofs.Parts.{vertex-outside, vertex_slip, vertex-kept}
use Rattle.checks.proofs.check_vertex.Goals as goal

pub returns-then-not-vertex_in : goal.returns-then-not-vertex_in
returns-then-not-vertex_in c =
    let a = c.args in
    let i = c.vertex_in.ensures ∙ ap₂ vertex_in c.from-e.ensures c.from-d.ensures in
    vertex-outside a.x a.line (sym i ∙ c.if-not-vertex_in.true) (ap Err c.at_line.ensures)

pub returns-then-not-job_in_time : goal.returns-then-not-job_in_time
returns-then-not-job_in_time c =
    let a = c.args in
    let i = c.vertex_in.ensures ∙ ap₂ vertex_in c.from-e.ensures c.from-d.ensures in
    let j = c.job_in_time.ensures ∙ ap₂ job_in_time c.from-e.ensures c.from-d.ensures in
    vertex_slip a.x a.line (sym i ∙ c.if-not-vertex_in.false) (sym j ∙ c.if-not-job_in_time.true) (ap Err c.at_line-then-not-job_in_time.ensures)

pub returns : goal.returns
returns c =
    let a = c.args in
    let i = c.vertex_in.ensures ∙ ap₂ vertex_in c.from-e.ensures c.from-d.ensures in
    let j = c.job_in_time.ensures ∙ ap₂ job_in_time c.from-e.ensures c.from-d.ensures in
    vertex-kept a.x a.line (sym i ∙ c.if-not-vertex_in.false) (sym j ∙ c.if-not-job_in_time.false)
