use mathlib.Core.Path.{ap, ◌∙◌}
use lib.ListN.{get_or}
use Rattle.kinds.specs.declared.Verdict.{Verdict}
use Rattle.kinds.specs.Numbers.{verdict_numbers}
use Rattle.kinds.proofs.Numbers.{verdict_number, verdict_value}
use Rattle.host.proofs.Wide.{wide_latest}
use Rattle.host.proofs.tectavirio_latest.Goals as goal

pub returns : goal.returns
returns c =
    let s = c.args in
    record {
      late = c.latest-late.result;
      judged =
          wide_latest s.text.now s.task s.vertex s.budget c.narrow.ensures c.narrow-2.ensures c.latest-late.ensures;
      number_is = c.number.ensures
          ∙ ap (λ (r : Verdict). get_or (verdict_numbers r) 0 0) c.from-said.ensures ∙ verdict_number c.latest-late.result;
      value_is = c.value.ensures
          ∙ ap (λ (r : Verdict). get_or (verdict_numbers r) 1 0) c.from-said.ensures ∙ verdict_value c.latest-late.result;
      place_is = c.place.ensures;
      finish_is = c.from.ensures ∙ c.finish.ensures;
    }
