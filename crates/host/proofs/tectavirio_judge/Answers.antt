use Rattle.meaning.specs.Verdict.{plain}
use Rattle.host.proofs.Wide.{wide_judged}
use Rattle.host.proofs.tectavirio_judge.Goals as goal

pub returns : goal.returns
returns c =
    let s = c.args in
    record {
      verdict = c.judge-verdict.result;
      judged =
          wide_judged plain s.text.now s.task s.vertex s.budget c.narrow.ensures c.narrow-2.ensures c.judge-verdict.ensures;
      number_is = c.number.ensures;
      value_is = c.value.ensures;
      place_is = c.place.ensures;
    }
