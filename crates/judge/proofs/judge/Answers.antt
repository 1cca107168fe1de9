use Rattle.judge.proofs.Answers.{judged_by}
use Rattle.judge.proofs.judge.Goals as goal

pub returns : goal.returns
returns c = judged_by c.judge_text-told.ensures c.from.ensures
