-- What judging a whole table promises: the four counts, and every work cell.
use Rattle.std.specs.Prelude.{◌≡◌, ℕ, List, length, Result, Ok, Err}
use Rattle.meaning.specs.Text.{read}
use Rattle.meaning.specs.Whole as Meant
use Rattle.kinds.specs.declared.RefusedAt.{RefusedAt}
use Rattle.kinds.specs.Numbers.{refusal_number}
use Rattle.counts.specs.declared.Counts.{Counts}
use Rattle.counts.specs.Counts.{meant_counts}

-- the four counts, or the refusal's number and its line
abbrev pub answer_of : Result Counts RefusedAt → Meant.TableAnswer
answer_of (Ok c) = Meant.counted (meant_counts c)
answer_of (Err at) = Meant.uncounted (refusal_number at.refusal) at.place

-- a judging call on a text: budget b, and the work area before and after
pub record TableJudged (text : List ℕ) (b : ℕ) (work : List ℕ) (r : Result Counts RefusedAt) (work' : List ℕ) : Type 0 where
  pub verdict : answer_of r ≡ Meant.table_answer (read text) b (length work)
  pub cells : work' ≡ Meant.table_work_after (read text) b work
