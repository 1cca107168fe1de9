-- What a judging promises: the verdict's numbers, and every cell of both areas; and where it is asked for, how late the latest is.
use Rattle.std.specs.Prelude.{◌≡◌, ℕ, List, length}
use Rattle.meaning.specs.Text.{read, tasks_of}
use Rattle.meaning.specs.Paths.{Path}
use Rattle.meaning.specs.Verdict as Said
use Rattle.meaning.specs.Verdict.{numbers, late_numbers, Asked, plain, latest, worst_at, latest_paths, meets_paths}
use Rattle.meaning.specs.Areas.{work_need, work_after, witness_after}
use Rattle.meaning.specs.Judge.{answer}
use Rattle.kinds.specs.declared.Verdict.{Verdict}
use Rattle.kinds.specs.declared.Lateness.{Lateness}
use Rattle.kinds.specs.Numbers.{verdict_numbers, lateness_numbers}

-- a judging call on a text, by what is asked: task i, vertex v, budget b, and the areas before and after
pub record JudgedBy (asked : Asked) (text : List ℕ) (i v b : ℕ) (work wit : List ℕ) (r : Verdict) (work' wit' : List ℕ) : Type 0 where
  pub verdict : verdict_numbers r ≡ numbers (answer asked text i v b (length work) (length wit))
  pub cells : work' ≡ work_after (answer asked text i v b (length work) (length wit)) (work_need (tasks_of (read text)) i v) work
  pub paths : wit' ≡ witness_after (meets_paths asked (tasks_of (read text)) i v) (answer asked text i v b (length work) (length wit)) wit

abbrev pub Judged : List ℕ → ℕ → ℕ → ℕ → List ℕ → List ℕ → Verdict → List ℕ → List ℕ → Type 0
Judged text i v b work wit r work' wit' = JudgedBy plain text i v b work wit r work' wit'

-- the verdict x as an answer to "how late is the latest?", a meets with the finish t and the paths us, and every cell of both areas
pub record AnsweredBy (x : Said.Verdict) (t : ℕ) (us : List Path) (need : ℕ) (work wit : List ℕ) (r : Lateness) (work' wit' : List ℕ) : Type 0 where
  pub answer_is : lateness_numbers r ≡ late_numbers t us x
  pub cells : work' ≡ work_after x need work
  pub paths : wit' ≡ witness_after us x wit

-- a call of `latest` on a text
abbrev pub LatestJudged : List ℕ → ℕ → ℕ → ℕ → List ℕ → List ℕ → Lateness → List ℕ → List ℕ → Type 0
LatestJudged text i v b work wit r work' wit' =
    AnsweredBy (answer latest text i v b (length work) (length wit)) (worst_at (tasks_of (read text)) i v) (latest_paths (tasks_of (read text)) i v)
    (work_need (tasks_of (read text)) i v) work wit r work' wit'
