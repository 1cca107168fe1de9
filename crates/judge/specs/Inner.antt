-- What the inner functions promise each other; no promise of `judge`, `latest`, `judge_table` or `desk_output` rests on it.
use Rattle.std.specs.Prelude.{◌≡◌, ℕ, ◌≤◌, ◌<◌, List, length, get_or}
use Rattle.meaning.specs.Lists.{gather}
use Rattle.meaning.specs.Bounds.{most_paths}
use Rattle.meaning.specs.Table.{Task, Table}
use Rattle.meaning.specs.Text.{line, read, tasks_of}
use Rattle.meaning.specs.Paths.{Path}
use Rattle.meaning.specs.Verdict as Said
use Rattle.meaning.specs.Verdict.{numbers, Asked, plain, latest, deadline, worst_at, meets_paths}
use Rattle.meaning.specs.Areas.{zeroed, work_need, work_after, witness_after}
use Rattle.meaning.specs.Judge.{judged, answer}
use Rattle.meaning.specs.Whole as Meant
use Rattle.meaning.specs.Desk.{table_frames}
use Rattle.kinds.specs.declared.Verdict.{Verdict}
use Rattle.kinds.specs.Numbers.{verdict_numbers}
use Rattle.kinds.specs.declared.Lateness.{Lateness}
use Rattle.counts.specs.declared.Counts.{Counts}
use Rattle.counts.specs.Counts.{meant_counts}
use Rattle.areas.specs.declared.above.Above.{Above}
use Rattle.areas.specs.Above.{path_counts, above_of}
use Rattle.judge.specs.Judged.{AnsweredBy}
use Rattle.judge.specs.Places.{size}

-- a vertex of the table
pub record There (ts : Table) (q : Meant.Place) : Type 0 where
  pub task : q.task < length ts
  pub vertex : q.vertex < size ts q.task

-- ---- the tasks of higher priority, for a horizon of d ticks

-- their paths are counted, and none has too many
pub record AllCounted (ks : List Task) (d : ℕ) (a : Above) : Type 0 where
  pub above : a ≡ above_of d (path_counts ks d)
  pub few : (n : ℕ) → n < length ks → get_or (path_counts ks d) n 0 ≤ most_paths

-- task j has too many, and none before it
pub record Crowded (ks : List Task) (d j : ℕ) : Type 0 where
  pub there : j < length ks
  pub many : most_paths < get_or (path_counts ks d) j 0
  pub few : (n : ℕ) → n < j → get_or (path_counts ks d) n 0 ≤ most_paths

-- ---- a readable table

-- where the bar is behind the last group
abbrev pub last_tick : Asked → Table → ℕ → ℕ → ℕ
last_tick plain ts i v = deadline ts i v
last_tick latest ts i v = worst_at ts i v

-- the verdict x of a vertex, where `need` work cells are needed and a meets writes the paths us
pub record Answered (x : Said.Verdict) (us : List Path) (need : ℕ) (work wit : List ℕ) (r : Verdict) (work' wit' : List ℕ) : Type 0 where
  pub verdict : verdict_numbers r ≡ numbers x
  pub cells : work' ≡ work_after x need work
  pub paths : wit' ≡ witness_after us x wit

-- of vertex v of task i
abbrev pub VertexJudged : Asked → Table → ℕ → ℕ → ℕ → List ℕ → List ℕ → Lateness → List ℕ → List ℕ → Type 0
VertexJudged asked ts i v b work wit r work' wit' =
    AnsweredBy (judged asked ts i v b (length work) (length wit)) (last_tick asked ts i v) (meets_paths asked ts i v) (work_need ts i v) work wit r work' wit'

-- of a text
abbrev pub TextJudged : Asked → List ℕ → ℕ → ℕ → ℕ → List ℕ → List ℕ → Lateness → List ℕ → List ℕ → Type 0
TextJudged asked text i v b work wit r work' wit' =
    AnsweredBy (answer asked text i v b (length work) (length wit)) (last_tick asked (tasks_of (read text)) i v) (meets_paths asked (tasks_of (read text)) i v)
    (work_need (tasks_of (read text)) i v) work wit r work' wit'

-- the four counts, and every work cell
pub record TableCounted (ts : Table) (b : ℕ) (work : List ℕ) (r : Counts) (work' : List ℕ) : Type 0 where
  pub counts : meant_counts r ≡ Meant.counts_of (Meant.verdicts ts b (length work))
  pub cells : work' ≡ zeroed (Meant.table_need ts b (length work)) work

-- the desk's output
unfoldable pub table_output : Table → List ℕ
table_output ts = gather line (table_frames ts)
