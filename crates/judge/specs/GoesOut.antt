-- "The rule between them: [..] a yes means that no such paths exist", said of a whole table. `proofs/GoesOut` proves it.
use Rattle.std.specs.Prelude.{◌≡◌, ℕ, ◌↔◌, T, Result, Ok, Err}
use mathlib.Core.List.{List, Memᴰ}
use Rattle.meaning.specs.Table.{Table}
use Rattle.meaning.specs.Text.{readable, read}
use Rattle.meaning.specs.Verdict.{meets}
use Rattle.meaning.specs.Whole.{Place, places, verdict_at, table_answer}
use Rattle.meaning.specs.Demands.{Overloadable}
use Rattle.kinds.specs.declared.RefusedAt.{RefusedAt}
use Rattle.counts.specs.declared.Counts.{Counts}
use Rattle.counts.specs.Counts.{meant_counts}
use Rattle.counts.specs.GoesOut.{goes_out}
use Rattle.judge.specs.Whole.{answer_of}

-- an answer with which the table goes out
abbrev pub SaysYes : Result Counts RefusedAt → Type 0
SaysYes (Ok c) = T (goes_out (meant_counts c))
SaysYes (Err at) = ⊥

-- of no vertex there are legal paths of the higher tasks that make it late
abbrev pub NoneLate : Table → Type 0
NoneLate ts = (q : Place) → Memᴰ q (places ts) → Overloadable ts q.task q.vertex → ⊥

-- every vertex is judged to meet, with budget b and n work cells
abbrev pub AllMeet : Table → ℕ → ℕ → Type 0
AllMeet ts b n = (q : Place) → Memᴰ q (places ts) → (c : ℕ) × (verdict_at ts b n q ≡ meets c)

-- For every text, budget, number of work cells, and right answer, `judge_table`'s or the one that the words for people end with: a yes is given exactly
-- if every vertex is judged to meet, and then none can be late.
pub record GoesOut : Type 0 where
  pub exactly : (text : List ℕ) (b n : ℕ) (r : Result Counts RefusedAt) → answer_of r ≡ table_answer (read text) b n
      → (ts : Table) → read text ≡ readable ts → SaysYes r ↔ AllMeet ts b n
  pub none_late : (text : List ℕ) (b n : ℕ) (r : Result Counts RefusedAt) → answer_of r ≡ table_answer (read text) b n → SaysYes r
      → (ts : Table) × (read text ≡ readable ts) × NoneLate ts
