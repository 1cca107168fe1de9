-- Judging a whole table.
use Rattle.std.specs.Prelude.{ℕ, suc, List, [], ◌∷◌, ◌++◌, map, length, eqb}
use Rattle.meaning.specs.Lists.{those, below, largest}
use Rattle.meaning.specs.Table.{Task, Table}
use Rattle.meaning.specs.Text.{Reading, readable, unreadable}
use Rattle.meaning.specs.Verdict.{Verdict, kind_of, plain}
use Rattle.meaning.specs.Areas.{work_need, witness_need, zeroed, need_unless}
use Rattle.meaning.specs.Judge.{judged}

-- ---- the vertices of a table, in rising order of task and then vertex

pub record Place : Type 0 where
  pub task : ℕ
  pub vertex : ℕ

abbrev pub places_from : ℕ → List Task → List Place
places_from i [] = []
places_from i (k ∷ ks) = map (λ (v : ℕ). record { task = i; vertex = v }) (below (length k.vertices)) ++ places_from (suc i) ks

abbrev pub places : Table → List Place
places ts = places_from 0 ts

-- ---- one budget, given afresh to each vertex

-- "It takes no witness area": each vertex is judged as with one that is long enough, so of the sheet only 9 and 10 are left
abbrev pub verdict_at : Table → ℕ → ℕ → Place → Verdict
verdict_at ts b work q = judged plain ts q.task q.vertex b work (witness_need ts q.task q.vertex)

abbrev pub verdicts : Table → ℕ → ℕ → List Verdict
verdicts ts b work = map (verdict_at ts b work) (places ts)

-- ---- how many meet, miss, are unfinished and are refused

-- so many are of this kind
abbrev pub of_kind : ℕ → List Verdict → ℕ
of_kind n xs = length (those (λ (x : Verdict). eqb (kind_of x) n) xs)

pub record Counts : Type 0 where
  pub meeting : ℕ
  pub missing : ℕ
  pub unfinishing : ℕ
  pub refusing : ℕ

abbrev pub counts_of : List Verdict → Counts
counts_of xs = record { meeting = of_kind 0 xs; missing = of_kind 1 xs; unfinishing = of_kind 2 xs; refusing = of_kind 3 xs }

-- ---- the answer for a text, and the work area afterwards

pub data TableAnswer : Type 0 where
  counted : Counts → TableAnswer
  uncounted : ℕ → ℕ → TableAnswer

abbrev pub table_answer : Reading → ℕ → ℕ → TableAnswer
table_answer (readable ts) b work = counted (counts_of (verdicts ts b work))
table_answer (unreadable k n) b work = uncounted k n

-- the largest need among vertices not refused
abbrev pub table_need : Table → ℕ → ℕ → ℕ
table_need ts b work = largest (map (λ (q : Place). need_unless (verdict_at ts b work q) (work_need ts q.task q.vertex)) (places ts))

abbrev pub table_work_after : Reading → ℕ → List ℕ → List ℕ
table_work_after (readable ts) b cells = zeroed (table_need ts b (length cells)) cells
table_work_after (unreadable k n) b cells = cells
