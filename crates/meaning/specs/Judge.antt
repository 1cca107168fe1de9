-- A judging call: the text, then the refusal sheet's rows 8 to 11, then the walk.
use Rattle.std.specs.Prelude.{ℕ, Bool, not, ◌&&◌, List, [], ◌∷◌, length, get_or, ltb}
use Rattle.std.proofs.Math.Option.{Option, none, some}
use Rattle.meaning.specs.Lists.{first_that, those, below}
use Rattle.meaning.specs.Bounds.{most_paths}
use Rattle.meaning.specs.Table.{Table, task_at, higher}
use Rattle.meaning.specs.Text.{Reading, readable, unreadable, read}
use Rattle.meaning.specs.Paths.{paths_of}
use Rattle.meaning.specs.Verdict.{Verdict, refused, Asked, walked, own_e, deadline}
use Rattle.meaning.specs.Areas.{work_need, witness_need}

-- a row of the refusal sheet: whether it holds, and what is returned with it
pub record Row : Type 0 where
  pub number : ℕ
  pub holds : Bool
  pub place : ℕ

-- the higher tasks that have more complete paths than is allowed, lowest-numbered first
abbrev pub crowded : Table → ℕ → ℕ → List ℕ
crowded ts i d = those (λ (k : ℕ). ltb most_paths (length (paths_of (task_at ts k) d))) (below i)

-- no such task or vertex
abbrev pub row8 : Table → ℕ → ℕ → Row
row8 ts i v = record { number = 8; holds = not (ltb i (length ts) && ltb v (length (task_at ts i).vertices)); place = 0 }

-- some higher task has too many complete paths: the lowest-numbered such task
abbrev pub row9 : Table → ℕ → ℕ → Row
row9 ts i v = record { number = 9; holds = ltb 0 (length (crowded ts i (deadline ts i v))); place = get_or (crowded ts i (deadline ts i v)) 0 0 }

-- the work area is too short: cells needed
abbrev pub row10 : Table → ℕ → ℕ → ℕ → Row
row10 ts i v work = record { number = 10; holds = ltb work (work_need ts i v); place = work_need ts i v }

-- the witness area is too short: cells needed
abbrev pub row11 : Table → ℕ → ℕ → ℕ → Row
row11 ts i v wit = record { number = 11; holds = ltb wit (witness_need ts i v); place = witness_need ts i v }

-- the row that refuses vertex v of task i, with so many work and witness cells: "each is given exactly when its row holds and none before it in this
-- order does"
unfoldable pub refusal : Table → ℕ → ℕ → ℕ → ℕ → Option Row
unfolding paths_of
refusal ts i v work wit = first_that (λ (r : Row). r.holds) (row8 ts i v ∷ row9 ts i v ∷ row10 ts i v work ∷ row11 ts i v wit ∷ [])

abbrev pub unless_refused : Option Row → Verdict → Verdict
unless_refused none x = x
unless_refused (some r) x = refused r.number r.place

-- vertex v of task i with budget b
unfoldable pub judged : Asked → Table → ℕ → ℕ → ℕ → ℕ → ℕ → Verdict
unfolding refusal walked
judged a ts i v b work wit = unless_refused (refusal ts i v work wit) (walked a b (higher ts i) (own_e ts i v) (deadline ts i v))

-- ---- from the text: a readable table goes on, anything else returns at once

abbrev pub on_reading : Reading → (Table → Verdict) → Verdict
on_reading (readable ts) f = f ts
on_reading (unreadable k n) f = refused k n

-- what is asked, then text, task, vertex, budget, work cells, witness cells
abbrev pub answer : Asked → List ℕ → ℕ → ℕ → ℕ → ℕ → ℕ → Verdict
answer a text i v b work wit = on_reading (read text) (λ (ts : Table). judged a ts i v b work wit)
