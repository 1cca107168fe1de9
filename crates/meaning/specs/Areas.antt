-- Lent areas: what a vertex needs of them, and what they hold after its verdict.
use Rattle.std.specs.Prelude.{◌≡◌, ℕ, ◌+◌, ◌-◌, ◌*◌, List, ◌++◌, map, length, drop, replicate, eqb}
use Rattle.std.proofs.lemmas.List.Edits.{sets}
use Rattle.meaning.specs.Lists.{pick, sum}
use Rattle.meaning.specs.Table.{Task, Table, higher}
use Rattle.meaning.specs.Paths.{Path, paths_of}
use Rattle.meaning.specs.Verdict.{Verdict, kind_of, shown_paths, cells_of, deadline}

-- ---- needs

-- the rows of n paths: a range for each path, and one for each split
abbrev pub rows_for : ℕ → ℕ
rows_for n = 2 * n - 1

-- the rows of one task
abbrev pub rows_of : ℕ → Task → ℕ
rows_of d k = rows_for (length (paths_of k d))

-- d times the sum over higher tasks of (2 x paths - 1)
abbrev pub work_need : Table → ℕ → ℕ → ℕ
work_need ts i v = deadline ts i v * sum (map (rows_of (deadline ts i v)) (higher ts i))

-- h x (1 + d), h being the number of higher tasks
abbrev pub witness_need : Table → ℕ → ℕ → ℕ
witness_need ts i v = i * (1 + deadline ts i v)

-- ---- afterwards

-- n zeros from the front, the rest unchanged
abbrev pub zeroed : ℕ → List ℕ → List ℕ
zeroed n cells = replicate n 0 ++ drop n cells

-- the front holds these, all else unchanged
abbrev pub written : List ℕ → List ℕ → List ℕ
written front cells = front ++ drop (length front) cells

-- after any of the three verdicts the needed cells, after a refusal none
abbrev pub need_unless : Verdict → ℕ → ℕ
need_unless x need = pick (eqb (kind_of x) 3) 0 need

-- the needed cells are zero and the rest unchanged; no refusal changes a lent area
abbrev pub work_after : Verdict → ℕ → List ℕ → List ℕ
work_after x need cells = zeroed (need_unless x need) cells

-- on a miss its front holds, per higher task in order, the path's length and vertices; on a meets those of the paths us; the other verdicts don't touch it
abbrev pub witness_after : List Path → Verdict → List ℕ → List ℕ
witness_after us x cells = written (cells_of (shown_paths us x)) cells

-- ---- what writing into a lent area promises

-- the bytes stand in the area from a place on, all else is unchanged, and the next place is behind them
pub record Wrote (bytes : List ℕ) (before : List ℕ) (at : ℕ) (after : List ℕ) (next : ℕ) : Type 0 where
  pub cells : after ≡ sets before at bytes
  pub end : next ≡ at + length bytes
