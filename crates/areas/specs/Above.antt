-- The higher tasks by their numbers of paths: where their stretches of the work area begin, and how many rows they have.
use Rattle.std.specs.Prelude.{◌≡◌, ℕ, ◌+◌, ◌*◌, ◌≤◌, List, [], ◌∷◌, map, length, set, replicate}
use Rattle.meaning.specs.Lists.{sum}
use Rattle.meaning.specs.Bounds.{most_higher, most_paths}
use Rattle.meaning.specs.Table.{Task}
use Rattle.meaning.specs.Paths.{paths_of}
use Rattle.meaning.specs.Areas.{rows_for}
use Rattle.table.specs.Record.{padded}
use Rattle.groups.specs.declared.Stretch.{Stretch}
use Rattle.groups.specs.Lent.{roots, counts}
use Rattle.areas.specs.declared.above.Above.{Above}

-- how many paths each task has for deadline d
abbrev pub path_counts : List Task → ℕ → List ℕ
path_counts ks d = map (λ (k : Task). length (paths_of k d)) ks

-- the rows of tasks with so many paths
unfoldable pub rows_in : List ℕ → ℕ
rows_in ns = sum (map rows_for ns)

-- where their stretches of rows of d cells begin, behind so many rows
abbrev pub starts_from : ℕ → ℕ → List ℕ → List ℕ
starts_from d rows [] = []
starts_from d rows (n ∷ ns) = rows * d ∷ starts_from d (rows + rows_for n) ns

-- the stretches that begin there, of tasks with so many paths
abbrev pub stretches_at : List ℕ → List ℕ → List Stretch
stretches_at [] ns = []
stretches_at (r ∷ rs) [] = []
stretches_at (r ∷ rs) (n ∷ ns) = record { root = r; count = n } ∷ stretches_at rs ns

-- of tasks with so many paths each: how many, where each one's stretch begins, zeros behind them; and how many rows they have in all
unfoldable pub above_of : ℕ → List ℕ → Above
unfolding padded rows_in
above_of d ns =
    record { stretches = stretches_at (padded most_higher 0 (starts_from d 0 ns)) (padded most_higher 0 ns); rows = rows_in ns }

-- ---- one task after the other

abbrev pub none_above : Above
none_above = record { stretches = replicate most_higher (record { root = 0; count = 0 }); rows = 0 }

-- n paths of task j
abbrev pub with_paths : Above → ℕ → ℕ → ℕ → Above
with_paths a j n d = record { stretches = set a.stretches j (record { root = a.rows * d; count = n }); rows = a.rows + rows_for n }

-- j tasks are counted, none of which has too many paths
pub record Counted (j : ℕ) (a : Above) : Type 0 where
  pub counts : length (counts a.stretches) ≡ most_higher
  pub roots : length (roots a.stretches) ≡ most_higher
  pub rows : a.rows ≤ rows_for most_paths * j
