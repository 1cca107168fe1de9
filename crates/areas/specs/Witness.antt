-- The cells of a path, and the paths at places of the higher tasks' lists.
use Rattle.std.specs.Prelude.{ℕ, List, [], ◌∷◌, length, get_or}
use Rattle.meaning.specs.Table.{Task}
use Rattle.meaning.specs.Paths.{Path, paths_of}

-- the path's length and vertices
abbrev pub path_cell : Path → List ℕ
path_cell w = length w ∷ w

-- the path at a place of a task's list, none where there is no such place
abbrev pub path_at : Task → ℕ → ℕ → Path
path_at k d p = get_or (paths_of k d) p []

-- of each task the path at its place
abbrev pub paths_at : List Task → ℕ → List ℕ → List Path
paths_at [] d ps = []
paths_at (k ∷ ks) d [] = []
paths_at (k ∷ ks) d (p ∷ ps) = path_at k d p ∷ paths_at ks d ps
