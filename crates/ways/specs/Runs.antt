-- The loads of a path, written by runs: the total stands from a release to the next.
use Rattle.std.specs.Prelude.{ℕ, ◌+◌, ◌-◌, List, [], ◌∷◌, ◌++◌, map, get_or, replicate}
use Rattle.meaning.specs.Lists.{ticks}
use Rattle.meaning.specs.Table.{Task}
use Rattle.meaning.specs.Paths.{Path, load}

-- a path's loads at 1 to d
abbrev pub load_row : Task → ℕ → Path → List ℕ
load_row k d w = map (load k w) (ticks d)

-- the loads that begin with v, where `room` ticks are left and the prefix has `below`: the total stands from a release to the next
module _ (e to p : List ℕ) where
  abbrev pub runs : ℕ → ℕ → ℕ → List ℕ → List ℕ
  runs room below v [] = replicate room (below + get_or e v 0)
  runs room below v (k ∷ h) = replicate (get_or p k 0) (below + get_or e v 0) ++ runs (room - get_or p k 0) (below + get_or e v 0) (get_or to k 0) h

  abbrev pub way_row : ℕ → List ℕ → List ℕ
  way_row d [] = []
  way_row d (v ∷ h) = runs d 0 v h

  unfoldable pub way_rows : ℕ → List (List ℕ) → List (List ℕ)
  way_rows d hs = map (way_row d) hs
