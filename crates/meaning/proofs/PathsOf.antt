-- The paths that the walk chooses from: legal, in order, at least one, and no legal path loads more than some of them.
-- What other laws know of `paths_of` is here.
use Prim.Native.Nat.{ℕ, ◌≤◌, ◌<◌}
use mathlib.Core.List.{Memᴰ}
use lib.ListN.{length}
use lib.Dec.{T}
use Rattle.meaning.specs.Lists.{Rising}
use Rattle.meaning.specs.Table.{Task}
use Rattle.meaning.specs.Paths.{Path, legal, load, paths_of, Before}
use Rattle.meaning.specs.Sound.{SoundTask}
use Rattle.meaning.proofs.Lists.{mem_some}
use Rattle.meaning.proofs.Edges.{sound_spaced, sound_fanned}
use Rattle.meaning.proofs.Onward.{some_path_lem, mem_complete, complete-legal}
use Rattle.meaning.proofs.PathOrder.{rising_complete}
use Rattle.meaning.proofs.Complete.{listed_short}
use Rattle.meaning.proofs.Suffice.{dominated}

pub paths_legal : (k : Task) (d : ℕ) {c : Path} → Memᴰ c (paths_of k d) → T (legal k c)
unfolding paths_of
paths_legal k d m = complete-legal k d m

module _ (k : Task) (s : SoundTask k) (d : ℕ) where
  pub paths_rising : Rising Before (paths_of k d)
  unfolding paths_of
  paths_rising = rising_complete k (sound_fanned k s) d

  pub paths_some : 0 < length (paths_of k d)
  unfolding paths_of
  paths_some = mem_some (mem_complete k d 0 s.some_vertex (some_path_lem k d d 0).1)

  pub paths_suffice : (w : Path) → T (legal k w) → (c : Path) × Memᴰ c (paths_of k d) × ((t : ℕ) → t ≤ d → load k w t ≤ load k c t)
  unfolding paths_of
  paths_suffice w l = dominated k (sound_spaced k s) d w l

  pub paths_short : 1 ≤ d → (c : Path) → Memᴰ c (paths_of k d) → length c ≤ d
  unfolding paths_of
  paths_short o c m = listed_short k (sound_spaced k s) (sound_fanned k s) d o c m
