-- Edges that are followed since no other leaves their vertex.
use Rattle.std.specs.Prelude.{◌≡◌, ℕ, ◌≤◌, ◌<◌, List, length}
use Rattle.meaning.specs.Bounds.{most_vertices}
use Rattle.ways.specs.Ways.{ways}

-- they lead from v with r ticks left to u with s left, where there are as many ways on
pub record Followed (start to p : List ℕ) (v r u s : ℕ) : Type 0 where
  pub vertex : u < most_vertices
  pub some : 0 < s
  pub fewer : s ≤ r
  pub same : length (ways start to p u s) ≡ length (ways start to p v r)
