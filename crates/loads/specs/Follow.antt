-- The loads of the edges that are followed since no other leaves their vertex.
use Rattle.std.specs.Prelude.{◌≡◌, ℕ, ◌-◌, ◌*◌, ◌≤◌, ◌<◌, List, length}
use Rattle.meaning.specs.Bounds.{most_vertices}
use Rattle.columns.specs.Columns.{widest}
use Rattle.ways.specs.Ways.{ways}
use Rattle.loads.specs.Rows.{RowsPut}

-- they lead from v at span, with the total e below, to u at s with b, and by the row from `row` on the part becomes R: the rows put from there are those
-- put from v
pub record FollowedRow (e start to p : List ℕ) (d v span below row : ℕ) (P : List ℕ) (u s b : ℕ) (R : List ℕ) : Type 0 where
  pub vertex : u < most_vertices
  pub onward : span ≤ s
  pub room : s < d
  pub light : b ≤ widest * s
  pub size : length R ≡ length P
  pub same : length (ways start to p u (d - s)) ≡ length (ways start to p v (d - span))
  pub put : (i r : ℕ) (Q : List ℕ) → row ≡ 2 * i * d → RowsPut e start to p d u s b i R Q r → RowsPut e start to p d v span below i P Q r
