-- The edge out of a vertex, where no other leaves it.
use Rattle.std.specs.Prelude.{◌≡◌, ℕ, ◌+◌, ◌≤◌, ◌<◌, List, get_or, Option, Some, None}
use Rattle.columns.specs.declared.Out.{Out}

-- the edge x is v's only one, and takes less than the room
pub record Alone (start to p : List ℕ) (v room : ℕ) (x : Out) : Type 0 where
  pub one : get_or start (v + 1) 0 ≡ get_or start v 0 + 1
  pub leads : x.to.number.0 ≡ get_or to (get_or start v 0) 0
  pub takes : x.p.0 ≡ get_or p (get_or start v 0) 0
  pub less : x.p.0 < room

-- none where v hasn't one edge only, or the one takes the room
abbrev pub Only : List ℕ → List ℕ → List ℕ → ℕ → ℕ → Option Out → Type 0
Only start to p v room None = get_or start (v + 1) 0 ≡ get_or start v 0 + 1 → room ≤ get_or p (get_or start v 0) 0
Only start to p v room (Some x) = Alone start to p v room x
