-- The edges out of a vertex, tried one after the other.
use mathlib.Core.Path.{◌≡◌, ap, ap₂}
use Prim.Native.Nat.{ℕ, ◌+◌, ◌-◌, ◌≤◌, ◌<◌}
use native.Mathlib.Omega.{arith}
use mathlib.Core.List.{List}
use lib.ListN.{length, get_or}
use Rattle.meaning.specs.Bounds.{most_vertices, most_edges}
use Rattle.columns.specs.Columns.{SoundColumns}
use Rattle.ways.specs.Ways.{ways}
use Rattle.ways.proofs.Ways.{by_edges, length_yes, by_edges_none, length_ways}

-- the edges out of v end before `end`, and k is one of them or `end`
pub record Turn (start : List ℕ) (v end k : ℕ) : Type 0 where
  pub vertex : v < most_vertices
  pub low : get_or start v 0 ≤ k
  pub high : k ≤ end
  pub ends : end ≡ get_or start (v + 1) 0
  pub last : end ≤ get_or start most_vertices 0
  pub few : end ≤ most_edges

pub turn_next : {start : List ℕ} {v end k : ℕ} → Turn start v end k → k < end → Turn start v end (k + 1)
turn_next g h =
    let a = g.low in
    record { vertex = g.vertex; low = omega arith; high = omega arith; ends = g.ends; last = g.last; few = g.few }

module _ {start to p : List ℕ} (so : SoundColumns start to p) where
  pub turn_first : (v end k : ℕ) → v < most_vertices → end ≡ get_or start (v + 1) 0 → k ≡ get_or start v 0 → Turn start v end k
  turn_first v end k h e q =
      let a = so.rise v h in
      let b = so.ends v h in
      let f = so.few in
      record { vertex = h; low = omega arith; high = omega arith; ends = e; last = omega arith; few = omega arith }

  -- an edge takes time, and leads to a vertex
  pub edge_on : {v end k : ℕ} → Turn start v end k → k < end → (1 ≤ get_or p k 0) × (get_or to k 0 < most_vertices)
  edge_on {k = k} g h = let l : k < get_or start most_vertices 0 = omega (arith, g.last) in (so.apart k l, so.within k l)

  pub ways_some : (u s : ℕ) → u < most_vertices → 0 < s → 1 ≤ length (ways start to p u s)
  ways_some u s h l = omega (arith, length_ways start to p so u s h l)

  -- where one edge alone leaves u, there are as many ways on as from where it leads
  pub lone-length : (u s j k : ℕ) → Turn start u j k → 0 < s → k ≡ get_or start u 0 → j ≡ k + 1 → get_or p k 0 < s
      → length (ways start to p (get_or to k 0) (s - get_or p k 0)) ≡ length (ways start to p u s)
  lone-length u s j k g l ek one q =
      let e = length_ways start to p so u s g.vertex l in
      let y = length_yes start to p s k j (omega arith) q in
      let n = ap length (by_edges_none start to p s (k + 1) j (omega arith)) in
      let z = ap₂ (λ (a b : ℕ). length (by_edges start to p s a b)) ek g.ends in
      omega (arith, ways_some (get_or to k 0) (s - get_or p k 0) (edge_on g (omega arith)).1 (omega arith))
