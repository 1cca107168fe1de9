-- The paths of a task are the ways over its columns.
use mathlib.Core.Path.{◌≡◌, refl, sym, ap, ap₂, ◌∙◌}
use Prim.Native.Nat.{ℕ, zero, suc, ◌+◌, ◌-◌, ◌≤◌, ◌<◌}
use native.Mathlib.Omega.{arith}
use mathlib.Core.Bool.{Bool, true, false}
use mathlib.Core.List.{List, [], ◌∷◌, ◌++◌, map, map-map}
use lib.Dec.{ltb}
use lib.ListN.{length, get_or, length-map, get_or-map}
use Rattle.meaning.specs.Lists.{pick, those, gather, count_from}
use Rattle.meaning.specs.Bounds.{most_vertices}
use Rattle.meaning.specs.Table.{Edge, Task}
use Rattle.meaning.specs.Paths.{or_alone, paths_from, complete_paths}
use Rattle.meaning.proofs.Lists.{map-append}
use Rattle.columns.specs.Columns.{ColumnsOf, edge_at, edges_of}
use Rattle.ways.specs.Ways.{or_stop, on_by, onward, ways_from, ways, all_ways, vertices_by, path_by}
use Rattle.ways.proofs.Ways.{edge-below}

abbrev pub tos : List ℕ → List ℕ → List ℕ
tos to h = map (λ (j : ℕ). get_or to j 0) h

or_alone-map : (v : ℕ) (to : List ℕ) (hs : List (List ℕ)) → or_alone v (map (tos to) hs) ≡ map (vertices_by to v) (or_stop hs)
or_alone-map v to [] = refl
or_alone-map v to (h ∷ hs) = map-map (λ (q : List ℕ). v ∷ q) (tos to) (h ∷ hs)

-- the ways from n vertices from v on, each behind its first vertex
abbrev pub ways_of : List ℕ → List ℕ → List ℕ → ℕ → ℕ → ℕ → List (List ℕ)
ways_of start to p d v n = gather (λ (u : ℕ). on_by u (ways_from start to p d d u)) (count_from v n)

module _ {k : Task} {e start to p : List ℕ} (c : ColumnsOf k e start to p) where
  -- the edges that leave room, of those out of v from place a on
  abbrev roomy : ℕ → ℕ → ℕ → ℕ → List Edge
  roomy v room a m = those (λ (x : Edge). ltb x.p room) (map (edge_at to p v) (count_from a m))

  -- the paths by them, where each edge's paths are its ways on
  by_edges_lem : (F : Edge → List (List ℕ)) (on : ℕ → ℕ → List (List ℕ)) (v room a m : ℕ)
      → ((j : ℕ) → a ≤ j → j < a + m → F (edge_at to p v j) ≡ map (tos to) (on_by j (on (room - get_or p j 0) (get_or to j 0))))
      → gather F (roomy v room a m) ≡ map (tos to) (gather (onward to p on room) (count_from a m))
  by_edges_lem F on v room a zero h = refl
  by_edges_lem F on v room a (suc m) h =
      go (ltb (get_or p a 0) room) (on_by a (on (room - get_or p a 0) (get_or to a 0)))
      (gather (onward to p on room) (count_from (suc a) m)) (h a (omega arith) (omega arith))
      (by_edges_lem F on v room (suc a) m (λ j x y. h j (omega arith) (omega arith)))
    where
      go : (b : Bool) (first others : List (List ℕ)) → F (edge_at to p v a) ≡ map (tos to) first → gather F (roomy v room (suc a) m) ≡ map (tos to) others
          → gather F (pick b (edge_at to p v a ∷ roomy v room (suc a) m) (roomy v room (suc a) m)) ≡ map (tos to) (pick b first [] ++ others)
      go true first others e ih = ap₂ ◌++◌ e ih ∙ sym (map-append (tos to) first others)
      go false first others e ih = ih

  paths_from_ways : (n room v : ℕ) → v < most_vertices → paths_from k n room v ≡ map (vertices_by to v) (ways_from start to p n room v)
  paths_from_ways zero room v h = refl
  paths_from_ways (suc n) room v h =
      let W : ℕ → ℕ → List (List ℕ) = ways_from start to p n in
      let F : Edge → List (List ℕ) = λ (x : Edge). paths_from k n (room - x.p) x.to in
      ap (λ (xs : List Edge). or_alone v (gather F (those (λ (x : Edge). ltb x.p room) xs))) (c.outs v h)
      ∙ ap (or_alone v) (by_edges_lem F W v room (get_or start v 0) (get_or start (v + 1) 0 - get_or start v 0)
      (λ j x y.
      paths_from_ways n (room - get_or p j 0) (get_or to j 0) (c.sound.within j (edge-below start to p c.sound v j h x y))
      ∙ sym (map-map (tos to) (λ (q : List ℕ). j ∷ q) (W (room - get_or p j 0) (get_or to j 0)))))
      ∙ or_alone-map v to (gather (onward to p W room) (edges_of start v))

  all_ways_paths : (d v n : ℕ) → v + n ≤ most_vertices → gather (paths_from k d d) (count_from v n) ≡ map (path_by to) (ways_of start to p d v n)
  all_ways_paths d v zero h = refl
  all_ways_paths d v (suc n) h =
      let W = ways_from start to p d d v in
      ap₂ ◌++◌ (paths_from_ways d d v (omega arith) ∙ sym (map-map (path_by to) (λ (q : List ℕ). v ∷ q) W)) (all_ways_paths d (suc v) n (omega arith))
      ∙ sym (map-append (path_by to) (on_by v W) (ways_of start to p d (suc v) n))

  -- the paths are the ways on from every vertex
  pub paths_are_ways : (d n : ℕ) → n ≡ length k.vertices → complete_paths k d ≡ map (path_by to) (all_ways start to p d 0 n)
  unfolding complete_paths all_ways ways
  paths_are_ways d n h =
      let s = c.size in
      let z : n - 0 ≡ n = omega arith in
      ap (λ (m : ℕ). gather (paths_from k d d) (count_from 0 m)) (sym h)
      ∙ all_ways_paths d 0 n (omega arith)
      ∙ ap (λ (m : ℕ). map (path_by to) (ways_of start to p d 0 m)) (sym z)

  pub count_of_ways : (d n : ℕ) → n ≡ length k.vertices → length (complete_paths k d) ≡ length (all_ways start to p d 0 n)
  count_of_ways d n h = ap length (paths_are_ways d n h) ∙ length-map (all_ways start to p d 0 n) (path_by to)

  pub place_of_ways : (d n i : ℕ) → n ≡ length k.vertices → get_or (complete_paths k d) i [] ≡ path_by to (get_or (all_ways start to p d 0 n) i [])
  place_of_ways d n i h = ap (λ (w : List (List ℕ)). get_or w i []) (paths_are_ways d n h) ∙ get_or-map (path_by to) (all_ways start to p d 0 n) i []
