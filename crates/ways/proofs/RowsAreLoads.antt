-- The rows of the ways over a task's columns are its paths' loads.
use mathlib.Core.Path.{◌≡◌, refl, sym, ap, ap₂, subst, ◌∙◌}
use Prim.Native.Nat.{ℕ, zero, suc, ◌+◌, ◌-◌, ◌≤◌, ◌<◌}
use native.Mathlib.Nat.{add-zero}
use native.Mathlib.Omega.{arith}
use mathlib.Core.List.Memᴰ
use mathlib.Core.List.{List, [], ◌∷◌, ◌++◌, map, map-map, Memᴰ}
use lib.ListN.{length, get_or, replicate}
use Rattle.meaning.specs.Lists.{count_from, ticks}
use Rattle.meaning.specs.Bounds.{most_vertices}
use Rattle.meaning.specs.Table.{Edge, Task}
use Rattle.meaning.specs.Paths.{separation, execution, load, complete_paths}
use Rattle.meaning.proofs.Lists.{map-append, map_mem, mem_count_from}
use Rattle.meaning.proofs.Loads.{if_room, run_on, load_run}
use Rattle.meaning.proofs.Suffice.{run_zero}
use Rattle.meaning.proofs.Edges.{separation_is}
use Rattle.columns.specs.Columns.{ColumnsOf, edge_at}
use Rattle.ways.specs.Ways.{on_by, ways_from, ways, all_ways, vertices_by, path_by}
use Rattle.ways.specs.Runs.{load_row, runs, way_row, way_rows}
use Rattle.ways.proofs.Ways.{edge-below}
use Rattle.ways.proofs.Taken.{Taken, way_taken}
use Rattle.ways.proofs.PathsAreWays.{tos, ways_of, paths_are_ways}

module _ {k : Task} {e start to p : List ℕ} (c : ColumnsOf k e start to p) where
  -- the loads from v, behind `below`, at room ticks
  abbrev cells_from : ℕ → ℕ → ℕ → List ℕ → List ℕ
  cells_from room below v h = map (λ (t : ℕ). below + run_on k v (tos to h) t) (count_from 1 room)

  flat : (a n x : ℕ) (f : ℕ → ℕ) → ((t : ℕ) → a ≤ t → t < a + n → f t ≡ x) → replicate n x ≡ map f (count_from a n)
  flat a zero x f h = refl
  flat a (suc n) x f h = ap₂ (λ (y : ℕ) (z : List ℕ). y ∷ z) (sym (h a (omega arith) (omega arith)))
      (flat (suc a) n x f (λ t l m. h t (omega arith) (omega arith)))

  count_split : (a n m : ℕ) → count_from a (n + m) ≡ count_from a n ++ count_from (a + n) m
  count_split a zero m = let z : 0 + m ≡ m = omega arith in ap₂ (λ (x y : ℕ). count_from x y) (sym (add-zero a)) z
  count_split a (suc n) m =
      let z : suc n + m ≡ suc (n + m) = omega arith in
      let y : suc a + n ≡ a + suc n = omega arith in
      ap (count_from a) z ∙ ap (λ (w : List ℕ). a ∷ w) (count_split (suc a) n m ∙ ap (λ (x : ℕ). count_from (suc a) n ++ count_from x m) y)

  shifted : (s a n : ℕ) (f g : ℕ → ℕ) → ((t : ℕ) → a ≤ t → f t ≡ g (s + t)) → map f (count_from a n) ≡ map g (count_from (s + a) n)
  shifted s a zero f g h = refl
  shifted s a (suc n) f g h =
      let z : s + suc a ≡ suc (s + a) = omega arith in
      ap₂ (λ (y : ℕ) (w : List ℕ). y ∷ w) (h a (omega arith)) (shifted s (suc a) n f g (λ t l. h t (omega arith)) ∙ ap (λ (x : ℕ). map g (count_from x n)) z)

  room_pos : (t x : ℕ) → 1 ≤ t → if_room t x ≡ x
  room_pos zero x h = absurd (omega arith)
  room_pos (suc t) x h = refl

  separation-at : (v j : ℕ) → v < most_vertices → get_or start v 0 ≤ j → j < get_or start v 0 + (get_or start (v + 1) 0 - get_or start v 0)
      → get_or p j 0 ≡ separation k v (get_or to j 0)
  separation-at v j h a b =
      let m = Memᴰ.map (edge_at to p v) (mem_count_from (get_or start v 0) (get_or start (v + 1) 0 - get_or start v 0) j a b) in
      separation_is k c.fanned v (edge_at to p v j) (subst (λ (xs : List Edge). Memᴰ (edge_at to p v j) xs) (sym (c.outs v h)) m)

  runs_loads : (room below v : ℕ) (h : List ℕ) → v < most_vertices → Taken start to p room v h → runs e to p room below v h ≡ cells_from room below v h
  runs_loads room below v [] hv w =
      flat 1 room (below + get_or e v 0) (λ (t : ℕ). below + run_on k v [] t)
      (λ t a b. ap (λ (x : ℕ). below + x) (room_pos t (execution k v) a ∙ sym (c.executions v hv)))
  runs_loads room below v (j ∷ h) hv w =
      let s = separation-at v j hv w.0 w.1 in
      let q = get_or p j 0 in
      let u = get_or to j 0 in
      let S = below + get_or e v 0 in
      let l = w.2 in
      let z : q + (room - q) ≡ room = omega arith in
      let y : 1 + q ≡ q + 1 = omega arith in
      let co = c.executions v hv in
      ap₂ ◌++◌
      (flat 1 q S (λ (t : ℕ). below + run_on k v (tos to (j ∷ h)) t) (λ t a b.
      let r : t - separation k v u ≡ 0 = omega arith in
      let n = ap (run_on k u (tos to h)) r ∙ run_zero k u (tos to h) in
      let m = room_pos t (execution k v + run_on k u (tos to h) (t - separation k v u)) a in
      omega arith))
      (runs_loads (room - q) S u h (c.sound.within j (edge-below start to p c.sound v j hv w.0 w.1)) w.3
      ∙ shifted q 1 (room - q) (λ (t : ℕ). S + run_on k u (tos to h) t) (λ (t : ℕ). below + run_on k v (tos to (j ∷ h)) t) (λ t a.
      let r : q + t - separation k v u ≡ t = omega arith in
      let n = ap (run_on k u (tos to h)) r in
      let m = room_pos (q + t) (execution k v + run_on k u (tos to h) (q + t - separation k v u)) (omega arith) in
      omega arith))
      ∙ sym (map-append (λ (t : ℕ). below + run_on k v (tos to (j ∷ h)) t) (count_from 1 q) (count_from (q + 1) (room - q)))
      ∙ ap (map (λ (t : ℕ). below + run_on k v (tos to (j ∷ h)) t))
      (ap (λ (x : ℕ). count_from 1 q ++ count_from x (room - q)) (sym y) ∙ sym (count_split 1 q (room - q)) ∙ ap (count_from 1) z)

  row_loads : (d v : ℕ) (h : List ℕ) → v < most_vertices → Memᴰ h (ways_from start to p d d v) → runs e to p d 0 v h ≡ load_row k d (vertices_by to v h)
  row_loads d v h hv m =
      runs_loads d 0 v h hv (way_taken start to p d d v h m)
      ∙ map_mem (λ (t : ℕ). 0 + run_on k v (tos to h) t) (load k (vertices_by to v h)) (ticks d) (λ t x. omega (arith, load_run k v (tos to h) t))

  all_ways_rows : (d v n : ℕ) → v + n ≤ most_vertices → map (way_row e to p d) (ways_of start to p d v n)
      ≡ map (λ (q : List ℕ). load_row k d (path_by to q)) (ways_of start to p d v n)
  all_ways_rows d v zero h = refl
  all_ways_rows d v (suc n) h =
      let R = ways_of start to p d (suc v) n in
      let H = ways_from start to p d d v in
      let L : List ℕ → List ℕ = λ (q : List ℕ). load_row k d (path_by to q) in
      map-append (way_row e to p d) (on_by v H) R
      ∙ ap₂ ◌++◌ (map-map (way_row e to p d) (λ (q : List ℕ). v ∷ q) H
      ∙ map_mem (runs e to p d 0 v) (λ (q : List ℕ). load_row k d (vertices_by to v q)) H (λ q m. row_loads d v q (omega arith) m)
      ∙ sym (map-map L (λ (q : List ℕ). v ∷ q) H)) (all_ways_rows d (suc v) n (omega arith))
      ∙ sym (map-append L (on_by v H) R)

  -- the rows that `rows_all` puts are the paths' loads
  pub loads_are_rows : (d n : ℕ) → n ≡ length k.vertices → way_rows e to p d (all_ways start to p d 0 n) ≡ map (load_row k d) (complete_paths k d)
  unfolding way_rows all_ways ways
  loads_are_rows d n h =
      let s = c.size in
      all_ways_rows d 0 (n - 0) (omega arith)
      ∙ sym (map-map (load_row k d) (path_by to) (ways_of start to p d 0 (n - 0)))
      ∙ ap (map (load_row k d)) (sym (paths_are_ways c d n h))
