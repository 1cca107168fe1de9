-- The rows of all complete paths, from every vertex.
use mathlib.Core.Path.{◌≡◌, refl, sym, ap, ap₂, subst, ◌∙◌}
use Prim.Native.Nat.{ℕ, ◌+◌, ◌-◌, ◌*◌, ◌≤◌, ◌<◌}
use native.Mathlib.Omega.{arith}
use mathlib.Core.List.{List, [], ◌∷◌}
use lib.ListN.{length, length-map}
use Rattle.meaning.proofs.Lists.{map-append}
use Rattle.ways.specs.Ways.{ways, all_ways, on_by}
use Rattle.loads.specs.Rows.{put_rows, Room, rows_behind, RowsPut}
use Rattle.ways.specs.Runs.{runs, way_row, way_rows}
use Rattle.ways.proofs.Ways.{all_ways_none, all_ways_more, all_ways_length}
use Rattle.loads.proofs.Fronts.{front-none}
use Rattle.loads.proofs.PutRows.{put-append, put-length, room_less}

way_rows_by : (e to p : List ℕ) (d v : ℕ) (hs : List (List ℕ)) → way_rows e to p d (on_by v hs) ≡ rows_behind e to p [] d 0 v hs
unfolding rows_behind way_rows
way_rows_by e to p d v [] = refl
way_rows_by e to p d v (h ∷ hs) = ap (λ (w : List (List ℕ)). runs e to p d 0 v h ∷ w) (way_rows_by e to p d v hs)

pub record Filling (e start to p : List ℕ) (d n : ℕ) (P part : List ℕ) (i v : ℕ) : Type 0 where
  pub high : v ≤ n
  pub count : i + length (all_ways start to p d v n) ≡ length (all_ways start to p d 0 n)
  pub rows : put_rows d i (way_rows e to p d (all_ways start to p d v n)) part ≡ put_rows d 0 (way_rows e to p d (all_ways start to p d 0 n)) P
  pub size : length part ≡ length P

pub filling_none : (e start to p : List ℕ) (d n : ℕ) (P : List ℕ) → Filling e start to p d n P P 0 0
filling_none e start to p d n P = record { high = omega arith; count = omega arith; rows = refl; size = refl }

module _ {e start to p : List ℕ} {d n : ℕ} {P part : List ℕ} {i v : ℕ} (g : Filling e start to p d n P part i v) where
  pub filling_room : v < n → Room d (length (all_ways start to p d 0 n)) (length P) → Room d (i + length (ways start to p v (d - 0))) (length part)
  filling_room h r =
      let z : d - 0 ≡ d = omega arith in
      let c = g.count in
      let l = all_ways_length start to p d v n h in
      let y = ap (λ (m : ℕ). length (ways start to p v m)) z in
      subst (λ (m : ℕ). Room d (i + length (ways start to p v (d - 0))) m) (sym g.size)
      (room_less d (length (all_ways start to p d 0 n)) (i + length (ways start to p v (d - 0))) (length P) r (omega arith))

  pub filling_on : v < n → (Q : List ℕ) (r : ℕ) → RowsPut e start to p d v 0 0 i part Q r → Filling e start to p d n P Q r (v + 1)
  unfolding way_rows
  filling_on h Q r f =
      let z : d - 0 ≡ d = omega arith in
      let c = g.count in
      let l = all_ways_length start to p d v n h in
      let fn = f.next in
      let y = ap (λ (m : ℕ). length (ways start to p v m)) z in
      let W : List (List ℕ) → List (List ℕ) = way_rows e to p d in
      let H = ways start to p v d in
      let eQ : Q ≡ put_rows d i (W (on_by v H)) part =
      f.rows ∙ ap₂ (λ (w : List ℕ) (m : ℕ). put_rows d i (rows_behind e to p w m 0 v (ways start to p v m)) part) (front-none part (2 * i * d)) z
      ∙ ap (λ (w : List (List ℕ)). put_rows d i w part) (sym (way_rows_by e to p d v H)) in
      let lr : i + length (W (on_by v H)) ≡ r =
      ap (λ (m : ℕ). i + m) (length-map (on_by v H) (way_row e to p d) ∙ length-map H (λ (x : List ℕ). v ∷ x) ∙ sym y) ∙ sym fn in
      record {
        high = omega arith;
        count = omega arith;
        rows = ap₂ (λ (m : ℕ) (w : List ℕ). put_rows d m (W (all_ways start to p d (v + 1) n)) w) (sym lr) eQ
            ∙ sym (put-append (W (on_by v H)) (W (all_ways start to p d (v + 1) n)) d i part)
            ∙ ap (λ (w : List (List ℕ)). put_rows d i w part) (sym (map-append (way_row e to p d) (on_by v H) (all_ways start to p d (v + 1) n)))
            ∙ ap (λ (w : List (List ℕ)). put_rows d i (W w) part) (sym (all_ways_more start to p d v n h))
            ∙ g.rows;
        size = ap length eQ ∙ put-length (W (on_by v H)) d i part ∙ g.size;
      }

  pub filling_all : n ≤ v → (i ≡ length (all_ways start to p d 0 n)) × (part ≡ put_rows d 0 (way_rows e to p d (all_ways start to p d 0 n)) P)
  unfolding way_rows put_rows
  filling_all h =
      let z = all_ways_none start to p d v n h in
      let c = g.count in
      (omega (arith, ap length z), ap (λ (w : List (List ℕ)). put_rows d i (way_rows e to p d w) part) (sym z) ∙ g.rows)
