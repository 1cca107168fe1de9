-- The path at a place, of all complete paths.
use mathlib.Core.Path.{◌≡◌, refl, sym, ap, ap₂, ◌∙◌}
use Prim.Native.Nat.{ℕ, ◌+◌, ◌-◌, ◌≤◌, ◌<◌, zero-le}
use native.Mathlib.Omega.{arith}
use native.Mathlib.Decide.{dec_lt}
use mathlib.Core.List.{List, [], ◌∷◌, ◌++◌}
use lib.ListN.{length, get_or, drop, replicate, length-map, length-replicate, replicate-append-replicate, get_or-append}
use lib.Seq.{sets, drop_at, get_or-append-add}
use Rattle.meaning.specs.Bounds.{most_vertices, largest_d}
use Rattle.meaning.proofs.Wrote.{front-set}
use Rattle.table.specs.Record.{padded}
use Rattle.lister.specs.declared.Path.{Path}
use Rattle.lister.specs.declared.PathNumber.{PathNumber}
use Rattle.std.specs.declared.ops.ControlFlow.TheVariants.{Break, Continue}
use Rattle.columns.specs.Columns.{SoundColumns}
use Rattle.ways.specs.Ways.{ways, all_ways, on_by, vertices_by, path_by}
use Rattle.lister.specs.Place.{Found, Sought, path_record}
use Rattle.ways.proofs.Taken.{way_short}
use Rattle.ways.proofs.Ways.{all_ways_none, all_ways_more}
use Rattle.lister.proofs.Places.{get_or-on_by, not_both, same_length, same_place}

-- a path stored into zeros is padded with them
stored : (w : List ℕ) → length w ≤ largest_d → sets (replicate largest_d 0) 0 w ≡ padded largest_d 0 w
unfolding padded
stored w h =
    let n : largest_d ≡ length w + (largest_d - length w) = omega arith in
    let zeros : replicate {A = ℕ} largest_d 0 ≡ replicate (length w) 0 ++ replicate (largest_d - length w) 0 =
    ap (λ (k : ℕ). replicate k 0) n ∙ sym (replicate-append-replicate (length w) (largest_d - length w) 0) in
    front-set w (replicate largest_d 0) (rw length-replicate h) ∙ ap (λ (l : List ℕ). w ++ l)
    (ap (drop (length w)) zeros ∙ drop_at (replicate (length w) 0) (replicate (largest_d - length w) 0) (length w) (length-replicate {A = ℕ} (length w) 0))

-- so the cells that path_from leaves are the path's own
made : (w B : List ℕ) (n : ℕ) → B ≡ sets (replicate largest_d 0) 0 w → n ≡ length w → length w ≤ largest_d
    → ◌≡◌ {A = Path} (record { vertices = B; len = n }) (path_record w)
unfolding path_record
made w B n e q h = ap₂ {C = Path} (λ (cells : List ℕ) (len : ℕ). record { vertices = cells; len = len }) (e ∙ stored w h) q

pub record Passing (start to p : List ℕ) (n d i : ℕ) (cs : List ℕ) (left v : ℕ) : Type 0 where
  pub high : v ≤ n
  pub fewer : left ≤ i
  pub place : get_or (all_ways start to p d v n) left [] ≡ get_or (all_ways start to p d 0 n) i []
  pub cells : cs ≡ replicate largest_d 0

pub passing_none : (start to p : List ℕ) (n d i : ℕ) → Passing start to p n d i (replicate largest_d 0) i 0
passing_none start to p n d i = record { high = omega arith; fewer = omega arith; place = refl; cells = refl }

module _ {start to p : List ℕ} {n d i : ℕ} {cs : List ℕ} {left v : ℕ} (g : Passing start to p n d i cs left v) where
  on_len : length (on_by v (ways start to p v d)) ≡ length (ways start to p v d)
  on_len = length-map (ways start to p v d) (λ (x : List ℕ). v ∷ x)

  pub passing_on : v < n → (B : List ℕ) (s : Sought) (x : PathNumber)
      → Found start to p v d 0 left cs B s → s ≡ Continue x → Passing start to p n d i B x.0 (v + 1)
  passing_on h B s x f e = elim (dec_lt left (length (ways start to p v d))) [
    | yes y ↦ absurd (not_both s (f.hit y).end e)
    | no y ↦
        let m = f.miss (omega arith) in
        let ml = same_place s e m.left in
        let w = g.fewer in
        let z : left ≡ length (on_by v (ways start to p v d)) + x.0 = omega (arith, on_len) in
        record {
          high = omega arith;
          fewer = omega arith;
          place = sym (ap₂ (λ (b : List (List ℕ)) (j : ℕ). get_or b j []) (all_ways_more start to p d v n h) z
              ∙ get_or-append-add (on_by v (ways start to p v d)) (all_ways start to p d (v + 1) n) x.0 []) ∙ g.place;
          cells = m.cells ∙ g.cells;
        }
  ]

  pub passing_found : SoundColumns start to p → n ≤ most_vertices → 0 < d → d ≤ largest_d → v < n
      → (B : List ℕ) (s : Sought) (len : ℕ) → Found start to p v d 0 left cs B s → s ≡ Break len
      → ◌≡◌ {A = Path} (record { vertices = B; len = len }) (path_record (path_by to (get_or (all_ways start to p d 0 n) i [])))
  passing_found so hn hd ld h B s len f e = elim (dec_lt left (length (ways start to p v d))) [
    | no y ↦ absurd (not_both s e (f.miss (omega arith)).left)
    | yes y ↦
        let m = f.hit y in
        let H = get_or (ways start to p v d) left [] in
        let w : get_or (all_ways start to p d 0 n) i [] ≡ v ∷ H =
        sym g.place ∙ ap (λ (b : List (List ℕ)). get_or b left []) (all_ways_more start to p d v n h)
        ∙ get_or-append (on_by v (ways start to p v d)) (all_ways start to p d (v + 1) n) [] left (omega (arith, on_len))
        ∙ get_or-on_by v (ways start to p v d) left y in
        let q : 0 + 1 + length H ≡ length (vertices_by to v H) = omega (arith, length-map H (λ (k : ℕ). get_or to k 0)) in
        let l = way_short start to p so v d left (omega arith) hd y in
        let z : length (vertices_by to v H) ≤ largest_d = omega arith in
        made (vertices_by to v H) B len (m.cells ∙ ap (λ (a : List ℕ). sets a 0 (vertices_by to v H)) g.cells) (same_length s e m.end ∙ q) z
        ∙ ap (λ (b : List ℕ). path_record (path_by to b)) (sym w)
  ]

  pub passing_past : n ≤ v → ◌≡◌ {A = Path} (record { vertices = cs; len = 0 }) (path_record (path_by to (get_or (all_ways start to p d 0 n) i [])))
  passing_past h =
      let w : get_or (all_ways start to p d 0 n) i [] ≡ [] = sym g.place ∙ ap (λ (b : List (List ℕ)). get_or b left []) (all_ways_none start to p d v n h) in
      made [] cs 0 g.cells refl zero-le ∙ ap (λ (b : List ℕ). path_record (path_by to b)) (sym w)
