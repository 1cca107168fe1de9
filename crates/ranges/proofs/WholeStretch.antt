-- A task's whole stretch: the rows of the single paths put, and the rest built, are every range's loads.
use mathlib.Core.Path.{◌≡◌, refl, ap, ap₂, subst, ◌∙◌}
use Prim.Native.Nat.{ℕ, zero, suc, ◌+◌, ◌-◌, ◌*◌, ◌≤◌, ◌<◌, max}
use native.Mathlib.Nat.{zero-mul, add-mul, one-mul}
use native.Mathlib.Omega.{arith}
use mathlib.Core.Bool.{Bool, true, false}
use lib.Dec.{ltb}
use mathlib.Core.List.{List, [], ◌∷◌, ◌++◌, map}
use lib.ListN.{length, take, drop, replicate, length-map, length-drop}
use lib.Seq.{sets, length-sets, sets-eq, take_at}
use Rattle.meaning.specs.Lists.{count_from, ticks}
use Rattle.meaning.specs.Table.{Task}
use Rattle.meaning.specs.Paths.{load, paths_of}
use Rattle.meaning.specs.Areas.{rows_for}
use Rattle.meaning.specs.Groups.{half, first_part, second_part, range_load}
use Rattle.ways.specs.Ways.{most_counted}
use Rattle.loads.specs.Rows.{Room, put_rows}
use Rattle.ways.specs.Runs.{load_row}
use Rattle.meaning.proofs.Lists.{length-count_from, take-map, drop-map}
use Rattle.meaning.proofs.Stores.{sets-drop, sets-take}
use Rattle.ranges.specs.Stretch.{larger_cells, largest_row, stretch_cells, single_rows, inside, in_order, range_row, stretch_of, built}

row_at : (d i : ℕ) → 2 * (i + 1) * d ≡ 2 * d + 2 * i * d
row_at d i =
    let z : 2 * (i + 1) ≡ 2 + 2 * i = omega arith in
    ap (λ (n : ℕ). n * d) z ∙ add-mul 2 (2 * i) d

put-drop : (xs : List (List ℕ)) (d i : ℕ) (P : List ℕ) → drop (2 * d) (put_rows d (i + 1) xs P) ≡ put_rows d i xs (drop (2 * d) P)
unfolding put_rows
put-drop [] d i P = refl
put-drop (x ∷ xs) d i P =
    put-drop xs d (i + 1) (sets P (2 * (i + 1) * d) x)
    ∙ ap (put_rows d (i + 1) xs) (ap (λ (n : ℕ). drop (2 * d) (sets P n x)) (row_at d i) ∙ sets-drop x P (2 * d) (2 * i * d))

put-take : (xs : List (List ℕ)) (d i : ℕ) (P : List ℕ) → take d (put_rows d (i + 1) xs P) ≡ take d P
unfolding put_rows
put-take [] d i P = refl
put-take (x ∷ xs) d i P = put-take xs d (i + 1) (sets P (2 * (i + 1) * d) x) ∙ sets-take x P d (2 * (i + 1) * d) (omega (arith, row_at d i))

module _ {X : Type 0} (f : X → List ℕ) (d : ℕ) (hf : (x : X) → length (f x) ≡ d) where
  put_singles : (ws : List X) (P : List ℕ) → stretch_cells d (length ws) ≤ length P → single_rows d (length ws) (put_rows d 0 (map f ws) P) ≡ map f ws
  unfolding put_rows
  put_singles [] P h = refl
  put_singles (w ∷ ws) P h =
      let o : d ≤ stretch_cells d (suc (length ws)) = pos (length ws) in
      let z : 0 + 1 ≡ 1 = omega arith in
      let y : 2 * 0 * d ≡ 0 = zero-mul d in
      let fw = hf w in
      let P1 = sets P (2 * 0 * d) (f w) in
      let t : take d (put_rows d (0 + 1) (map f ws) P1) ≡ f w = put-take (map f ws) d 0 P1
      ∙ ap (take d) (ap (λ (n : ℕ). sets P n (f w)) y ∙ sets-eq (f w) P 0 (omega arith)) ∙ take_at (f w) (drop (0 + length (f w)) P) d fw in
      let l : length (drop (2 * d) P1) ≡ length P - 2 * d = length-drop (2 * d) P1 ∙ ap (λ (n : ℕ). n - 2 * d) (length-sets P (2 * 0 * d) (f w)) in
      ap₂ (λ (a : List ℕ) (b : List (List ℕ)). a ∷ b) t
      (ap (single_rows d (length ws)) (put-drop (map f ws) d 0 P1) ∙ put_singles ws (drop (2 * d) P1) (omega (arith, next (length ws))))
    where
      pos : (n : ℕ) → d ≤ stretch_cells d (suc n)
      pos n = let e : rows_for (suc n) ≡ 1 + 2 * n = omega arith in omega (arith, ap (λ (m : ℕ). m * d) e ∙ add-mul 1 (2 * n) d, one-mul d)

      next : (n : ℕ) → stretch_cells d n ≤ stretch_cells d (suc n) - 2 * d
      next zero = omega (arith, zero-mul d)
      next (suc n) = let e : rows_for (suc (suc n)) ≡ 2 + rows_for (suc n) = omega arith in omega (arith, ap (λ (m : ℕ). m * d) e ∙ add-mul 2 (rows_for (suc n)) d)

-- ---- rows of paths

pub order-map : {X : Type 0} (f : X → List ℕ) (row : List (List ℕ) → List ℕ) (own : List X → List ℕ) → ((r : List X) → row (map f r) ≡ own r)
    → (n : ℕ) (xs : List X) → in_order row n (map f xs) ≡ in_order own n xs
unfolding in_order
order-map f row own h zero xs = h xs
order-map f row own h (suc n) xs =
    let l = length-map xs f in
    let a = ap (λ (m : ℕ). take (half m) (map f xs)) l ∙ take-map f (half (length xs)) xs in
    let b = ap (λ (m : ℕ). drop (half m) (map f xs)) l ∙ drop-map f (half (length xs)) xs in
    ap (λ (m : ℕ). inside row (ltb 1 m) (in_order row n (first_part (map f xs))) (row (map f xs)) (in_order row n (second_part (map f xs)))) l
    ∙ same (ltb 1 (length xs)) (ap (in_order row n) a ∙ order-map f row own h n (first_part xs)) (ap (in_order row n) b ∙ order-map f row own h n (second_part xs))
  where
    same : (q : Bool) {a a' b b' : List ℕ} → a ≡ a' → b ≡ b' → inside row q a (row (map f xs)) b ≡ inside own q a' (own xs) b'
    same true x y = ap₂ (λ (u v : List ℕ). u ++ v) x (ap₂ (λ (u v : List ℕ). u ++ v) (h xs) y)
    same false x y = h xs

larger_map : (f g : ℕ → ℕ) (ts : List ℕ) → larger_cells (map f ts) (map g ts) ≡ map (λ (t : ℕ). max (g t) (f t)) ts
larger_map f g [] = refl
larger_map f g (t ∷ ts) = let z : max (f t) (g t) ≡ max (g t) (f t) = omega arith in ap₂ (λ (a : ℕ) (b : List ℕ). a ∷ b) z (larger_map f g ts)

zeros : (a n : ℕ) → replicate {A = ℕ} n 0 ≡ map (λ (t : ℕ). 0) (count_from a n)
zeros a zero = refl
zeros a (suc n) = ap (λ (z : List ℕ). 0 ∷ z) (zeros (suc a) n)

range_rows : (k : Task) (d : ℕ) (r : List (List ℕ)) → largest_row d (map (load_row k d) r) ≡ range_row k d r
range_rows k d [] = zeros 1 d
range_rows k d (w ∷ ws) = ap (λ (z : List ℕ). larger_cells z (load_row k d w)) (range_rows k d ws) ∙ larger_map (range_load (load k) ws) (load k w) (ticks d)

pub stretch_is : (k : Task) (d m : ℕ) (P Q R : List ℕ) → m ≡ length (paths_of k d) → stretch_cells d m ≤ length P
    → Q ≡ put_rows d 0 (map (load_row k d) (paths_of k d)) P → R ≡ built d m Q → R ≡ stretch_of k d
unfolding stretch_of
stretch_is k d m P Q R hm hl eQ eR =
    let W = paths_of k d in
    let q : single_rows d m Q ≡ map (load_row k d) W =
    ap₂ (λ (a : ℕ) (b : List ℕ). single_rows d a b) hm eQ
    ∙ put_singles (load_row k d) d (λ w. length-map (ticks d) (load k w) ∙ length-count_from 1 d) W P (subst (λ (a : ℕ). stretch_cells d a ≤ length P) hm hl) in
    eR ∙ ap (in_order (largest_row d) m) q ∙ order-map (load_row k d) (largest_row d) (range_row k d) (range_rows k d) m W
    ∙ ap (λ (n : ℕ). in_order (range_row k d) n W) hm

pub room_for : (d n len m : ℕ) → 0 < n → n ≤ most_counted → len ≡ stretch_cells d n → m ≡ n → Room d m len
room_for d n len m h l e q =
    let z : 2 * m ≡ rows_for n + 1 = omega arith in
    record { few = omega arith; fits = omega (arith, ap (λ (x : ℕ). x * d) z ∙ add-mul (rows_for n) 1 d, one-mul d) }
