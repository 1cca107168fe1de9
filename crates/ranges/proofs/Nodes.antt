-- Where the row of each range lies in the stretch, and what it holds.
use mathlib.Core.Path.{◌≡◌, refl, sym, ap, ap₂, fun_ext, ◌∙◌}
use Prim.Native.Nat.{ℕ, zero, suc, ◌+◌, ◌-◌, ◌*◌, ◌≤◌, ◌<◌}
use native.Mathlib.Nat.{add-mul, one-mul, mul-le-mul_right}
use native.Mathlib.Omega.{arith}
use mathlib.Core.List.{List, ◌++◌, map, map-map}
use lib.ListN.{length, get_or, take, drop, length-drop, length-map}
use lib.Seq.{take-take, take-append-le, take_all, drop-drop, drop-append-add, drop-append-le, get_or-drop, get_or-take}
use Rattle.meaning.specs.Lists.{largest, count_from, ticks}
use Rattle.meaning.specs.Table.{Task, unmasked}
use Rattle.meaning.specs.Paths.{Path, load, paths_of}
use Rattle.meaning.specs.Areas.{rows_for}
use Rattle.meaning.specs.Groups.{half, first_part, second_part, range_load}
use Rattle.meaning.specs.Verdict.{Listed, load_of, listed}
use Rattle.meaning.proofs.Lists.{drop-take, length-count_from, take-map, drop-map}
use Rattle.meaning.proofs.Masks.{load-unmasked}
use Rattle.ranges.specs.Stretch.{stretch_cells, in_order, range_row, stretch_of}
use Rattle.rows.specs.Order.{top_row, Node, top, low, high}
use Rattle.ranges.proofs.Rows.{in_order_two, first-length, second_length, order-length, order_row}
use Rattle.rows.proofs.Order.{node_in, node_pos, top_in}

module _ {X : Type 0} (row : List X → List ℕ) (d : ℕ) (hr : (ys : List X) → length (row ys) ≡ d) where
  -- the row of number i
  row_at : ℕ → List ℕ → List ℕ
  row_at i cells = take d (drop (i * d) cells)

  row_first : (i : ℕ) (A B : List ℕ) (c : ℕ) → length A ≡ stretch_cells d c → i + 1 ≤ rows_for c → row_at i (A ++ B) ≡ row_at i A
  unfolding row_at
  row_first i A B c l h =
      let e : (i + 1) * d ≡ i * d + d = add-mul i 1 d ∙ ap (λ (n : ℕ). i * d + n) (one-mul d) in
      let f : (i + 1) * d ≤ rows_for c * d = mul-le-mul_right d h in
      ap (take d) (drop-append-le (i * d) A B (omega arith)) ∙ take-append-le d (drop (i * d) A) B (omega (arith, length-drop (i * d) A))

  row_second : (i j : ℕ) (A R B : List ℕ) (c : ℕ) → length A ≡ stretch_cells d c → length R ≡ d → i ≡ rows_for c + (1 + j) → row_at i (A ++ (R ++ B)) ≡ row_at j B
  unfolding row_at
  row_second i j A R B c l r q =
      let y : (1 + j) * d ≡ length R + j * d = add-mul 1 j d ∙ ap (λ (n : ℕ). n + j * d) (one-mul d ∙ sym r) in
      let z : i * d ≡ length A + (length R + j * d) = ap (λ (n : ℕ). n * d) q ∙ add-mul (rows_for c) (1 + j) d ∙ ap₂ ◌+◌ (sym l) y in
      ap (λ (n : ℕ). take d (drop n (A ++ (R ++ B)))) z ∙ ap (take d) (drop-append-add A (R ++ B) (length R + j * d) ∙ drop-append-add R B (j * d))

  -- a range of xs, and the row of number 2 first + top
  node_row : {a n f m : ℕ} → Node a n f m → (turns : ℕ) (xs : List X) → length xs ≡ n → 0 < n → n ≤ turns
      → row_at (2 * (f - a) + top_row m) (in_order row turns xs) ≡ row (take m (drop (f - a) xs))
  unfolding row_at
  node_row {a} {n} {f} {m} (top p q) turns xs l h u =
      let z : f - a ≡ 0 = omega arith in
      let y : 2 * (f - a) + top_row m ≡ top_row (length xs) = omega (arith, ap top_row (q ∙ sym l)) in
      ap (λ (i : ℕ). row_at i (in_order row turns xs)) y ∙ order_row row d hr turns xs (omega arith) (omega arith)
      ∙ ap row (sym (ap (λ (i : ℕ). take m (drop i xs)) z ∙ take_all m xs (omega arith)))
  node_row {a} {n} {f} {m} (low o x) zero xs l h u = absurd (omega arith)
  node_row {a} {n} {f} {m} (low o x) (suc turns) xs l h u =
      let b = node_in x in
      let c = first-length row xs in
      let k : half (length xs) ≡ half n = ap half l in
      let t = top_in m (node_pos x (omega arith)) in
      let before = order-length row d hr turns (first_part xs) (omega arith) (omega arith) in
      ap (row_at (2 * (f - a) + top_row m)) (in_order_two row turns xs (omega arith))
      ∙ row_first (2 * (f - a) + top_row m) (in_order row turns (first_part xs))
      (row xs ++ in_order row turns (second_part xs)) (length (first_part xs)) before (omega arith)
      ∙ node_row x turns (first_part xs) (c ∙ k) (omega arith) (omega arith)
      ∙ ap row (ap (take m) (drop-take (f - a) (half (length xs)) xs) ∙ take-take m (half (length xs) - (f - a)) (drop (f - a) xs) (omega arith))
  node_row {a} {n} {f} {m} (high o x) zero xs l h u = absurd (omega arith)
  node_row {a} {n} {f} {m} (high o x) (suc turns) xs l h u =
      let b = node_in x in
      let c = first-length row xs in
      let s = second_length row xs in
      let k : half (length xs) ≡ half n = ap half l in
      let z : half (length xs) + (f - (a + half n)) ≡ f - a = omega arith in
      let before = order-length row d hr turns (first_part xs) (omega arith) (omega arith) in
      ap (row_at (2 * (f - a) + top_row m)) (in_order_two row turns xs (omega arith))
      ∙ row_second (2 * (f - a) + top_row m) (2 * (f - (a + half n)) + top_row m) (in_order row turns (first_part xs)) (row xs) (in_order row turns (second_part xs))
      (length (first_part xs)) before (hr xs) (omega arith)
      ∙ node_row x turns (second_part xs) (omega arith) (omega arith) (omega arith)
      ∙ ap row (ap (take m) (drop-drop (f - (a + half n)) (half (length xs)) xs ∙ ap (λ (i : ℕ). drop i xs) z))

  pub order_node : (xs : List X) {f m : ℕ} → 0 < length xs → Node 0 (length xs) f m
      → take d (drop ((2 * f + top_row m) * d) (in_order row (length xs) xs)) ≡ row (take m (drop f xs))
  unfolding row_at
  order_node xs {f} {m} h x =
      let z : f - 0 ≡ f = omega arith in
      ap (λ (i : ℕ). take d (drop ((2 * i + top_row m) * d) (in_order row (length xs) xs))) (sym z)
      ∙ node_row x (length xs) xs refl h (omega arith) ∙ ap (λ (i : ℕ). row (take m (drop i xs))) z

-- ---- of a task

pub tick_at : (f : ℕ → ℕ) (a n i : ℕ) → i < n → get_or (map f (count_from a n)) i 0 ≡ f (a + i)
tick_at f a zero i h = absurd (omega arith)
tick_at f a (suc n) zero h = let z : a ≡ a + 0 = omega arith in ap f z
tick_at f a (suc n) (suc i) h = let z : suc a + i ≡ a + suc i = omega arith in tick_at f (suc a) n i (omega arith) ∙ ap f z

-- the loads of a range stand in row 2 first + top
pub stretch_cell : (k : Task) (d : ℕ) {first len : ℕ} → 0 < length (paths_of k d) → Node 0 (length (paths_of k d)) first len → (t : ℕ) → 1 ≤ t → t ≤ d
    → get_or (stretch_of k d) ((2 * first + top_row len) * d + (t - 1)) 0 ≡ range_load (load k) (take len (drop first (paths_of k d))) t
unfolding stretch_of
stretch_cell k d {first} {len} h x t l u =
    let z : 1 + (t - 1) ≡ t = omega arith in
    let o = (2 * first + top_row len) * d in
    let r = take len (drop first (paths_of k d)) in
    sym (get_or-take d (drop o (stretch_of k d)) (t - 1) 0 (omega arith) ∙ get_or-drop o (stretch_of k d) (t - 1) 0)
    ∙ ap (λ (cells : List ℕ). get_or cells (t - 1) 0)
    (order_node (range_row k d) d (λ ys. length-map (ticks d) (range_load (load k) ys) ∙ length-count_from 1 d) (paths_of k d) h x)
    ∙ tick_at (range_load (load k) r) 1 d (t - 1) (omega arith) ∙ ap (range_load (load k) r) z

-- the same, where each path stands beside its task
pub listed-cell : (k : Task) (d : ℕ) {first len : ℕ} → 0 < length (paths_of k d) → Node 0 (length (paths_of k d)) first len → (t : ℕ) → 1 ≤ t → t ≤ d
    → get_or (stretch_of k d) ((2 * first + top_row len) * d + (t - 1)) 0 ≡ range_load load_of (take len (drop first (listed d k))) t
listed-cell k d {first} {len} h x t l u =
    let mk : Path → Listed = λ (w : Path). record { task = unmasked k; path = w } in
    let r = take len (drop first (paths_of k d)) in
    stretch_cell k d h x t l u
    ∙ sym (ap (λ (y : List Listed). range_load load_of y t) (ap (take len) (drop-map mk first (paths_of k d)) ∙ take-map mk len (drop first (paths_of k d)))
    ∙ ap largest (map-map (λ (y : Listed). load_of y t) mk r)
    ∙ ap (λ (f : Path → ℕ). largest (map f r)) (fun_ext (λ (w : Path). load-unmasked k w t)))
