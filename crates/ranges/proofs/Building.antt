-- The build of a range's rows from those of its parts.
use mathlib.Core.Path.{◌≡◌, refl, sym, ap, ap₂, ◌∙◌}
use Prim.Native.Nat.{ℕ, zero, suc, ◌+◌, ◌-◌, ◌*◌, ◌≤◌, ◌<◌}
use native.Mathlib.Nat.{add-mul, one-mul, zero-mul, suc-mul, mul_assoc, mul_comm}
use native.Mathlib.Omega.{arith}
use mathlib.Core.List.{List, [], ◌∷◌, ◌++◌, append_assoc, append-nil}
use lib.ListN.{length, take, drop, length-append, length-drop, drop_of_length-le}
use lib.Seq.{sets, sets-eq, length-take-le, take_at, drop_at, take-take, take-append-le, take_all, drop-drop, drop-append-add, take-append-add, drop-append-le}
use borrow.Rule.Slice.PartMut.{put_mid}
use Rattle.meaning.specs.Areas.{rows_for}
use Rattle.meaning.specs.Groups.{half, first_part, second_part}
use Rattle.meaning.proofs.Lists.{drop-take}
use Rattle.meaning.specs.Groups as Groups
use Rattle.ranges.specs.Stretch.{larger_cells, largest_row, stretch_cells, single_rows, in_order, built}
use Rattle.rows.specs.Order.{top_row}
use Rattle.ranges.proofs.LargerCells.{larger_zeros, length-largest, largest-append, pair_larger}
use Rattle.ranges.proofs.Rows.{cells_sum, in_order_one, in_order_two, order_fuel, order-length, order_row, top_fits}

pub single_count : (d n : ℕ) (P : List ℕ) → length (single_rows d n P) ≡ n
single_count d zero P = refl
single_count d (suc n) P = ap suc (single_count d n (drop (2 * d) P))

single_split : (d a b : ℕ) (P : List ℕ) → single_rows d (a + b) P ≡ single_rows d a P ++ single_rows d b (drop (a * (2 * d)) P)
single_split d zero b P =
    let z : 0 + b ≡ b = omega arith in
    ap (λ (n : ℕ). single_rows d n P) z ∙ ap (λ (n : ℕ). single_rows d b (drop n P)) (sym (zero-mul (2 * d)))
single_split d (suc a) b P =
    let z : suc a + b ≡ suc (a + b) = omega arith in
    let y : 2 * d + a * (2 * d) ≡ suc a * (2 * d) = omega (arith, suc-mul a (2 * d)) in
    ap (λ (n : ℕ). single_rows d n P) z
    ∙ ap (λ (w : List (List ℕ)). take d P ∷ w) (single_split d a b (drop (2 * d) P)
    ∙ ap (λ (w : List ℕ). single_rows d a (drop (2 * d) P) ++ single_rows d b w) (drop-drop (a * (2 * d)) (2 * d) P ∙ ap (λ (n : ℕ). drop n P) y))

cells_next : (d a : ℕ) → 0 < a → stretch_cells d (suc a) ≡ 2 * d + stretch_cells d a
cells_next d a h =
    let e : rows_for (suc a) ≡ 2 + rows_for a = omega arith in
    ap (λ (n : ℕ). n * d) e ∙ add-mul 2 (rows_for a) d

single_cut : (d a n : ℕ) (P : List ℕ) → stretch_cells d a ≤ n → single_rows d a (take n P) ≡ single_rows d a P
single_cut d zero n P h = refl
single_cut d (suc zero) n P h = ap (λ (w : List ℕ). w ∷ []) (take-take d n P (omega (arith, one-mul d)))
single_cut d (suc (suc a)) n P h =
    let s = cells_next d (suc a) (omega arith) in
    ap₂ (λ (w : List ℕ) (v : List (List ℕ)). w ∷ v) (take-take d n P (omega arith))
    (ap (single_rows d (suc a)) (drop-take (2 * d) n P) ∙ single_cut d (suc a) (n - 2 * d) (drop (2 * d) P) (omega arith))

pub built-length : (d c : ℕ) (Q A : List ℕ) → 0 < c → A ≡ built d c Q → length A ≡ stretch_cells d c
built-length d c Q A h e =
    let l = single_count d c Q in
    ap length e ∙ order-length (largest_row d) d (length-largest d) c (single_rows d c Q) (omega arith) (omega arith) ∙ ap (stretch_cells d) l

pub build_one : (d n : ℕ) (P : List ℕ) → n ≡ 1 → length P ≡ stretch_cells d n → P ≡ built d n P
build_one d n P h e =
    let l : length P ≡ d = e ∙ ap (stretch_cells d) h ∙ one-mul d in
    sym (in_order_one (largest_row d) n (single_rows d n P) (omega (arith, single_count d n P))
    ∙ ap (λ (m : ℕ). largest_row d (single_rows d m P)) h
    ∙ larger_zeros d (take d P) (length-take-le d P (omega arith))
    ∙ take_all d P (omega arith))

-- ---- the two parts of n paths: the first c of them, and the rest

-- the rows of the first part stand before o, those of the rest from o + d on, and each part's own row among its rows
pub record Parts (d n c : ℕ) (P : List ℕ) : Type 0 where
  pub some : 0 < c
  pub rest : c < n
  pub half : c ≡ Groups.half n
  pub cells : length P ≡ stretch_cells d c + d + stretch_cells d (n - c)
  pub own : top_row c * d + d ≤ stretch_cells d c
  pub own_rest : top_row (n - c) * d + d ≤ stretch_cells d (n - c)

pub parts : (d n c : ℕ) (P : List ℕ) → (n ≡ 1 → ⊥) → 0 < n → c ≡ half n → length P ≡ stretch_cells d n → Parts d n c P
parts d n c P one some e l =
    let z : c + (n - c) ≡ n = omega arith in
    let s = cells_sum d c (n - c) (omega arith) (omega arith) in
    let q = ap (stretch_cells d) z in
    record {
      some = omega arith;
      rest = omega arith;
      half = e;
      cells = omega arith;
      own = top_fits d c (omega arith);
      own_rest = top_fits d (n - c) (omega arith);
    }

-- what the stretch P is when the first part's rows have become A, and then the rest's B
abbrev pub first_built : ℕ → ℕ → List ℕ → List ℕ → List ℕ
first_built d c P A = A ++ drop (stretch_cells d c) P

abbrev pub rest_of : ℕ → ℕ → List ℕ → List ℕ
rest_of d c X = take (length X - (stretch_cells d c + d)) (drop (stretch_cells d c + d) X)

abbrev pub both_built : ℕ → ℕ → List ℕ → List ℕ → List ℕ → List ℕ
both_built d c P A B = put_mid (stretch_cells d c + d) (length (first_built d c P A) - (stretch_cells d c + d)) (first_built d c P A) B

module _ {d n c : ℕ} {P : List ℕ} (g : Parts d n c P) (A : List ℕ) (eA : A ≡ built d c (take (stretch_cells d c) P)) where
  abbrev o : ℕ
  o = stretch_cells d c

  abbrev m : ℕ
  m = n - c

  -- the row between the parts
  abbrev own : List ℕ
  own = take d (drop o P)

  len_A : length A ≡ o
  len_A = built-length d c (take o P) A g.some eA

  pub first_back : length (first_built d c P A) ≡ length P
  first_back = omega (arith, length-append A (drop o P), len_A, length-drop o P, g.cells)

  second : drop (o + d) (first_built d c P A) ≡ drop (o + d) P
  second =
      ap (λ (k : ℕ). drop (k + d) (first_built d c P A)) (sym len_A)
      ∙ drop-append-add A (drop o P) d ∙ drop-drop d o P

  second_len : length (drop (o + d) P) ≡ stretch_cells d m
  second_len = omega (arith, length-drop (o + d) P, g.cells)

  second_part_lem : rest_of d c (first_built d c P A) ≡ drop (o + d) P
  second_part_lem =
      let f = first_back in
      let s = second_len in
      let k = length (first_built d c P A) - (o + d) in
      ap (take k) second ∙ take_all k (drop (o + d) P) (omega (arith, g.cells))

  pub second_size : length (rest_of d c (first_built d c P A)) ≡ stretch_cells d m
  second_size = ap length second_part_lem ∙ second_len

  module _ (B : List ℕ) (eB' : B ≡ built d m (rest_of d c (first_built d c P A))) where
    e_b : B ≡ built d m (drop (o + d) P)
    e_b = eB' ∙ ap (built d m) second_part_lem

    len_B : length B ≡ stretch_cells d m
    len_B = built-length d m (drop (o + d) P) B (omega (arith, g.rest)) e_b

    len_own : length own ≡ d
    len_own = length-take-le d (drop o P) (omega (arith, length-drop o P, g.cells))

    len_front : length (A ++ own) ≡ o + d
    len_front = omega (arith, length-append A own, len_A, len_own)

    back : both_built d c P A B ≡ A ++ (own ++ B)
    back =
        let f = first_back in
        let k = length (first_built d c P A) - (o + d) in
        let a : take (o + d) (first_built d c P A) ≡ A ++ own =
        ap (λ (j : ℕ). take (j + d) (first_built d c P A)) (sym len_A) ∙ take-append-add A (drop o P) d in
        let b : drop k (drop (o + d) (first_built d c P A)) ≡ [] =
        drop_of_length-le (drop (o + d) (first_built d c P A)) {i = k} (omega (arith, ap length second, second_len, g.cells)) in
        ap₂ (λ (x y : List ℕ). x ++ (B ++ y)) a b ∙ ap (λ (y : List ℕ). (A ++ own) ++ y) (append-nil B) ∙ append_assoc A own B

    pub both_back : length (both_built d c P A B) ≡ length P
    both_back = ap length back ∙ omega (arith, length-append A (own ++ B), length-append own B, len_A, len_B, len_own, g.cells)

    -- the single paths' rows in two
    abbrev singles_a : List (List ℕ)
    singles_a = single_rows d c (take o P)

    abbrev singles_b : List (List ℕ)
    singles_b = single_rows d m (drop (o + d) P)

    singles_two : single_rows d n P ≡ singles_a ++ singles_b
    singles_two =
        let r = g.rest in
        let s = g.some in
        let z : c + m ≡ n = omega arith in
        let c1 : 2 * c ≡ rows_for c + 1 = omega arith in
        let w : c * (2 * d) ≡ o + d =
        sym (mul_assoc c 2 d) ∙ ap (λ (k : ℕ). k * d) (mul_comm c 2 ∙ c1) ∙ add-mul (rows_for c) 1 d ∙ ap (λ (k : ℕ). o + k) (one-mul d) in
        ap (λ (k : ℕ). single_rows d k P) (sym z)
        ∙ single_split d c m P
        ∙ ap₂ (λ (x : List (List ℕ)) (k : ℕ). x ++ single_rows d m (drop k P)) (sym (single_cut d c o P (omega arith))) w

    -- the row between becomes the larger of the parts' own rows
    module _ (T : List ℕ) (eT : T ≡ sets (both_built d c P A B) o (pair_larger (both_built d c P A B) (top_row c * d) (o + d + top_row m * d) d)) where
      row_A : take d (drop (top_row c * d) (both_built d c P A B)) ≡ largest_row d singles_a
      row_A =
          let l = len_A in
          let w = g.own in
          let s = g.some in
          let k = single_count d c (take o P) in
          ap (λ (x : List ℕ). take d (drop (top_row c * d) x)) back
          ∙ ap (take d) (drop-append-le (top_row c * d) A (own ++ B) (omega arith))
          ∙ take-append-le d (drop (top_row c * d) A) (own ++ B) (omega (arith, length-drop (top_row c * d) A))
          ∙ ap₂ (λ (j : ℕ) (x : List ℕ). take d (drop (top_row j * d) x)) (sym k) eA
          ∙ order_row (largest_row d) d (length-largest d) c singles_a (omega arith) (omega arith)

      row_B : take d (drop (o + d + top_row m * d) (both_built d c P A B)) ≡ largest_row d singles_b
      row_B =
          let r = g.rest in
          let k = single_count d m (drop (o + d) P) in
          ap₂ (λ (j : ℕ) (x : List ℕ). take d (drop (j + top_row m * d) x)) (sym len_front) (back ∙ sym (append_assoc A own B))
          ∙ ap (take d) (drop-append-add (A ++ own) B (top_row m * d))
          ∙ ap₂ (λ (j : ℕ) (x : List ℕ). take d (drop (top_row j * d) x)) (sym k) e_b
          ∙ order_row (largest_row d) d (length-largest d) m singles_b (omega arith) (omega arith)

      row_AB : pair_larger (both_built d c P A B) (top_row c * d) (o + d + top_row m * d) d ≡ largest_row d (single_rows d n P)
      row_AB = ap₂ larger_cells row_A row_B ∙ sym (largest-append d singles_a singles_b) ∙ ap (largest_row d) (sym singles_two)

      stored : T ≡ A ++ (largest_row d (single_rows d n P) ++ B)
      stored =
          let top = largest_row d (single_rows d n P) in
          let t : length top ≡ d = length-largest d (single_rows d n P) in
          let x = both_back in
          let l : length (A ++ own) ≡ o + length top = omega (arith, len_front) in
          eT ∙ ap (sets (both_built d c P A B) o) row_AB
          ∙ sets-eq top (both_built d c P A B) o (omega (arith, g.cells))
          ∙ ap₂ (λ (w v : List ℕ). (w ++ top) ++ v)
          (ap (take o) back ∙ take_at A (own ++ B) o len_A)
          (ap (drop (o + length top)) (back ∙ sym (append_assoc A own B)) ∙ drop_at (A ++ own) B (o + length top) l)
          ∙ append_assoc A top B

      build_two : T ≡ built d n P
      build_two =
          let r = g.rest in
          let s = g.some in
          let k = single_count d n P in
          let k1 = single_count d c (take o P) in
          let k2 = single_count d m (drop (o + d) P) in
          let hl : half (length (single_rows d n P)) ≡ c = ap half k ∙ sym g.half in
          let f : first_part (single_rows d n P) ≡ singles_a = ap₂ take hl singles_two ∙ take_at singles_a singles_b c k1 in
          let e : second_part (single_rows d n P) ≡ singles_b = ap₂ drop hl singles_two ∙ drop_at singles_a singles_b c k1 in
          let L : List (List ℕ) → List ℕ = largest_row d in
          stored ∙ sym (
          order_fuel L n (suc n) (single_rows d n P) (omega arith) (omega arith)
          ∙ in_order_two L n (single_rows d n P) (omega arith)
          ∙ ap₂ (λ (x y : List ℕ). x ++ (L (single_rows d n P) ++ y))
          (ap (in_order L n) f ∙ order_fuel L n c singles_a (omega arith) (omega arith) ∙ sym eA)
          (ap (in_order L n) e ∙ order_fuel L n m singles_b (omega arith) (omega arith) ∙ sym e_b))

    pub build_joined : (T : List ℕ) (a b : ℕ) → a ≡ top_row c → b ≡ top_row m
        → T ≡ sets (both_built d c P A B) o (pair_larger (both_built d c P A B) (a * d) (o + d + b * d) d) → T ≡ built d n P
    build_joined T a b ea eb e =
        build_two T (e ∙ ap₂ (λ (x y : ℕ). sets (both_built d c P A B) o (pair_larger (both_built d c P A B) (x * d) (o + d + y * d) d)) ea eb)
