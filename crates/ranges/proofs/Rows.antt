-- The rows of a range and its parts, in order.
use mathlib.Core.Path.{◌≡◌, refl, sym, ap, ap₂, ◌∙◌}
use Prim.Native.Nat.{ℕ, zero, suc, ◌+◌, ◌-◌, ◌*◌, ◌≤◌, ◌<◌}
use native.Mathlib.Nat.{add-mul, one-mul, zero-mul, le_trans, mul-le-mul_right, suc-mul}
use native.Mathlib.Omega.{arith}
use native.Mathlib.Decide.{dec_lt}
use borrow.Author.Tests.{lt-ltb, le-ltb}
use mathlib.Core.Bool.{Bool}
use mathlib.Core.List.{List, ◌++◌}
use lib.ListN.{length, take, drop, length-append, length-drop}
use lib.Seq.{length-take-le, take_at, drop_at, take_all}
use Rattle.meaning.specs.Lists.{pick}
use Rattle.meaning.specs.Areas.{rows_for}
use Rattle.meaning.specs.Groups.{half, first_part, second_part}
use Rattle.ranges.specs.Stretch.{stretch_cells, inside, in_order}
use Rattle.rows.specs.Order.{top_row}
use Rattle.rows.proofs.Order.{top_in}

-- ---- rows in order

pub cells_sum : (d a b : ℕ) → 0 < a → 0 < b → stretch_cells d a + (d + stretch_cells d b) ≡ stretch_cells d (a + b)
cells_sum d a b p q =
    let e : rows_for (a + b) ≡ rows_for a + (1 + rows_for b) = omega arith in
    sym (ap (λ (n : ℕ). n * d) e ∙ add-mul (rows_for a) (1 + rows_for b) d
    ∙ ap (λ (n : ℕ). stretch_cells d a + n) (add-mul 1 (rows_for b) d ∙ ap (λ (n : ℕ). n + stretch_cells d b) (one-mul d)))

module _ {X : Type 0} (row : List X → List ℕ) where
  pub in_order_one : (n : ℕ) (xs : List X) → length xs ≤ 1 → in_order row n xs ≡ row xs
  unfolding in_order
  in_order_one zero xs h = refl
  in_order_one (suc n) xs h = ap (λ (b : Bool). inside row b (in_order row n (first_part xs)) (row xs) (in_order row n (second_part xs))) (le-ltb 1 (length xs) h)

  pub in_order_two : (n : ℕ) (xs : List X) → 1 < length xs → in_order row (suc n) xs ≡ in_order row n (first_part xs) ++ (row xs ++ in_order row n (second_part xs))
  unfolding in_order
  in_order_two n xs h = ap (λ (b : Bool). inside row b (in_order row n (first_part xs)) (row xs) (in_order row n (second_part xs))) (lt-ltb 1 (length xs) h)

  pub first-length : (xs : List X) → length (first_part xs) ≡ half (length xs)
  first-length xs = length-take-le (half (length xs)) xs (omega arith)

  pub second_length : (xs : List X) → length (second_part xs) ≡ length xs - half (length xs)
  second_length xs = length-drop (half (length xs)) xs

  pub order_fuel : (n m : ℕ) (xs : List X) → length xs ≤ n → length xs ≤ m → in_order row n xs ≡ in_order row m xs
  order_fuel zero m xs a b = in_order_one zero xs (omega arith) ∙ sym (in_order_one m xs (omega arith))
  order_fuel (suc n) zero xs a b = in_order_one (suc n) xs (omega arith) ∙ sym (in_order_one zero xs (omega arith))
  order_fuel (suc n) (suc m) xs a b =
      elim (dec_lt 1 (length xs)) [
        | yes h ↦ in_order_two n xs h
            ∙ ap₂ (λ (p q : List ℕ). p ++ (row xs ++ q))
            (order_fuel n m (first_part xs) (omega (arith, first-length xs)) (omega (arith, first-length xs)))
            (order_fuel n m (second_part xs) (omega (arith, second_length xs)) (omega (arith, second_length xs)))
            ∙ sym (in_order_two m xs h)
        | no h ↦ in_order_one (suc n) xs (omega arith) ∙ sym (in_order_one (suc m) xs (omega arith))
      ]

  module _ (d : ℕ) (hr : (ys : List X) → length (row ys) ≡ d) where
    pub order-length : (n : ℕ) (xs : List X) → 0 < length xs → length xs ≤ n → length (in_order row n xs) ≡ stretch_cells d (length xs)
    order-length zero xs p a = absurd (omega arith)
    order-length (suc n) xs p a =
        elim (dec_lt 1 (length xs)) [
          | yes h ↦ two h
              (order-length n (first_part xs) (omega (arith, first-length xs)) (omega (arith, first-length xs)))
              (order-length n (second_part xs) (omega (arith, second_length xs)) (omega (arith, second_length xs)))
          | no h ↦ let e : rows_for (length xs) ≡ 1 = omega arith in
              ap length (in_order_one (suc n) xs (omega arith)) ∙ hr xs ∙ sym (ap (λ (z : ℕ). z * d) e ∙ one-mul d)
        ]
      where
        two : 1 < length xs → length (in_order row n (first_part xs)) ≡ stretch_cells d (length (first_part xs))
            → length (in_order row n (second_part xs)) ≡ stretch_cells d (length (second_part xs))
            → length (in_order row (suc n) xs) ≡ stretch_cells d (length xs)
        two h x y =
            let f = first-length xs in
            let s = second_length xs in
            let z : length (first_part xs) + length (second_part xs) ≡ length xs = omega arith in
            ap length (in_order_two n xs h)
            ∙ length-append (in_order row n (first_part xs)) (row xs ++ in_order row n (second_part xs))
            ∙ ap₂ ◌+◌ x (length-append (row xs) (in_order row n (second_part xs)) ∙ ap₂ ◌+◌ (hr xs) y)
            ∙ cells_sum d (length (first_part xs)) (length (second_part xs)) (omega arith) (omega arith)
            ∙ ap (stretch_cells d) z

    -- where the row of the whole range lies
    pub order_row : (n : ℕ) (xs : List X) → 0 < length xs → length xs ≤ n → take d (drop (top_row (length xs) * d) (in_order row n xs)) ≡ row xs
    order_row zero xs p a = absurd (omega arith)
    order_row (suc n) xs p a =
        elim (dec_lt 1 (length xs)) [
          | yes h ↦
              let f = first-length xs in
              let l : length (in_order row n (first_part xs)) ≡ top_row (length xs) * d = order-length n (first_part xs) (omega arith) (omega arith)
              ∙ ap (stretch_cells d) f ∙ ap (λ (b : Bool). pick b (rows_for (half (length xs))) 0 * d) (sym (lt-ltb 1 (length xs) h)) in
              ap (λ (z : List ℕ). take d (drop (top_row (length xs) * d) z)) (in_order_two n xs h)
              ∙ ap (take d) (drop_at (in_order row n (first_part xs)) (row xs ++ in_order row n (second_part xs)) (top_row (length xs) * d) l)
              ∙ take_at (row xs) (in_order row n (second_part xs)) d (hr xs)
          | no h ↦
              ap (λ (b : Bool). take d (drop (pick b (rows_for (half (length xs))) 0 * d) (in_order row (suc n) xs))) (le-ltb 1 (length xs) (omega arith))
              ∙ ap (λ (z : ℕ). take d (drop z (in_order row (suc n) xs))) (zero-mul d)
              ∙ ap (take d) (in_order_one (suc n) xs (omega arith)) ∙ take_all d (row xs) (omega (arith, hr xs))
        ]

pub top_fits : (d c : ℕ) → 0 < c → top_row c * d + d ≤ stretch_cells d c
top_fits d c h = le_trans (omega (arith, suc-mul (top_row c) d)) (mul-le-mul_right {m = suc (top_row c)} d (top_in c h))
