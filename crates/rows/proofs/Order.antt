-- Where a range of the splitting lies, and its row among the rows.
use mathlib.Core.Path.{◌≡◌, refl, sym, ap}
use Prim.Native.Nat.{ℕ, suc, ◌+◌, ◌*◌, ◌≤◌, ◌<◌}
use native.Mathlib.Nat.{mul-le-mul_right, mul-le-mul, suc-mul}
use native.Mathlib.Omega.{arith}
use mathlib.Core.Bool.{Bool, true, false}
use lib.Dec.{ltb}
use borrow.Author.Tests.{lt-ltb, le-ltb, ltb-true}
use Rattle.meaning.specs.Bounds.{largest_d, most_paths}
use Rattle.meaning.specs.Lists.{pick}
use Rattle.meaning.specs.Areas.{rows_for}
use Rattle.meaning.specs.Groups.{half}
use Rattle.rows.specs.Order.{Node, top, low, high, top_row}
use Rattle.rows.specs.Ranges.{range, row_of, row_start}

pub node_in : {a n f m : ℕ} → Node a n f m → (a ≤ f) × (f + m ≤ a + n)
node_in (top p q) = (omega arith, omega arith)
node_in (low h x) = let r = node_in x in (omega arith, omega arith)
node_in (high h x) = let r = node_in x in (omega arith, omega arith)

pub node_pos : {a n f m : ℕ} → Node a n f m → 0 < n → 0 < m
node_pos (top p q) l = omega arith
node_pos (low h x) l = node_pos x (omega arith)
node_pos (high h x) l = node_pos x (omega arith)

pub top_one : (n : ℕ) → n ≤ 1 → 0 ≡ top_row n
top_one n h = sym (ap (λ (b : Bool). pick b (rows_for (half n)) 0) (le-ltb 1 n h))

pub top_two : (n : ℕ) → 1 < n → rows_for (half n) ≡ top_row n
top_two n h = sym (ap (λ (b : Bool). pick b (rows_for (half n)) 0) (lt-ltb 1 n h))

-- a range's row is one of its rows
pub top_in : (n : ℕ) → 0 < n → suc (top_row n) ≤ rows_for n
top_in n p = go (ltb 1 n) refl
  where
    go : (v : Bool) → ltb 1 n ≡ v → suc (pick v (rows_for (half n)) 0) ≤ rows_for n
    go true e = omega (arith, ltb-true 1 n e)
    go false e = omega arith

pub top_small : (n : ℕ) → top_row n ≤ 2 * n
top_small n = go (ltb 1 n) refl
  where
    go : (v : Bool) → ltb 1 n ≡ v → pick v (rows_for (half n)) 0 ≤ 2 * n
    go true e = omega (arith, ltb-true 1 n e)
    go false e = omega arith

-- ---- the row of a range, in a stretch of the rows of n paths

row_in : (f m : ℕ) {n : ℕ} → f + m ≤ n → 0 < m → suc (row_of (range f m)) ≤ rows_for n
row_in f m l p = omega (arith, top_in m p)

pub row_end : (d r f m : ℕ) {n : ℕ} → f + m ≤ n → 0 < m → row_start d r (range f m) + d ≤ r + rows_for n * d
unfolding row_start
row_end d r f m {n} l p =
    let k : suc (row_of (range f m)) * d ≤ rows_for n * d = mul-le-mul_right d (row_in f m l p) in
    omega (arith, suc-mul (row_of (range f m)) d)

-- its cells, counted from the stretch's start, are few
pub row_small : (f n d : ℕ) → f + n ≤ most_paths → d ≤ largest_d → row_of (range f n) * d ≤ 2 * most_paths * largest_d
row_small f n d h k = let r : row_of (range f n) ≤ 2 * most_paths = omega (arith, top_small n) in mul-le-mul r k
