-- The larger of two rows, cell by cell.
use mathlib.Core.Path.{◌≡◌, refl, sym, ap, ap₂, ◌∙◌}
use Prim.Native.Nat.{ℕ, zero, suc, ◌+◌, ◌≤◌, ◌<◌, max}
use native.Mathlib.Omega.{arith}
use mathlib.Core.List.{List, [], ◌∷◌, ◌++◌}
use lib.ListN.{length, get_or, take, drop, set, replicate, length-replicate, length-drop}
use lib.Seq.{sets, length-take-le, get_or-drop, get_or-take}
use Rattle.meaning.proofs.Stores.{copy_more, sets-before, sets_after}
use Rattle.ranges.specs.Stretch.{larger_cells, largest_row}

pub length_larger : (xs ys : List ℕ) → length (larger_cells xs ys) ≡ length xs
length_larger [] ys = refl
length_larger (x ∷ xs) [] = refl
length_larger (x ∷ xs) (y ∷ ys) = ap suc (length_larger xs ys)

get_or_larger : (xs ys : List ℕ) (t : ℕ) → length xs ≡ length ys → get_or (larger_cells xs ys) t 0 ≡ max (get_or xs t 0) (get_or ys t 0)
get_or_larger [] [] t h = omega arith
get_or_larger [] (y ∷ ys) t h = absurd (omega arith)
get_or_larger (x ∷ xs) [] t h = absurd (omega arith)
get_or_larger (x ∷ xs) (y ∷ ys) zero h = refl
get_or_larger (x ∷ xs) (y ∷ ys) (suc t) h = get_or_larger xs ys t (omega arith)

larger_swap : (xs ys zs : List ℕ) → larger_cells (larger_cells xs ys) zs ≡ larger_cells (larger_cells xs zs) ys
larger_swap [] ys zs = refl
larger_swap (x ∷ xs) [] [] = refl
larger_swap (x ∷ xs) [] (z ∷ zs) = refl
larger_swap (x ∷ xs) (y ∷ ys) [] = refl
larger_swap (x ∷ xs) (y ∷ ys) (z ∷ zs) =
    let q : max (max x y) z ≡ max (max x z) y = omega arith in
    ap₂ (λ (a : ℕ) (b : List ℕ). a ∷ b) q (larger_swap xs ys zs)

pub larger_zeros : (d : ℕ) (ys : List ℕ) → length ys ≡ d → larger_cells (replicate d 0) ys ≡ ys
larger_zeros zero [] h = refl
larger_zeros zero (y ∷ ys) h = absurd (omega arith)
larger_zeros (suc d) [] h = absurd (omega arith)
larger_zeros (suc d) (y ∷ ys) h =
    let q : max 0 y ≡ y = omega arith in
    ap₂ (λ (a : ℕ) (b : List ℕ). a ∷ b) q (larger_zeros d ys (omega arith))

pub length-largest : (d : ℕ) (xs : List (List ℕ)) → length (largest_row d xs) ≡ d
length-largest d [] = length-replicate d 0
length-largest d (x ∷ xs) = length_larger (largest_row d xs) x ∙ length-largest d xs

pub largest-append : (d : ℕ) (xs ys : List (List ℕ)) → largest_row d (xs ++ ys) ≡ larger_cells (largest_row d xs) (largest_row d ys)
largest-append d [] ys = sym (larger_zeros d (largest_row d ys) (length-largest d ys))
largest-append d (x ∷ xs) ys = ap (λ (z : List ℕ). larger_cells z x) (largest-append d xs ys) ∙ larger_swap (largest_row d xs) (largest_row d ys) x

-- ---- the loop of `larger_row`

abbrev pub pair_larger : List ℕ → ℕ → ℕ → ℕ → List ℕ
pair_larger P a b d = larger_cells (take d (drop a P)) (take d (drop b P))

module _ (P : List ℕ) (o a b d : ℕ) (ha : a + d ≤ o) (hb : o + d ≤ b) (hl : b + d ≤ length P) where
  len_a : length (take d (drop a P)) ≡ d
  len_a = length-take-le d (drop a P) (omega (arith, length-drop a P))

  len_b : length (take d (drop b P)) ≡ d
  len_b = length-take-le d (drop b P) (omega (arith, length-drop b P))

  pub pair_length : length (pair_larger P a b d) ≡ d
  pair_length = length_larger (take d (drop a P)) (take d (drop b P)) ∙ len_a

  pub larger_more : (m : List ℕ) (t z : ℕ) → t < d → m ≡ sets P o (take t (pair_larger P a b d)) → z ≡ max (get_or m (a + t) 0) (get_or m (b + t) 0)
      → set m (o + t) z ≡ sets P o (take (t + 1) (pair_larger P a b d))
  larger_more m t z h e ez =
      let l : length (take t (pair_larger P a b d)) ≡ t = length-take-le t (pair_larger P a b d) (omega (arith, pair_length)) in
      let ra : get_or m (a + t) 0 ≡ get_or (take d (drop a P)) t 0 =
      ap (λ (w : List ℕ). get_or w (a + t) 0) e ∙ sets-before (take t (pair_larger P a b d)) P o (a + t) (omega arith)
      ∙ sym (get_or-take d (drop a P) t 0 h ∙ get_or-drop a P t 0) in
      let rb : get_or m (b + t) 0 ≡ get_or (take d (drop b P)) t 0 =
      ap (λ (w : List ℕ). get_or w (b + t) 0) e ∙ sets_after (take t (pair_larger P a b d)) P o (b + t) (omega arith)
      ∙ sym (get_or-take d (drop b P) t 0 h ∙ get_or-drop b P t 0) in
      let q : z ≡ get_or (pair_larger P a b d) t 0 = ez ∙ ap₂ max ra rb ∙ sym (get_or_larger (take d (drop a P)) (take d (drop b P)) t (len_a ∙ sym len_b)) in
      ap (λ (w : ℕ). set m (o + t) w) q ∙ copy_more P m (pair_larger P a b d) o t (omega (arith, pair_length)) e
