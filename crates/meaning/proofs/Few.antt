-- C is at most 2P - 1: there are no more groups.
use mathlib.Core.Path.{◌≡◌, refl, sym, ap, ◌∙◌}
use Prim.Native.Nat.{ℕ, zero, suc, ◌+◌, ◌-◌, ◌*◌, ◌≤◌}
use native.Mathlib.Nat.{le_refl, mul-pos, mul-add, add-mul}
use native.Mathlib.Omega.{arith}
use mathlib.Core.Bool.{Bool, true, false, true≢false}
use mathlib.Core.List.{List, [], ◌∷◌, map}
use lib.ListN.{length, take-append-drop, length-append}
use lib.Dec.{T, ltb, ltb→lt}
use Rattle.meaning.specs.Lists.{all, sum}
use Rattle.meaning.specs.Groups.{half, first_part, second_part, long, single, Spot, Placed, first_side, second_side, groups_from, all_groups, is_witness}
use Rattle.meaning.specs.Groups.{not_after, counted, P}
use Rattle.meaning.specs.Walk.{first_child, second_child, full}
use Rattle.meaning.proofs.Lists.{both_left, both_right}
use Rattle.meaning.proofs.Firsts.{those_le, up_to_le}
use Rattle.meaning.proofs.Groups.{first_part_lem, second_part_lem, full_child}

module _ {X : Type 0} where
  parts-length : (r : List X) → length (first_part r) + length (second_part r) ≡ length r
  parts-length r = sym (length-append (first_part r) (second_part r)) ∙ ap length (take-append-drop (half (length r)) r)

  full_P : (g : List (List X)) → T (full g) → 1 ≤ P g
  full_P [] f = le_refl 1
  full_P (r ∷ g) f = mul-pos (ltb→lt 0 (length r) (both_left (ltb 0 (length r)) (full g) f)) (full_P g (both_right (ltb 0 (length r)) (full g) f))

  P_split : (g : List (List X)) → single g ≡ false → P (first_child g) + P (second_child g) ≡ P g
  P_split [] e = absurd (true≢false e)
  P_split (r ∷ g) e = go (λ q. P_split g q) (long r) refl
    where
      go : (single g ≡ false → P (first_child g) + P (second_child g) ≡ P g) → (b : Bool)
          → long r ≡ b → P (first_child (r ∷ g)) + P (second_child (r ∷ g)) ≡ P (r ∷ g)
      go ih true h = rw h (sym (add-mul (length (first_part r)) (length (second_part r)) (P g)) ∙ ap (λ (n : ℕ). n * P g) (parts-length r))
      go ih false h = rw h (sym (mul-add (length r) (P (first_child g)) (P (second_child g))) ∙ ap (λ (n : ℕ). length r * n) (ih (rw h at e)))

  groups_P : (n : ℕ) (parents : List (Spot X)) (p : Spot X) → T (full p.group) → length (groups_from n parents p) + 1 ≤ 2 * P p.group
  groups_P zero parents p f = omega (arith, full_P p.group f)
  groups_P (suc n) parents p f =
      go (groups_P n (p ∷ parents) (first_side p) (full_child first_part_lem p.group f))
      (groups_P n (p ∷ parents) (second_side p) (full_child second_part_lem p.group f)) (single p.group) refl
    where
      go : length (groups_from n (p ∷ parents) (first_side p)) + 1 ≤ 2 * P (first_child p.group)
          → length (groups_from n (p ∷ parents) (second_side p)) + 1 ≤ 2 * P (second_child p.group)
          → (b : Bool) → single p.group ≡ b → length (groups_from (suc n) parents p) + 1 ≤ 2 * P p.group
      go l r true h = rw (h, groups_from) (omega (arith, full_P p.group f))
      go l r false h = rw (h, groups_from) (rw length-append (omega (arith, P_split p.group h)))

-- whatever the test of the parents
pub counted_P : {X : Type 0} (load : X → ℕ → ℕ) (e d : ℕ) (test : Spot X → Bool) (top : List (List X))
    → T (full top) → counted load e d test top ≤ 2 * P top - 1
counted_P load e d test top f =
    omega (
      arith,
      groups_P (sum (map length top)) [] (record { group = top; before = [] }) f,
      up_to_le (is_witness load e d) (all_groups top),
      those_le (λ (q : Placed _). all test q.parents) (not_after load e d top),
    )
