-- Each group's list of the single choices before it is right: they are those of the groups that stand before it in the walk's order.
use mathlib.Core.Path.{◌≡◌, refl, sym, ap, ap₂, subst, ◌∙◌}
use Prim.Native.Nat.{ℕ, zero, suc, ◌≤◌}
use native.Mathlib.Omega.{arith}
use mathlib.Core.Bool.{Bool, true, false}
use mathlib.Core.List.{List, [], ◌∷◌, ◌++◌, map, append-nil, append_assoc}
use lib.ListN.{length}
use lib.Dec.{T}
use Rattle.meaning.specs.Lists.{gather, sum}
use Rattle.meaning.specs.Groups.{single, choices, Spot, Placed, first_side, second_side, groups_from, all_groups}
use Rattle.meaning.specs.Walk.{full, heads, own_choice, InOrder}
use Rattle.meaning.proofs.Lists.{gather_append}
use Rattle.meaning.proofs.Groups.{first_part_lem, second_part_lem, full_child, excess, excess_le, excess_single, excess_child, split_choices, single_choice}
use Rattle.meaning.proofs.Counting.{put, under, groups_single, groups_split}

module _ {X : Type 0} where
  -- the single choices of a list of groups
  abbrev singles : List (Placed X) → List (List X)
  singles qs = gather own_choice qs

  order-append : (before : List (List X)) (xs ys : List (Placed X)) → InOrder before xs → InOrder (before ++ singles xs) ys → InOrder before (xs ++ ys)
  order-append before [] ys p q = subst (λ (l : List (List X)). InOrder l ys) (append-nil before) q
  order-append before (x ∷ xs) ys p q = (
    p.0,
    order-append (before ++ own_choice x) xs ys p.1
        (subst (λ (l : List (List X)). InOrder l ys) (sym (append_assoc before (own_choice x) (singles xs))) q),
  )

  own_single : (parents : List (Spot X)) (p : Spot X) → single p.group ≡ true → own_choice (put parents p) ≡ heads p.group ∷ []
  own_single parents p q = rw q

  own_none : (parents : List (Spot X)) (p : Spot X) → single p.group ≡ false → own_choice (put parents p) ≡ []
  own_none parents p q = rw q

  one_single : (n : ℕ) (parents : List (Spot X)) (p : Spot X) → T (full p.group)
      → single p.group ≡ true → singles (groups_from n parents p) ≡ choices p.group
  one_single n parents p f q =
      ap singles (groups_single n parents p q) ∙ append-nil (own_choice (put parents p)) ∙ own_single parents p q ∙ sym (single_choice p.group f q)

  -- the groups of a side have its choices
  singles_are : (n : ℕ) (parents : List (Spot X)) (p : Spot X) → T (full p.group)
      → excess p.group ≤ n → singles (groups_from n parents p) ≡ choices p.group
  singles_are zero parents p f x = one_single zero parents p f (excess_single p.group x)
  singles_are (suc n) parents p f x =
      go (λ q. singles_are n (p ∷ parents) (first_side p) (full_child first_part_lem p.group f) (omega (arith, excess_child first_part_lem p.group q)))
      (λ q. singles_are n (p ∷ parents) (second_side p) (full_child second_part_lem p.group f) (omega (arith, excess_child second_part_lem p.group q)))
      (single p.group) refl
    where
      go : (single p.group ≡ false → singles (groups_from n (p ∷ parents) (first_side p)) ≡ choices (first_side p).group)
          → (single p.group ≡ false → singles (groups_from n (p ∷ parents) (second_side p)) ≡ choices (second_side p).group)
          → (b : Bool) → single p.group ≡ b → singles (groups_from (suc n) parents p) ≡ choices p.group
      go l r true q = one_single (suc n) parents p f q
      go l r false q =
          ap singles (groups_split n parents p q) ∙ ap (λ (cs : List (List X)). cs ++ singles (under n parents p)) (own_none parents p q)
          ∙ gather_append own_choice (groups_from n (p ∷ parents) (first_side p)) (groups_from n (p ∷ parents) (second_side p))
          ∙ ap₂ ◌++◌ (l q) (r q) ∙ split_choices p.group q

  groups-order : (n : ℕ) (parents : List (Spot X)) (p : Spot X) → T (full p.group) → excess p.group ≤ n → InOrder p.before (groups_from n parents p)
  groups-order zero parents p f x = (refl, tt)
  groups-order (suc n) parents p f x =
      go (λ q. groups-order n (p ∷ parents) (first_side p) (full_child first_part_lem p.group f) (omega (arith, excess_child first_part_lem p.group q)))
      (λ q. groups-order n (p ∷ parents) (second_side p) (full_child second_part_lem p.group f) (omega (arith, excess_child second_part_lem p.group q)))
      (single p.group) refl
    where
      go : (single p.group ≡ false → InOrder p.before (groups_from n (p ∷ parents) (first_side p)))
          → (single p.group ≡ false → InOrder (second_side p).before (groups_from n (p ∷ parents) (second_side p)))
          → (b : Bool) → single p.group ≡ b → InOrder p.before (groups_from (suc n) parents p)
      go l r true q = rw (groups_single (suc n) parents p q) (refl, tt)
      go l r false q =
          rw (groups_split n parents p q) (
            refl,
            subst (λ (cs : List (List X)). InOrder cs (under n parents p))
                (sym (ap (λ (cs : List (List X)). p.before ++ cs) (own_none parents p q) ∙ append-nil p.before))
                (order-append p.before (groups_from n (p ∷ parents) (first_side p)) (groups_from n (p ∷ parents) (second_side p)) (l q)
                (subst (λ (cs : List (List X)). InOrder (p.before ++ cs) (groups_from n (p ∷ parents) (second_side p)))
                (sym (singles_are n (p ∷ parents) (first_side p) (full_child first_part_lem p.group f) (omega (arith, excess_child first_part_lem p.group q))))
                (r q))),
          )

  pub all-order : (top : List (List X)) → T (full top) → InOrder [] (all_groups top)
  all-order top f = groups-order (sum (map length top)) [] (record { group = top; before = [] }) f (excess_le top)
