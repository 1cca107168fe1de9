-- Counting the groups of one side of the walk, in the walk's order.
-- Which groups have the walk go below them is any test: document 01's C and that of the latest finish are two of them.
use mathlib.Core.Path.{◌≡◌, refl, sym, ap, ap₂, ◌∙◌}
use Prim.Native.Nat.{ℕ, zero, suc, ◌+◌, ◌≤◌}
use native.Mathlib.Omega.{arith}
use mathlib.Core.Bool.{Bool, true, false, ◌&&◌, ◌||◌}
use mathlib.Core.Option.{Option, none, some}
use mathlib.Core.List.{List, [], ◌∷◌, ◌++◌}
use lib.ListN.{length, length-append}
use lib.Dec.{T, ltb}
use Rattle.meaning.specs.Lists.{all, those, first_that, up_to}
use Rattle.meaning.specs.Groups.{choice_overloads, overloads, single, choices, Spot, Placed, first_side, second_side, groups_from, is_witness}
use Rattle.meaning.specs.Walk.{full, heads}
use Rattle.meaning.proofs.Lists.{and_false}
use Rattle.meaning.proofs.Firsts.{or_else, first_that-append, first_any, none_any, any, any_append, up_to_in, up_to_out, up_to-all, those-append, none_of}
use Rattle.meaning.proofs.Firsts.{none_of-append, none_kept}
use Rattle.meaning.proofs.Groups.{first_part_lem, second_part_lem, full_child, excess, excess_single, excess_child, split_choices, single_choice, single_finish}
use Rattle.meaning.proofs.Groups.{choice_late, group_late}

-- ---- the list of groups

module _ {X : Type 0} where
  abbrev pub put : List (Spot X) → Spot X → Placed X
  put parents p = record { spot = p; parents = parents }

  -- the groups below a group
  abbrev pub under : ℕ → List (Spot X) → Spot X → List (Placed X)
  under n parents p = groups_from n (p ∷ parents) (first_side p) ++ groups_from n (p ∷ parents) (second_side p)

  pub groups_single : (n : ℕ) (parents : List (Spot X)) (p : Spot X) → single p.group ≡ true → groups_from n parents p ≡ put parents p ∷ []
  groups_single zero parents p q = refl
  groups_single (suc n) parents p q = rw (q, groups_from)

  pub groups_split : (n : ℕ) (parents : List (Spot X)) (p : Spot X) → single p.group ≡ false
      → groups_from (suc n) parents p ≡ put parents p ∷ under n parents p
  groups_split n parents p q = rw (q, groups_from)

module _ {X : Type 0} (load : X → ℕ → ℕ) (e d : ℕ) where
  abbrev co : List X → Bool
  co c = choice_overloads load e d c

  abbrev is_w : Placed X → Bool
  is_w q = is_witness load e d q

  -- ---- there is a witness among the groups of a side exactly if a choice there overloads

  single_overloads : (g : List (List X)) → T (full g) → single g ≡ true → overloads load e d g ≡ co (heads g)
  single_overloads g f q = group_late load e d g ∙ ap (ltb d) (single_finish load e d g f q) ∙ sym (choice_late load e d (heads g))

  one_witness : (n : ℕ) (parents : List (Spot X)) (p : Spot X) → T (full p.group)
      → single p.group ≡ true → any is_w (groups_from n parents p) ≡ any co (choices p.group)
  one_witness n parents p f q =
      rw (groups_single n parents p q, single_choice p.group f q) (rw q (ap (λ (b : Bool). b || false) (single_overloads p.group f q)))

  pub some_witness : (n : ℕ) (parents : List (Spot X)) (p : Spot X) → T (full p.group)
      → excess p.group ≤ n → any is_w (groups_from n parents p) ≡ any co (choices p.group)
  some_witness zero parents p f x = one_witness zero parents p f (excess_single p.group x)
  some_witness (suc n) parents p f x =
      go (λ q. some_witness n (p ∷ parents) (first_side p) (full_child first_part_lem p.group f) (omega (arith, excess_child first_part_lem p.group q)))
      (λ q. some_witness n (p ∷ parents) (second_side p) (full_child second_part_lem p.group f) (omega (arith, excess_child second_part_lem p.group q)))
      (single p.group) refl
    where
      go : (single p.group ≡ false → any is_w (groups_from n (p ∷ parents) (first_side p)) ≡ any co (choices (first_side p).group))
          → (single p.group ≡ false → any is_w (groups_from n (p ∷ parents) (second_side p)) ≡ any co (choices (second_side p).group))
          → (b : Bool) → single p.group ≡ b → any is_w (groups_from (suc n) parents p) ≡ any co (choices p.group)
      go l r true q = one_witness (suc n) parents p f q
      go l r false q =
          rw (groups_split n parents p q)
          (rw q (any_append is_w (groups_from n (p ∷ parents) (first_side p)) (groups_from n (p ∷ parents) (second_side p)) ∙ ap₂ ◌||◌ (l q) (r q)
          ∙ sym (any_append co (choices (first_side p).group) (choices (second_side p).group)) ∙ ap (any co) (split_choices p.group q)))

  module _ (test : Spot X → Bool) where
    abbrev below : Placed X → Bool
    below q = all test q.parents

    -- how many of a list are counted
    abbrev pub kept : List (Placed X) → ℕ
    kept qs = length (those below (up_to is_w qs))

    -- a group whose parents pass the test is counted itself
    kept-first : (parents : List (Spot X)) (p : Spot X) (qs : List (Placed X)) → all test parents ≡ true → 1 ≤ kept (put parents p ∷ qs)
    kept-first parents p qs k = go (is_w (put parents p)) refl
      where
        go : (b : Bool) → is_w (put parents p) ≡ b → 1 ≤ kept (put parents p ∷ qs)
        go true q = rw (q, up_to) (rw k (omega arith))
        go false q = rw (q, up_to) (rw k (omega arith))

    pub kept_some : (n : ℕ) (parents : List (Spot X)) (p : Spot X) → all test parents ≡ true → 1 ≤ kept (groups_from n parents p)
    kept_some zero parents p k = kept-first parents p [] k
    kept_some (suc n) parents p k = go (single p.group) refl
      where
        go : (b : Bool) → single p.group ≡ b → 1 ≤ kept (groups_from (suc n) parents p)
        go true q = rw (groups_single (suc n) parents p q) (kept-first parents p [] k)
        go false q = rw (groups_split n parents p q) (kept-first parents p (under n parents p) k)

    pub kept_single : (n : ℕ) (parents : List (Spot X)) (p : Spot X) → all test parents ≡ true → single p.group ≡ true → kept (groups_from n parents p) ≡ 1
    kept_single n parents p k q = rw (groups_single n parents p q) (go (is_w (put parents p)) refl)
      where
        go : (b : Bool) → is_w (put parents p) ≡ b → kept (put parents p ∷ []) ≡ 1
        go true r = rw (r, up_to) (rw k)
        go false r = rw (r, up_to) (rw k)

    pub kept_split : (n : ℕ) (parents : List (Spot X)) (p : Spot X) → all test parents ≡ true
        → single p.group ≡ false → kept (groups_from (suc n) parents p) ≡ suc (kept (under n parents p))
    kept_split n parents p k q =
        let r : is_w (put parents p) ≡ false = ap (λ (b : Bool). b && overloads load e d p.group) q in
        rw (groups_split n parents p q) (rw (r, up_to) (rw k))

    -- nothing is counted below a group that fails the test
    blocked : (n : ℕ) (parents : List (Spot X)) (p : Spot X) → all test parents ≡ false → T (none_of below (groups_from n parents p))
    blocked zero parents p h = rw h tt
    blocked (suc n) parents p h =
        let k : all test (p ∷ parents) ≡ false = ap (λ (b : Bool). test p && b) h ∙ and_false (test p) in
        go (blocked n (p ∷ parents) (first_side p) k) (blocked n (p ∷ parents) (second_side p) k) (single p.group) refl
      where
        go : T (none_of below (groups_from n (p ∷ parents) (first_side p))) → T (none_of below (groups_from n (p ∷ parents) (second_side p)))
            → (b : Bool) → single p.group ≡ b → T (none_of below (groups_from (suc n) parents p))
        go l r true q = rw (groups_single (suc n) parents p q) (rw h tt)
        go l r false q = rw (groups_split n parents p q)
            (rw h (none_of-append below (groups_from n (p ∷ parents) (first_side p)) (groups_from n (p ∷ parents) (second_side p)) l r))

    pub kept_blocked : (n : ℕ) (parents : List (Spot X)) (p : Spot X) → test p ≡ false → kept (under n parents p) ≡ 0
    kept_blocked n parents p h =
        let k : all test (p ∷ parents) ≡ false = ap (λ (b : Bool). b && all test parents) h in
        none_kept below is_w (under n parents p)
        (none_of-append below (groups_from n (p ∷ parents) (first_side p)) (groups_from n (p ∷ parents) (second_side p))
        (blocked n (p ∷ parents) (first_side p) k) (blocked n (p ∷ parents) (second_side p) k))

    -- two sides, one after the other: the second is not seen where the first has the witness
    pub kept_found : (ls rs : List (Placed X)) → any is_w ls ≡ true → kept (ls ++ rs) ≡ kept ls
    kept_found ls rs q = ap (λ (qs : List (Placed X)). length (those below qs)) (up_to_in is_w ls rs q)

    pub kept-both : (ls rs : List (Placed X)) → any is_w ls ≡ false → kept (ls ++ rs) ≡ kept ls + kept rs
    kept-both ls rs q =
        ap (λ (qs : List (Placed X)). length (those below qs)) (up_to_out is_w ls rs q)
        ∙ ap length (those-append below ls (up_to is_w rs)) ∙ length-append (those below ls) (those below (up_to is_w rs))
        ∙ ap (λ (qs : List (Placed X)). length (those below qs) + kept rs) (sym (up_to-all is_w ls q))

  -- ---- a test that holds of more groups counts no fewer

  module _ (small large : Spot X → Bool) (more : (p : Spot X) → first_that co p.before ≡ none → small p ≡ true → large p ≡ true) where
    pub kept_more : (n : ℕ) (parents : List (Spot X)) (p : Spot X) → T (full p.group) → excess p.group ≤ n → first_that co p.before ≡ none
        → all small parents ≡ true → all large parents ≡ true → kept small (groups_from n parents p) ≤ kept large (groups_from n parents p)
    kept_more zero parents p f x o a b =
        let q = excess_single p.group x in
        omega (arith, kept_single small zero parents p a q, kept_single large zero parents p b q)
    kept_more (suc n) parents p f x o a b =
        go (λ q. kept_more n (p ∷ parents) (first_side p) (full_child first_part_lem p.group f) (omega (arith, excess_child first_part_lem p.group q)) o)
        (λ q. kept_more n (p ∷ parents) (second_side p) (full_child second_part_lem p.group f) (omega (arith, excess_child second_part_lem p.group q)))
        (single p.group) refl (small p) refl
      where
        first : List (Placed X)
        first = groups_from n (p ∷ parents) (first_side p)

        second : List (Placed X)
        second = groups_from n (p ∷ parents) (second_side p)

        ls : List (List X)
        ls = choices (first_side p).group

        seen : single p.group ≡ false → any is_w first ≡ any co ls
        seen q = some_witness n (p ∷ parents) (first_side p) (full_child first_part_lem p.group f) (omega (arith, excess_child first_part_lem p.group q))

        sides : single p.group ≡ false → kept small first ≤ kept large first
            → (first_that co (second_side p).before ≡ none → kept small second ≤ kept large second)
            → (z : Option (List X)) → first_that co ls ≡ z → kept small (first ++ second) ≤ kept large (first ++ second)
        sides q l r (some w) z =
            let y = seen q ∙ first_any co ls z in
            omega (arith, kept_found small first second y, kept_found large first second y)
        sides q l r none z =
            let y = seen q ∙ none_any co ls z in
            omega (arith, kept-both small first second y, kept-both large first second y, r (first_that-append co p.before ls ∙ ap₂ or_else o z))

        go : (single p.group ≡ false → all small (p ∷ parents) ≡ true → all large (p ∷ parents) ≡ true → kept small first ≤ kept large first)
            → (single p.group ≡ false → first_that co (second_side p).before ≡ none → all small (p ∷ parents) ≡ true
            → all large (p ∷ parents) ≡ true → kept small second ≤ kept large second)
            → (u : Bool) → single p.group ≡ u → (w : Bool) → small p ≡ w
            → kept small (groups_from (suc n) parents p) ≤ kept large (groups_from (suc n) parents p)
        go l r true q w h = omega (arith, kept_single small (suc n) parents p a q, kept_single large (suc n) parents p b q)
        go l r false q false h = omega (arith, kept_split small n parents p a q, kept_blocked small n parents p h, kept_some large (suc n) parents p b)
        go l r false q true h =
            let i = ap₂ ◌&&◌ h a in
            let j = ap₂ ◌&&◌ (more p o h) b in
            omega (arith, kept_split small n parents p a q, kept_split large n parents p b q, sides q (l q i j) (λ z. r q z i j) (first_that co ls) refl)
