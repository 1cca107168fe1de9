-- A group of ranges stands for a group of paths: it is single, splits and finishes as that one.
use mathlib.Core.Path.{◌≡◌, refl, sym, ap, ap₂, ◌∙◌}
use Prim.Native.Nat.{ℕ, zero, suc, ◌+◌, ◌-◌, ◌≤◌, ◌<◌}
use native.Mathlib.Omega.{arith}
use mathlib.Core.Bool.{Bool, true, false, true≢false}
use mathlib.Core.List.{List, [], ◌∷◌, ◌++◌}
use lib.ListN.{length, take, drop, length-take, length-drop}
use lib.Seq.{take-take, drop-drop, take_all}
use lib.Dec.{ltb}
use borrow.Author.Tests.{ltb-false}
use Rattle.meaning.specs.Groups as Meant
use Rattle.meaning.specs.Groups.{half, first_part, second_part, long, single, group_loads}
use Rattle.meaning.specs.Walk.{first_child, second_child, heads}
use Rattle.meaning.proofs.Lists.{drop-take}
use Rattle.rows.specs.Ranges.{Range, end_of, first_half, second_half}
use Rattle.groups.specs.Groups.{firsts, top_group, all_single, child_by, InWalk, row_starts}
use Rattle.rows.specs.Order.{Node}
use Rattle.overload.specs.Rows.{loads_at, rows_finish}
use Rattle.walk.specs.Steps.{group_finish}
use Rattle.walk.specs.Told.{sizes, part_of, chosen, AtPaths, RowsHold}
use Rattle.rows.proofs.Order.{node_in, node_pos}
use Rattle.meaning.proofs.Finish.{finish-same}

module _ {X : Type 0} where
  abbrev pub group_of : List (List X) → List Range → List (List X)
  group_of [] xs = []
  group_of (G ∷ Gs) [] = []
  group_of (G ∷ Gs) (x ∷ xs) = part_of G x ∷ group_of Gs xs

  -- ---- one range

  part_length : (G : List X) (x : Range) → end_of x ≤ length G → length (part_of G x) ≡ x.len
  part_length G x h = simp (length-take, length-drop) (omega arith)

  -- a half of a range stands for a part of its paths
  abbrev Half : (Range → Range) → (List X → List X) → Type 0
  Half h part = (G : List X) (x : Range) → end_of x ≤ length G → part_of G (h x) ≡ part (part_of G x)

  first-half : Half first_half first_part
  first-half G x h = rw (part_length G x h) (sym (take-take (half x.len) x.len (drop x.first G) (omega arith)))

  second_half_lem : Half second_half second_part
  second_half_lem G x h =
      rw (part_length G x h)
      (sym (drop-take (half x.len) x.len (drop x.first G) ∙ ap (take (x.len - half x.len)) (drop-drop (half x.len) x.first G)))

  fits : (G : List X) (x : Range) → Node 0 (length G) x.first x.len → end_of x ≤ length G
  fits G x h = omega (arith, node_in h)

  -- ---- a group

  pub group_single : (Gs : List (List X)) (xs : List Range) → InWalk (sizes Gs) xs → single (group_of Gs xs) ≡ all_single xs
  group_single [] [] o = refl
  group_single [] (x ∷ xs) o = absurd o
  group_single (G ∷ Gs) [] o = absurd o
  group_single (G ∷ Gs) (x ∷ xs) o = rw (part_length G x (fits G x o.1), group_single Gs xs o.3)

  module _ (h : Range → Range) (part : List X → List X) (is : Half h part) where
    group_child : (Gs : List (List X)) (xs : List Range) → InWalk (sizes Gs) xs → group_of Gs (child_by h xs) ≡ Meant.child_by part (group_of Gs xs)
    group_child [] [] o = refl
    group_child [] (x ∷ xs) o = absurd o
    group_child (G ∷ Gs) [] o = absurd o
    group_child (G ∷ Gs) (x ∷ xs) o = go (ltb 1 x.len) refl (group_child Gs xs o.3)
      where
        go : (v : Bool) → ltb 1 x.len ≡ v → group_of Gs (child_by h xs) ≡ Meant.child_by part (group_of Gs xs)
            → group_of (G ∷ Gs) (child_by h (x ∷ xs)) ≡ Meant.child_by part (group_of (G ∷ Gs) (x ∷ xs))
        go true e i =
            let l : long (part_of G x) ≡ true = ap (ltb 1) (part_length G x (fits G x o.1)) ∙ e in
            rw (e, l) (ap (λ (r : List X). r ∷ group_of Gs xs) (is G x (fits G x o.1)))
        go false e i =
            let l : long (part_of G x) ≡ false = ap (ltb 1) (part_length G x (fits G x o.1)) ∙ e in
            rw (e, l) (ap (λ (g : List (List X)). part_of G x ∷ g) i)

  pub group_first_child : (Gs : List (List X)) (xs : List Range) → InWalk (sizes Gs) xs → group_of Gs (child_by first_half xs) ≡ first_child (group_of Gs xs)
  group_first_child = group_child first_half first_part first-half

  pub group_second_child : (Gs : List (List X)) (xs : List Range) → InWalk (sizes Gs) xs
      → group_of Gs (child_by second_half xs) ≡ second_child (group_of Gs xs)
  group_second_child = group_child second_half second_part second_half_lem

  pub group_top : (Gs : List (List X)) → group_of Gs (top_group (sizes Gs)) ≡ Gs
  group_top [] = refl
  group_top (G ∷ Gs) = ap₂ (λ (r : List X) (g : List (List X)). r ∷ g) (take_all (length G) G (omega arith)) (group_top Gs)

  -- ---- the paths of a group of single ranges, by their places

  heads-one : (l : List X) (g : List (List X)) → heads (take 1 l ∷ g) ≡ take 1 l ++ heads g
  heads-one [] g = refl
  heads-one (x ∷ l) g = refl

  pub chosen_heads : (Gs : List (List X)) (xs : List Range) (more : List ℕ) → InWalk (sizes Gs) xs → all_single xs ≡ true
      → heads (group_of Gs xs) ≡ chosen Gs (firsts xs ++ more)
  chosen_heads [] [] more o q = refl
  chosen_heads [] (x ∷ xs) more o q = absurd o
  chosen_heads (G ∷ Gs) [] more o q = absurd o
  chosen_heads (G ∷ Gs) (x ∷ xs) more o q = go (ltb 1 x.len) refl (λ h. chosen_heads Gs xs more o.3 h)
    where
      go : (v : Bool) → ltb 1 x.len ≡ v → (all_single xs ≡ true → heads (group_of Gs xs) ≡ chosen Gs (firsts xs ++ more))
          → heads (group_of (G ∷ Gs) (x ∷ xs)) ≡ chosen (G ∷ Gs) (firsts (x ∷ xs) ++ more)
      go true e i = absurd (true≢false (sym (rw e at q)))
      go false e i =
          let one : x.len ≡ 1 = omega (arith, ltb-false 1 x.len e, node_pos o.1 o.0) in
          rw one (heads-one (drop x.first G) (group_of Gs xs) ∙ ap (λ (l : List X). take 1 (drop x.first G) ++ l) (i (rw e at q)))

  pub firsts-at_paths : (Gs : List (List X)) (xs : List Range) (more : List ℕ) → InWalk (sizes Gs) xs → AtPaths Gs (firsts xs ++ more)
  firsts-at_paths [] xs more o j l = absurd (omega arith)
  firsts-at_paths (G ∷ Gs) [] more o j l = absurd o
  firsts-at_paths (G ∷ Gs) (x ∷ xs) more o zero l = omega (arith, node_in o.1, node_pos o.1 o.0)
  firsts-at_paths (G ∷ Gs) (x ∷ xs) more o (suc j) l = firsts-at_paths Gs xs more o.3 j (omega arith)

-- ---- rows that hold the ranges' loads

module _ {X : Type 0} (load : X → ℕ → ℕ) (work : List ℕ) (d : ℕ) where
  loads_are : (Gs : List (List X)) (root : List ℕ) (xs : List Range) (t : ℕ) → length Gs ≤ length root
      → RowsHold load d work root Gs → InWalk (sizes Gs) xs → t < d
      → loads_at work (row_starts d (take (length Gs) root) xs) t ≡ group_loads load (group_of Gs xs) (suc t)
  unfolding loads_at
  loads_are [] root xs t n w o l = refl
  loads_are (G ∷ Gs) [] xs t n w o l = absurd (omega arith)
  loads_are (G ∷ Gs) (r ∷ root) [] t n w o l = absurd o
  loads_are (G ∷ Gs) (r ∷ root) (x ∷ xs) t n w o l =
      ap₂ (λ (a b : ℕ). a + b) (w 0 (omega arith) x.first x.len o.1 t l)
      (loads_are Gs root xs t (omega arith) (λ j k. w (suc j) (omega arith)) o.3 l)

  pub finishes_are : (e : ℕ) (Gs : List (List X)) (root : List ℕ) → length Gs ≤ length root → RowsHold load d work root Gs
      → (xs : List Range) → InWalk (sizes Gs) xs
      → group_finish work d e (take (length Gs) root) xs ≡ Meant.group_finish load e d (group_of Gs xs)
  unfolding rows_finish Meant.group_finish
  finishes_are e Gs root n w xs o =
      finish-same e d _ _
      (λ t a b.
      let q : suc (t - 1) ≡ t = omega arith in
      loads_are Gs root xs (t - 1) n w o (omega arith) ∙ ap (group_loads load (group_of Gs xs)) q)
