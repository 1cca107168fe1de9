-- The walk through groups: ranges, groups, their tree, the witness, the worst finish, and the number C of either call.
-- Of a path only its load plays a part here, so all of it is over any type X of paths with a load at each tick.
use Rattle.std.specs.Prelude.{ℕ, zero, suc, ◌+◌, ◌/◌, Bool, true, false, not, ◌&&◌, length, take, drop, ltb, leb}
use Rattle.std.proofs.Math.Option.{Option}
use mathlib.Core.List.{List, [], ◌∷◌, ◌++◌, map}
use Rattle.std.proofs.Math.Dec.{eqb}
use Rattle.meaning.specs.Lists.{pick, all, those, sum, product, largest, gather, first_that, or_given, up_to, ticks}

-- ---- the overload test, and the finish

-- for every t from 1 to d, e plus the loads at t exceeds t
abbrev pub exceeds : ℕ → ℕ → (ℕ → ℕ) → Bool
exceeds e d loads = all (λ (t : ℕ). ltb t (e + loads t)) (ticks d)

-- "the first t from 1 to d at which e plus the loads is at most t"; where there is none, d + 1: later than d
abbrev pub finish : ℕ → ℕ → (ℕ → ℕ) → ℕ
finish e d loads = or_given (suc d) (first_that (λ (t : ℕ). leb (e + loads t) t) (ticks d))

module _ {X : Type 0} (load : X → ℕ → ℕ) where
  -- the loads of a choice of one path from each higher task, together
  abbrev pub choice_loads : List X → ℕ → ℕ
  choice_loads c t = sum (map (λ (x : X). load x t) c)

  unfoldable pub choice_overloads : ℕ → ℕ → List X → Bool
  choice_overloads e d c = exceeds e d (choice_loads c)

  unfoldable pub choice_finish : ℕ → ℕ → List X → ℕ
  choice_finish e d c = finish e d (choice_loads c)

  -- a range is a run of neighbours in one task's ordered paths; its load is the largest in it
  abbrev pub range_load : List X → ℕ → ℕ
  range_load r t = largest (map (λ (x : X). load x t) r)

  -- a group takes one range from each higher task; it overloads by the same test, and finishes, with its ranges' loads
  abbrev pub group_loads : List (List X) → ℕ → ℕ
  group_loads g t = sum (map (λ (r : List X). range_load r t) g)

  unfoldable pub overloads : ℕ → ℕ → List (List X) → Bool
  overloads e d g = exceeds e d (group_loads g)

  unfoldable pub group_finish : ℕ → ℕ → List (List X) → ℕ
  group_finish e d g = finish e d (group_loads g)

-- ---- ranges split, groups have children

-- n/2, rounded up
abbrev pub half : ℕ → ℕ
half n = (n + 1) / 2

module _ {X : Type 0} where
  abbrev pub first_part : List X → List X
  first_part r = take (half (length r)) r

  abbrev pub second_part : List X → List X
  second_part r = drop (half (length r)) r

  abbrev pub long : List X → Bool
  long r = ltb 1 (length r)

  -- every range is a single path
  abbrev pub single : List (List X) → Bool
  single g = all (λ (r : List X). not (long r)) g

  -- the lowest-numbered task whose range is longer than one is split, and a child takes one part of it
  abbrev pub child_by : (List X → List X) → List (List X) → List (List X)
  child_by part [] = []
  child_by part (r ∷ rs) = pick (long r) (part r ∷ rs) (r ∷ child_by part rs)

-- ---- choices

module _ {X : Type 0} where
  -- every choice of one path from each range, first difference first
  abbrev pub choices : List (List X) → List (List X)
  choices [] = [] ∷ []
  choices (r ∷ rs) = gather (λ (x : X). map (λ (c : List X). x ∷ c) (choices rs)) r

  -- the product of path counts, 1 when there are no higher tasks
  abbrev pub P : List (List X) → ℕ
  P top = product (map length top)

-- ---- all groups, in the walk's order

-- a group, and the single choices before it in the walk's order, examined or not
pub record Spot (X : Type 0) : Type 0 where
  pub group : List (List X)
  pub before : List (List X)

-- a group and its parents, up to the top
pub record Placed (X : Type 0) : Type 0 where
  pub spot : Spot X
  pub parents : List (Spot X)

module _ {X : Type 0} where
  -- the first child; and the second, which has the first's choices before it
  abbrev pub first_side : Spot X → Spot X
  first_side p = record { group = child_by first_part p.group; before = p.before }

  abbrev pub second_side : Spot X → Spot X
  second_side p = record { group = child_by second_part p.group; before = p.before ++ choices (first_side p).group }

  -- a group before its children, the first child's side before the second's. A split shortens a range: the sum of the lengths bounds the depth
  abbrev pub groups_from : ℕ → List (Spot X) → Spot X → List (Placed X)
  groups_from zero parents p = record { spot = p; parents = parents } ∷ []
  groups_from (suc depth) parents p =
      elim (single p.group) [
        | true ↦ record { spot = p; parents = parents } ∷ []
        | false ↦
            record { spot = p; parents = parents }
            ∷ (groups_from depth (p ∷ parents) (first_side p) ++ groups_from depth (p ∷ parents) (second_side p))
      ]

  abbrev pub all_groups : List (List X) → List (Placed X)
  all_groups top = groups_from (sum (map length top)) [] (record { group = top; before = [] })

-- ---- C and the witness

module _ {X : Type 0} (load : X → ℕ → ℕ) (e d : ℕ) where
  -- an overloading group of single paths
  abbrev pub is_witness : Placed X → Bool
  is_witness q = single q.spot.group && overloads load e d q.spot.group

  -- the groups that do not come after the witness, if there is one
  abbrev pub not_after : List (List X) → List (Placed X)
  not_after top = up_to is_witness (all_groups top)

  -- of those, the number of groups of all of whose parents, up to the top, the test holds
  abbrev pub counted : (Spot X → Bool) → List (List X) → ℕ
  counted test top = length (those (λ (q : Placed X). all test q.parents) (not_after top))

  -- C: all of whose parents overload
  unfoldable pub count : List (List X) → ℕ
  unfolding overloads
  count top = counted (λ (p : Spot X). overloads load e d p.group) top

  -- the overloading choice that is least in path order, task 0 compared first
  unfoldable pub witness : List (List X) → Option (List X)
  unfolding choice_overloads
  witness top = first_that (choice_overloads load e d) (choices top)

-- ---- how late is the latest

module _ {X : Type 0} (load : X → ℕ → ℕ) (e d : ℕ) where
  -- it finishes later than every single choice before it
  abbrev pub latest_yet : Spot X → Bool
  latest_yet p = all (λ (c : List X). ltb (choice_finish load e d c) (group_finish load e d p.group)) p.before

  -- C for this call: "groups not after a witness whose parents each finished later than every single choice before that parent"
  unfoldable pub late_count : List (List X) → ℕ
  unfolding overloads choice_finish group_finish
  late_count top = counted load e d latest_yet top

  -- "the worst is the largest over all choices, with the first choice in document 01's order that reaches it"
  unfoldable pub worst : List (List X) → ℕ
  unfolding choice_finish
  worst top = largest (map (choice_finish load e d) (choices top))

  unfoldable pub worst_choice : List (List X) → Option (List X)
  unfolding choice_finish worst
  worst_choice top = first_that (λ (c : List X). eqb (choice_finish load e d c) (worst top)) (choices top)
