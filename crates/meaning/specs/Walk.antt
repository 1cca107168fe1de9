-- The walk itself: a step examines one group, a run takes at most as many steps as the budget. No promise of a call rests on it: C, the witness and the
-- worst finish are defined without it, and that it sees exactly C groups and finds exactly those is stated at the end; `proofs/Demands` proves it.
--
-- A group is gone into only if it finishes later than the bar. With the bar at d from the start, those are the groups that overload. With the bar at 0,
-- raised to each single choice that finishes later, "a group is passed over when its own finish is no later than that of some single choice before it".
use Rattle.std.specs.Prelude.{◌≡◌, ℕ, zero, suc, ◌≤◌, ◌<◌, Bool, true, false, List, [], ◌∷◌, ◌++◌, length, T, ltb}
use Rattle.std.proofs.Math.Option.{Option, none, some}
use Rattle.meaning.specs.Lists.{pick, all}
use Rattle.meaning.specs.Groups.{choice_overloads, choice_finish, overloads, group_finish, first_part, second_part, single, child_by}
use Rattle.meaning.specs.Groups.{Placed, all_groups, count, witness, late_count, worst, worst_choice}

module _ {X : Type 0} where
  abbrev pub first_child : List (List X) → List (List X)
  first_child g = child_by first_part g

  abbrev pub second_child : List (List X) → List (List X)
  second_child g = child_by second_part g

  -- every range has a path
  abbrev pub full : List (List X) → Bool
  full g = all (λ (r : List X). ltb 0 (length r)) g

-- the first path of each range
abbrev pub heads {ℓ} : {X : Type ℓ} → List (List X) → List X
heads [] = []
heads ([] ∷ g) = heads g
heads ((x ∷ r) ∷ g) = x ∷ heads g

-- a tick, and the single choice that raised it to its finish, if one did
pub record Bar (X : Type 0) : Type 0 where
  pub tick : ℕ
  pub choice : Option (List X)

abbrev pub bar_at : {X : Type 0} → ℕ → Bar X
bar_at t = record { tick = t; choice = none }

-- what examining a group gives: the witness, or the bar and the groups to examine next
pub data Examined (X : Type 0) : Type 0 where
  found : List X → Examined X
  next : Bar X → List (List (List X)) → Examined X

-- with a witness; or without one, and where the bar is then
pub data End (X : Type 0) : Type 0 where
  missed : List X → End X
  met : Bar X → End X

abbrev pub end_by : {X : Type 0} → Option (List X) → Bar X → End X
end_by (some w) s = missed w
end_by none s = met s

-- the walk's end, after so many groups; or cut short
pub data Outcome (X : Type 0) : Type 0 where
  ended : ℕ → End X → Outcome X
  cut : Outcome X

module _ {X : Type 0} (load : X → ℕ → ℕ) (e d : ℕ) where
  -- a group of single paths that finishes later than the bar: later than d it is the witness, else it raises the bar
  abbrev pub at_single : List (List X) → Examined X
  at_single g =
      elim (ltb d (group_finish load e d g)) [
        | true ↦ found (heads g)
        | false ↦ next (record { tick = group_finish load e d g; choice = some (heads g) }) []
      ]

  -- a group that finishes no later than the bar has nothing below it examined
  abbrev pub step : Bar X → List (List X) → Examined X
  step s g =
      elim (ltb s.tick (group_finish load e d g)) [
        | false ↦ next s []
        | true ↦ elim (single g) [ true ↦ at_single g | false ↦ next s (first_child g ∷ second_child g ∷ []) ]
      ]

  -- with so many steps left, the bar, the groups that wait, the next first, and how many were examined
  abbrev pub run : ℕ → Bar X → List (List (List X)) → ℕ → Outcome X
  run zero s [] n = ended n (met s)
  run zero s (g ∷ gs) n = cut
  run (suc b) s [] n = ended n (met s)
  run (suc b) s (g ∷ gs) n = elim (step s g) [ found c ↦ ended (suc n) (missed c) | next t hs ↦ run b t (hs ++ gs) (suc n) ]

  -- the worst finish of all choices, and the first choice that reaches it
  abbrev pub worst_bar : List (List X) → Bar X
  worst_bar top = record { tick = worst load e d top; choice = worst_choice load e d top }

  -- from this bar the walk sees exactly n groups and comes to this end, or is cut short, exactly if the budget is below n
  pub record Sees (start : Bar X) (n : ℕ) (end : End X) (top : List (List X)) : Type 0 where
    pub enough : (b : ℕ) → n ≤ b → run b start (top ∷ []) 0 ≡ ended n end
    pub short : (b : ℕ) → b < n → run b start (top ∷ []) 0 ≡ cut

-- "Unfinished exactly if the budget is below C", of either call: whatever the paths and their loads, where no range is empty.
pub record WalkSees : Type 1 where
  pub plain : {X : Type 0} (load : X → ℕ → ℕ) (e d : ℕ) (top : List (List X)) → T (full top)
      → Sees load e d (bar_at d) (count load e d top) (end_by (witness load e d top) (bar_at d)) top
  pub latest : {X : Type 0} (load : X → ℕ → ℕ) (e d : ℕ) (top : List (List X)) → T (full top)
      → Sees load e d (bar_at 0) (late_count load e d top) (end_by (witness load e d top) (worst_bar load e d top)) top

-- "A group that overloads finishes later than d", and no other does; so it is with a choice.
pub record OverloadsLate : Type 1 where
  pub groups : {X : Type 0} (load : X → ℕ → ℕ) (e d : ℕ) (g : List (List X)) → overloads load e d g ≡ ltb d (group_finish load e d g)
  pub choices : {X : Type 0} (load : X → ℕ → ℕ) (e d : ℕ) (c : List X) → choice_overloads load e d c ≡ ltb d (choice_finish load e d c)

-- ---- "every single choice before that parent"

module _ {X : Type 0} where
  -- the choice of a group of single paths
  abbrev pub own_choice : Placed X → List (List X)
  own_choice q = pick (single q.spot.group) (heads q.spot.group ∷ []) []

  abbrev pub InOrder : List (List X) → List (Placed X) → Type 0
  InOrder before [] = Unit {0}
  InOrder before (q ∷ qs) = (q.spot.before ≡ before) × InOrder (before ++ own_choice q) qs

-- Each group has before it the single choices of the groups that stand before it in the walk's order, and no others.
abbrev pub ChoicesBefore : Type 1
ChoicesBefore = (X : Type 0) (top : List (List X)) → T (full top) → InOrder [] (all_groups top)
