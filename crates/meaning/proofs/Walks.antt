-- The two walks, each an instance of the run: with the bar at d from the start, document 01's; with the bar at 0, that for the latest finish.
use mathlib.Core.Path.{◌≡◌, refl, sym, ap, subst, ◌∙◌}
use Prim.Native.Nat.{ℕ, suc, ◌-◌, ◌*◌, ◌≤◌, zero-le}
use native.Mathlib.Nat.{le_refl}
use native.Mathlib.Omega.{arith}
use mathlib.Core.Bool.{Bool, true}
use mathlib.Core.Option.{Option, none, some}
use mathlib.Core.List.Memᴰ
use mathlib.Core.List.{List, [], ◌∷◌, map, Memᴰ}
use lib.ListN.{length}
use lib.Dec.{T, ltb}
use borrow.Author.Tests.{lt-ltb, ltb-true}
use Rattle.meaning.specs.Lists.{sum, first_that}
use Rattle.meaning.specs.Groups.{choice_loads, choice_overloads, choice_finish, overloads, group_finish, choices, P, Spot}
use Rattle.meaning.specs.Groups.{count, witness, latest_yet, late_count, worst, worst_choice}
use Rattle.meaning.specs.Walk.{full, Bar, bar_at, End, missed, met, end_by, worst_bar, Sees}
use Rattle.meaning.proofs.Firsts.{none_any, any_mem}
use Rattle.meaning.proofs.Finish.{finish_most}
use Rattle.meaning.proofs.Groups.{full_in, in_choices, excess_le, group_late, group_finishes}
use Rattle.meaning.proofs.Bars.{reached_by, latest_some, risen, worst_most, risen_quiet, risen_zero, later_all, not_late}
use Rattle.meaning.proofs.Counting.{kept_more}
use Rattle.meaning.proofs.Run.{Agrees, run_sees, counted_some}
use Rattle.meaning.proofs.Few.{counted_P}

-- ---- an end, taken apart

module _ {X : Type 0} where
  pub end_met : (o : Option (List X)) (s t : Bar X) → end_by o s ≡ met t → (o ≡ none) × (s ≡ t)
  end_met none s t q = (refl, cc)
  end_met (some w) s t q = absurd (let z : ◌≡◌ {A = ℕ} 0 1 = cc in omega arith)

  pub end_missed : (o : Option (List X)) (s : Bar X) (w : List X) → end_by o s ≡ missed w → o ≡ some w
  end_missed none s w q = absurd (let z : ◌≡◌ {A = ℕ} 0 1 = cc in omega arith)
  end_missed (some v) s w q = cc

module _ {X : Type 0} (load : X → ℕ → ℕ) (e d : ℕ) where
  abbrev co : List X → Bool
  co c = choice_overloads load e d c

  abbrev overloads_at : Spot X → Bool
  overloads_at p = overloads load e d p.group

  -- ---- the bar at d: no choice raises it but a witness, so the groups gone into are those that overload

  stays : (cs : List (List X)) → first_that co cs ≡ none → risen load e d (bar_at d) cs ≡ bar_at d
  stays cs o = risen_quiet load e d (bar_at d) cs (λ c m. not_late load e d c (any_mem co cs (none_any co cs o) m))

  overloads_agrees : Agrees load e d overloads_at (bar_at d)
  overloads_agrees p o = group_late load e d p.group ∙ ap (λ (s : Bar X). ltb s.tick (group_finish load e d p.group)) (sym (stays p.before o))

  overloads_end : (top : List (List X)) → end_by (first_that co (choices top)) (risen load e d (bar_at d) (choices top)) ≡ end_by (witness load e d top) (bar_at d)
  unfolding witness
  overloads_end top = go (first_that co (choices top)) refl
    where
      go : (o : Option (List X)) → first_that co (choices top) ≡ o → end_by o (risen load e d (bar_at d) (choices top)) ≡ end_by o (bar_at d)
      go (some w) q = refl
      go none q = ap (end_by none) (stays (choices top) q)

  pub walk_sees : (top : List (List X)) → T (full top) → Sees load e d (bar_at d) (count load e d top) (end_by (witness load e d top) (bar_at d)) top
  unfolding count
  walk_sees top f =
      subst (λ (z : End X). Sees load e d (bar_at d) (count load e d top) z top) (overloads_end top)
      (run_sees load e d overloads_at (bar_at d) (le_refl d) overloads_agrees top f)

  pub count_P : (top : List (List X)) → T (full top) → count load e d top ≤ 2 * P top - 1
  unfolding count
  count_P = counted_P load e d overloads_at

  pub count_some : (top : List (List X)) → 1 ≤ count load e d top
  unfolding count
  count_some = counted_some load e d overloads_at

  -- ---- the bar at 0: the groups gone into are later than every single choice before

  late_agrees : Agrees load e d (latest_yet load e d) (bar_at 0)
  late_agrees p o =
      later_all load e d p.before (group_finish load e d p.group) (group_finishes load e d p.group)
      ∙ ap (λ (s : Bar X). ltb s.tick (group_finish load e d p.group)) (sym (risen_zero load e d p.before))

  late_end : (top : List (List X))
      → end_by (first_that co (choices top)) (risen load e d (bar_at 0) (choices top)) ≡ end_by (witness load e d top) (worst_bar load e d top)
  unfolding witness worst worst_choice
  late_end top = ap (end_by (first_that co (choices top))) (risen_zero load e d (choices top))

  pub late_walk_sees : (top : List (List X)) → T (full top)
      → Sees load e d (bar_at 0) (late_count load e d top) (end_by (witness load e d top) (worst_bar load e d top)) top
  unfolding late_count
  late_walk_sees top f =
      subst (λ (z : End X). Sees load e d (bar_at 0) (late_count load e d top) z top) (late_end top)
      (run_sees load e d (latest_yet load e d) (bar_at 0) zero-le late_agrees top f)

  pub late_P : (top : List (List X)) → T (full top) → late_count load e d top ≤ 2 * P top - 1
  unfolding late_count
  late_P = counted_P load e d (latest_yet load e d)

  pub late_some : (top : List (List X)) → 1 ≤ late_count load e d top
  unfolding late_count
  late_some = counted_some load e d (latest_yet load e d)

  -- some choice is the first to reach the worst finish
  pub worst_some : (top : List (List X)) → T (full top) → (c : List X) × (worst_choice load e d top ≡ some c)
  unfolding worst worst_choice
  worst_some top f = go (choices top) refl
    where
      go : (cs : List (List X)) → choices top ≡ cs → (c : List X) × (reached_by load e d (choices top) ≡ some c)
      go [] q = let c = full_in top f in absurd (Memᴰ.not-nil (subst (λ (l : List (List X)). Memᴰ c.0 l) q (in_choices c.0 top c.1)))
      go (k ∷ cs) q = let b = latest_some load e d k cs in (b.0, ap (reached_by load e d) q ∙ b.1)

  -- it is at most d + 1
  pub worst_late : (top : List (List X)) → worst load e d top ≤ suc d
  unfolding worst choice_finish
  worst_late top = worst_most load e d (choices top) (suc d) (λ c m. finish_most e d (choice_loads load c))

  -- ---- the latest finish takes no fewer groups

  pub count_late : (top : List (List X)) → T (full top) → count load e d top ≤ late_count load e d top
  unfolding count late_count
  count_late top f =
      kept_more load e d overloads_at (latest_yet load e d) more (sum (map length top)) []
      (record { group = top; before = [] }) f (excess_le top) refl refl refl
    where
      more : (p : Spot X) → first_that co p.before ≡ none → overloads_at p ≡ true → latest_yet load e d p ≡ true
      more p o h =
          let l = ltb-true d (group_finish load e d p.group) (sym (group_late load e d p.group) ∙ h) in
          let w = worst_most load e d p.before d (λ c m. not_late load e d c (any_mem co p.before (none_any co p.before o) m)) in
          later_all load e d p.before (group_finish load e d p.group) (group_finishes load e d p.group)
          ∙ lt-ltb _ (group_finish load e d p.group) (omega arith)
