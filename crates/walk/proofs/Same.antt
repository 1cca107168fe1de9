-- The walk over ranges is the walk over groups of paths, step by step.
use mathlib.Core.Path.{◌≡◌, refl, sym, ap, ap₂, subst, ◌∙◌}
use Prim.Native.Nat.{ℕ, zero, suc, ◌+◌, ◌≤◌, ◌<◌}
use native.Mathlib.Nat.{add-zero, zero-add}
use native.Mathlib.Omega.{arith}
use native.Mathlib.Decide.{dec_lt}
use mathlib.Core.Bool.{Bool, true, false}
use mathlib.Core.Option.{Option, none, some}
use mathlib.Core.List.{List, [], ◌∷◌, map}
use lib.Dec.{T, ltb, lt→ltb}
use lib.ListN.{length}
use Rattle.meaning.specs.Groups.{group_finish}
use Rattle.meaning.specs.Walk as Paths
use Rattle.meaning.specs.Walk.{full, heads, Bar, bar_at, End, missed, met, Outcome, ended, cut, run, Sees}
use Rattle.meaning.proofs.Lists.{both}
use Rattle.meaning.proofs.Steps.{run_quiet, run_hit, run_split, run_raise, run_none}
use Rattle.walk.specs.declared.Examined.TheVariants.{Next, Witness}
use Rattle.walk.specs.declared.Ending.TheVariants.{Meets, Misses, Unfinished}
use Rattle.walk.specs.declared.Walked.{Walked}
use Rattle.rows.specs.Ranges.{Range}
use Rattle.groups.specs.Groups.{firsts, top_group, all_single, first_child, next_group, InWalk}
use Rattle.walk.specs.declared.Best.{Best}
use Rattle.walk.specs.Steps.{in_places, best, WalkStep, step_to, onward_by, onward, examine, walk_end, run_on, run_from}
use Rattle.walk.specs.Told.{sizes, chosen, AtPaths, Places, Says}
use Rattle.groups.proofs.Pending.{Filled, filled_top, walk_child, pending, pending_top, pending_child, FirstPending, next-pending}
use Rattle.walk.proofs.Paths.{group_of, group_single, group_first_child, group_second_child, group_top, chosen_heads, firsts-at_paths}

-- ---- what a step over ranges does

module _ (fin : List Range → ℕ) (d : ℕ) (ns : List ℕ) (t : Best) (xs : List Range) where
  examine_quiet : ltb t.tick (fin xs) ≡ false → examine fin d ns t xs ≡ onward ns t xs
  examine_quiet h = rw h

  examine_split : ltb t.tick (fin xs) ≡ true → all_single xs ≡ false → examine fin d ns t xs ≡ step_to Next t (first_child xs)
  examine_split h q = rw h (rw q)

  examine_hit : ltb t.tick (fin xs) ≡ true → all_single xs ≡ true → ltb d (fin xs) ≡ true → examine fin d ns t xs ≡ step_to Witness t xs
  examine_hit h q k = rw h (rw q (rw k))

  examine_raise : ltb t.tick (fin xs) ≡ true → all_single xs ≡ true → ltb d (fin xs) ≡ false
      → examine fin d ns t xs ≡ onward ns (best (fin xs) (in_places (firsts xs))) xs
  examine_raise h q k = rw h (rw q (rw k))

-- ---- the two walks side by side

module _ {X : Type 0} (Gs : List (List X)) where
  -- the same bar, raised by the same choice
  pub record SameBar (s : Bar X) (t : Best) : Type 0 where
    pub tick : s.tick ≡ t.tick
    pub places : Places Gs s.choice t.places

  pub same_at : (n : ℕ) → SameBar (bar_at n) (best n (in_places []))
  same_at n = record { tick = refl; places = refl }

  -- the answer r gives an outcome of the walk over paths, with k steps allowed in all
  abbrev Gives : ℕ → Outcome X → Walked → Type 0
  Gives k (ended n (met s)) r = (t : Best) × SameBar s t × (r ≡ walk_end (Meets n) t.tick t.places)
  Gives k (ended n (missed w)) r = (ps : List ℕ) × (r ≡ walk_end (Misses n) 0 ps) × (w ≡ chosen Gs ps) × AtPaths Gs ps
  Gives k cut r = (ps : List ℕ) × (r ≡ walk_end (Unfinished k) 0 ps)

module _ {X : Type 0} where
  pub sizes_full : (Gs : List (List X)) → Filled (sizes Gs) → T (full Gs)
  sizes_full [] p = tt
  sizes_full (G ∷ Gs) p = both (ltb 0 (length G)) (full Gs) (lt→ltb 0 (length G) p.0) (sizes_full Gs p.1)

module _ {X : Type 0} (load : X → ℕ → ℕ) (e d : ℕ) (Gs : List (List X)) (fin : List Range → ℕ)
    (same : (xs : List Range) → InWalk (sizes Gs) xs → fin xs ≡ group_finish load e d (group_of Gs xs)) where
  abbrev ns : List ℕ
  ns = sizes Gs

  abbrev behind : List Range → List (List (List X))
  behind xs = map (group_of Gs) (pending ns xs)

  -- from the group xs on, with b steps left after n
  abbrev Alike : ℕ → ℕ → Bar X → Best → List Range → Type 0
  Alike b n s t xs = Gives Gs (n + b) (run load e d b s (group_of Gs xs ∷ behind xs) n) (run_from fin d ns b n t xs)

  abbrev run_step : ℕ → ℕ → WalkStep → Walked
  run_step b n x = run_on n (λ (t : Best) (ys : List Range). run_from fin d ns b (suc n) t ys) x

  -- the outcome p of what a step leaves to do, and the step x over ranges
  further : (b n : ℕ) {o p : Outcome X} {x y : WalkStep} → o ≡ p → x ≡ y → Gives Gs (suc n + b) p (run_step b n y) → Gives Gs (n + suc b) o (run_step b n x)
  further b n {o} {p} {x} {y} q r g =
      let k : suc n + b ≡ n + suc b = omega arith in
      subst (λ (m : ℕ). Gives Gs m o (run_step b n x)) k (subst (λ (z : Outcome X). Gives Gs (suc n + b) z (run_step b n x))
      (sym q) (subst (λ (z : WalkStep). Gives Gs (suc n + b) p (run_step b n z)) (sym r) g))

  children : (xs : List Range) → InWalk ns xs → all_single xs ≡ false
      → Paths.first_child (group_of Gs xs) ∷ Paths.second_child (group_of Gs xs) ∷ behind xs ≡ group_of Gs (first_child xs) ∷ behind (first_child xs)
  children xs o q =
      sym (ap₂ (λ (l : List (List X)) (z : List (List Range)). l ∷ map (group_of Gs) z) (group_first_child Gs xs o) (pending_child ns xs o q)
      ∙ ap (λ (r : List (List X)). Paths.first_child (group_of Gs xs) ∷ r ∷ behind xs) (group_second_child Gs xs o))

  -- on to the next group
  moves : (b n : ℕ) (s : Bar X) (t : Best) → SameBar Gs s t → (xs : List Range) → InWalk ns xs → ((ys : List Range) → InWalk ns ys → Alike b (suc n) s t ys)
      → Gives Gs (suc n + b) (run load e d b s (behind xs) (suc n)) (run_step b n (onward ns t xs))
  moves b n s t m xs o ih = go (next_group ns xs) (next-pending ns xs o)
    where
      go : (f : Option (List Range)) → FirstPending ns xs f → Gives Gs (suc n + b) (run load e d b s (behind xs) (suc n)) (run_step b n (onward_by ns t f))
      go none a =
          subst (λ (z : Outcome X). Gives Gs (suc n + b) z (run_step b n (onward_by ns t none)))
          (sym (ap (λ (z : List (List Range)). run load e d b s (map (group_of Gs) z) (suc n)) a ∙ run_none load e d b s (suc n))) (t, m, refl)
      go (some ys) a =
          subst (λ (z : Outcome X). Gives Gs (suc n + b) z (run_step b n (onward_by ns t (some ys))))
          (sym (ap (λ (z : List (List Range)). run load e d b s (map (group_of Gs) z) (suc n)) a.1)) (ih ys a.0)

  alike : (b n : ℕ) (s : Bar X) (t : Best) → SameBar Gs s t → (xs : List Range) → InWalk ns xs → Alike b n s t xs
  alike zero n s t m xs o = (t.places, ap (λ (k : ℕ). walk_end (Unfinished k) 0 t.places) (sym (add-zero n)))
  alike (suc b) n s t m xs o = go (λ s t m ys p. alike b (suc n) s t m ys p) (ltb t.tick (fin xs)) refl (all_single xs) refl (ltb d (fin xs)) refl
    where
      g : List (List X)
      g = group_of Gs xs

      late : (v : Bool) → ltb t.tick (fin xs) ≡ v → ltb s.tick (group_finish load e d g) ≡ v
      late v h = ap₂ ltb m.tick (sym (same xs o)) ∙ h

      over : (v : Bool) → ltb d (fin xs) ≡ v → ltb d (group_finish load e d g) ≡ v
      over v h = ap (ltb d) (sym (same xs o)) ∙ h

      raised : all_single xs ≡ true → SameBar Gs (record { tick = group_finish load e d g; choice = some (heads g) }) (best (fin xs) (in_places (firsts xs)))
      raised q = record { tick = sym (same xs o); places = (chosen_heads Gs xs _ o q, firsts-at_paths Gs xs _ o) }

      go : ((s : Bar X) (t : Best) → SameBar Gs s t → (ys : List Range) → InWalk ns ys → Alike b (suc n) s t ys)
          → (v : Bool) → ltb t.tick (fin xs) ≡ v → (u : Bool) → all_single xs ≡ u → (w : Bool) → ltb d (fin xs) ≡ w → Alike (suc b) n s t xs
      go ih false h u q w k = further b n (run_quiet load e d b n s g (behind xs) (late false h))
          (examine_quiet fin d ns t xs h) (moves b n s t m xs o (ih s t m))
      go ih true h false q w k =
          further b n (run_split load e d b n s g (behind xs) (late true h) (group_single Gs xs o ∙ q)
          ∙ ap (λ (z : List (List (List X))). run load e d b s z (suc n)) (children xs o q))
          (examine_split fin d ns t xs h q) (ih s t m (first_child xs) (walk_child ns xs o))
      go ih true h true q true k =
          further b n (run_hit load e d b n s g (behind xs) (late true h) (group_single Gs xs o ∙ q) (over true k)) (examine_hit fin d ns t xs h q k)
          (in_places (firsts xs), refl, chosen_heads Gs xs _ o q, firsts-at_paths Gs xs _ o)
      go ih true h true q false k =
          further b n (run_raise load e d b n s g (behind xs) (late true h) (group_single Gs xs o ∙ q) (over false k)) (examine_raise fin d ns t xs h q k)
          (moves b n _ _ (raised q) xs o (ih _ _ (raised q)))

  whole : (b : ℕ) (s : Bar X) (t : Best) → SameBar Gs s t → Filled ns → Gives Gs b (run load e d b s (Gs ∷ []) 0) (run_from fin d ns b 0 t (top_group ns))
  whole b s t m p =
      subst (λ (k : ℕ). Gives Gs k (run load e d b s (Gs ∷ []) 0) (run_from fin d ns b 0 t (top_group ns))) (zero-add b)
      (subst (λ (z : List (List (List X))). Gives Gs (0 + b) (run load e d b s z 0) (run_from fin d ns b 0 t (top_group ns)))
      (ap₂ (λ (g : List (List X)) (z : List (List Range)). g ∷ map (group_of Gs) z) (group_top Gs) (pending_top ns))
      (alike b 0 s t m (top_group ns) (filled_top ns p)))

  -- the whole walk, from either bar: what the walk over paths sees and comes to, the code's answer says
  pub run_says : (b bar n : ℕ) (z : End X) → Sees load e d (bar_at bar) n z Gs → Filled ns → (r : Walked)
      → r ≡ run_from fin d ns b 0 (best bar (in_places [])) (top_group ns) → Says Gs n z b r.ending r.finish r.places
  run_says b bar n z w p r q = go (dec_lt b n)
    where
      gives : (o : Outcome X) → run load e d b (bar_at bar) (Gs ∷ []) 0 ≡ o → Gives Gs b o r
      gives o h = subst (λ (y : Walked). Gives Gs b o y) (sym q) (subst (λ (y : Outcome X).
          Gives Gs b y (run_from fin d ns b 0 (best bar (in_places [])) (top_group ns))) h (whole b (bar_at bar) (best bar (in_places [])) (same_at Gs bar) p))

      finished : n ≤ b → (y : End X) → z ≡ y → Gives Gs b (ended n y) r → Says Gs n z b r.ending r.finish r.places
      finished l (met s) h (t, m, g) = subst (λ (x : Walked). Says Gs n z b x.ending x.finish x.places)
          (sym g) (l, refl, (s, h, sym m.tick, m.places))
      finished l (missed c) h (ps, g, i, a) = subst (λ (x : Walked). Says Gs n z b x.ending x.finish x.places)
          (sym g) (l, refl, h ∙ ap missed i, a, refl)

      go : Dec (b < n) → Says Gs n z b r.ending r.finish r.places
      go (yes l) =
          let g = gives cut (w.short b l) in
          subst (λ (x : Walked). Says Gs n z b x.ending x.finish x.places) (sym g.1) (l, refl, refl)
      go (no l) = finished (omega arith) z refl (gives (ended n z) (w.enough b (omega arith)))
