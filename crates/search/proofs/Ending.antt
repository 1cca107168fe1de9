-- What the walk over the filled stretches says is C of the call and the witness, and where it is asked for the worst finish.
use mathlib.Core.Path.{◌≡◌, refl, sym, ap, ap₂, subst, ◌∙◌}
use Prim.Native.Nat.{ℕ, suc, ◌≤◌, ◌<◌}
use native.Mathlib.Nat.{le_refl}
use native.Mathlib.Omega.{arith}
use mathlib.Core.List.{List, [], ◌∷◌, ◌++◌}
use mathlib.Core.Option.{Option, none, some}
use lib.ListN.{length, take, drop, get_or, length-map}
use lib.Seq.{drop-cons, take_all}
use lib.Dec.{T}
use borrow.Author.Tests.{lt-ltb, le-ltb}
use Rattle.meaning.specs.Lists.{or_given}
use Rattle.meaning.specs.Bounds.{most_higher}
use Rattle.meaning.specs.Table as Meant
use Rattle.meaning.specs.Paths.{Path, paths_of}
use Rattle.meaning.specs.Groups.{witness, worst_choice}
use Rattle.meaning.specs.Walk.{full, Bar, bar_at, End, met, end_by, worst_bar, Sees}
use Rattle.meaning.specs.Verdict.{Verdict, meets, misses, unfinished, refused, shown_paths, Listed, load_of, listed, top_of, paths_in, decided}
use Rattle.meaning.specs.Verdict.{Asked, plain, latest, count_of, walked}
use Rattle.meaning.proofs.Lists.{get_or_mapped}
use Rattle.meaning.proofs.Choices.{top_full}
use Rattle.meaning.proofs.Walks.{end_met, end_missed, walk_sees, late_walk_sees, worst_some, worst_late}
use Rattle.ways.specs.Ways.{most_counted}
use Rattle.overload.specs.Rows.{light}
use Rattle.walk.specs.declared.Ending.{Ending}
use Rattle.walk.specs.declared.Ending.TheVariants.{Meets, Misses, Unfinished}
use Rattle.walk.specs.declared.Walked.{Walked}
use Rattle.walk.specs.Steps.{run_rows}
use Rattle.walk.specs.Told.{chosen, AtPaths, Places, Says}
use Rattle.walk.proofs.Told.{walk_says, places-whole}
use Rattle.groups.specs.Lent.{roots, counts}
use Rattle.areas.specs.declared.above.Above.{Above}
use Rattle.areas.specs.Above.{path_counts, above_of}
use Rattle.areas.specs.Stretches.{stretches}
use Rattle.areas.specs.Witness.{paths_at}
use Rattle.areas.proofs.Witnesses.{places-length}
use Rattle.areas.proofs.Filling.{Few, at}
use Rattle.search.specs.Meant.{beside, meant_by, first_bar, written}
use Rattle.search.proofs.Joining.{group_many, group_length, counts_are, rows_hold, walkable}

-- ---- the verdict, from C and the witness

module _ (asked : Asked) (b : ℕ) (ks : List Meant.Task) (e d : ℕ) where
  abbrev C : ℕ
  C = count_of asked e d (top_of ks d)

  walked_enough : (o : Option (List Listed)) → C ≤ b → witness load_of e d (top_of ks d) ≡ o → walked asked b ks e d ≡ decided C o
  unfolding walked
  walked_enough o h q = rw (le-ltb b C h, q)

  walked_short : b < C → walked asked b ks e d ≡ unfinished b
  unfolding walked
  walked_short h = rw (lt-ltb b C h)

-- where the bar is behind the last group
abbrev pub last_bar : Asked → ℕ → ℕ → List (List Listed) → Bar Listed
last_bar plain e d top = bar_at d
last_bar latest e d top = worst_bar load_of e d top

-- the paths that a meets writes
abbrev pub meets_of : Asked → List Meant.Task → ℕ → ℕ → List Path
meets_of plain ks e d = []
meets_of latest ks e d = paths_in (or_given [] (worst_choice load_of e d (top_of ks d)))

beside_less : (x : Verdict) (n : ℕ) → beside x n ≤ n
beside_less (meets c) n = le_refl n
beside_less (misses c ws) n = omega arith
beside_less (unfinished b) n = omega arith
beside_less (refused k place) n = omega arith

pub written_few : (asked : Asked) (x : Ending) (h : ℕ) → written asked x h ≤ h
written_few asked (Misses n) h = le_refl h
written_few asked (Unfinished n) h = omega arith
written_few plain (Meets n) h = omega arith
written_few latest (Meets n) h = le_refl h

-- what the walk over paths sees and comes to
sees : (asked : Asked) (e d : ℕ) (top : List (List Listed)) → T (full top)
    → Sees load_of e d (bar_at (first_bar asked d)) (count_of asked e d top) (end_by (witness load_of e d top) (last_bar asked e d top)) top
sees plain e d top f = walk_sees load_of e d top f
sees latest e d top f = late_walk_sees load_of e d top f

-- ---- the paths of a choice, by their places

take-one : {X : Type 0} (z : X) (p : ℕ) (xs : List X) → p < length xs → take 1 (drop p xs) ≡ get_or xs p z ∷ []
take-one z p xs h = rw (drop-cons xs p z h)

chosen_paths : (ks : List Meant.Task) (d : ℕ) (ps : List ℕ) → length ks ≤ length ps
    → AtPaths (top_of ks d) ps → paths_in (chosen (top_of ks d) ps) ≡ paths_at ks d ps
chosen_paths [] d ps l h = refl
chosen_paths (k ∷ ks) d [] l h = absurd (omega arith)
chosen_paths (k ∷ ks) d (p ∷ ps) l h =
    let there : p < length (listed d k) = h 0 (omega arith) in
    let put : Path → Listed = λ w. record { task = Meant.unmasked k; path = w } in
    ap (λ (c : List Listed). paths_in (c ++ chosen (top_of ks d) ps)) (take-one (put []) p (listed d k) there)
    ∙ ap₂ {C = List Path} (λ (w : Path) (ws : List Path). w ∷ ws)
    (ap (λ (x : Listed). x.path) (get_or_mapped put (put []) [] (paths_of k d) p (omega (arith, length-map (paths_of k d) put))))
    (chosen_paths ks d ps (omega arith) (λ j m. h (suc j) (omega arith)))

-- ---- the walk over the stretches of ks

module _ (asked : Asked) (ks : List Meant.Task) (d : ℕ) (few : Few ks d) (e b : ℕ) (o : e ≤ light) where
  abbrev a : Above
  a = above_of d (path_counts ks d)

  abbrev top : List (List Listed)
  top = top_of ks d

  abbrev ran : Walked
  ran = run_rows (stretches ks d) d e (take (length ks) (roots a.stretches)) (take (length ks) (counts a.stretches)) (first_bar asked d) b

  abbrev end : End Listed
  end = end_by (witness load_of e d top) (last_bar asked e d top)

  module _ (r : Walked) (q : r ≡ ran) where
    abbrev Told : Ending → Type 0
    Told x = Says top (count_of asked e d top) end b x r.finish r.places

    says : Told r.ending
    says =
        walk_says load_of top (walkable ks d few e o) (group_many ks d few) (counts_are ks d few) (rows_hold ks d few) (first_bar asked d)
        (count_of asked e d top) end (sees asked e d top) b q

    -- a place for each higher task
    pub places_are : length r.places ≡ most_higher
    places_are = places-whole (walkable ks d few e o) (first_bar asked d) b q

    pub walked_is : walked asked b ks e d ≡ meant_by r.ending (paths_at ks d r.places)
    walked_is = by r.ending says
      where
        by : (x : Ending) → Told x → walked asked b ks e d ≡ meant_by x (paths_at ks d r.places)
        by (Meets n) s = walked_enough asked b ks e d none s.0 (end_met _ _ _ s.2.1).0 ∙ ap meets (sym s.1)
        by (Misses n) s =
            walked_enough asked b ks e d (some (chosen top r.places)) s.0 (end_missed _ _ _ s.2)
            ∙ ap₂ misses (sym s.1) (chosen_paths ks d r.places (omega (arith, few.seven, places_are)) s.3)
        by (Unfinished n) s = walked_short asked b ks e d s.0 ∙ ap unfinished (sym s.1)

    -- ---- a meets

    module _ (n : ℕ) (m : r.ending ≡ Meets n) where
      met_bar : (s : Bar Listed) × (end ≡ met s) × (r.finish ≡ s.tick) × Places top s.choice r.places
      met_bar = (subst Told m says).2

      bar_is : last_bar asked e d top ≡ met_bar.0
      bar_is = (end_met (witness load_of e d top) (last_bar asked e d top) met_bar.0 met_bar.1).1

      meets_places : Places top (last_bar asked e d top).choice r.places
      meets_places = subst (λ (s : Bar Listed). Places top s.choice r.places) (sym bar_is) met_bar.3

    pub finish_is : r.finish ≡ beside (meant_by r.ending (paths_at ks d r.places)) (last_bar asked e d top).tick
    finish_is = by r.ending refl says
      where
        by : (x : Ending) → r.ending ≡ x → Told x → r.finish ≡ beside (meant_by x (paths_at ks d r.places)) (last_bar asked e d top).tick
        by (Meets n) m s = (met_bar n m).2 ∙ ap (λ (t : Bar Listed). t.tick) (sym (bar_is n m))
        by (Misses n) m s = s.4
        by (Unfinished n) m s = s.2

    -- none is later than d + 1
    pub finish_low : r.finish ≤ suc d
    finish_low =
        omega (arith, finish_is, beside_less (meant_by r.ending (paths_at ks d r.places)) (last_bar asked e d top).tick, low asked)
      where
        low : (z : Asked) → (last_bar z e d top).tick ≤ suc d
        low plain = omega arith
        low latest = worst_late load_of e d top

-- where the latest finish is asked for, the paths at the places are the first that reach the worst
late_places : (ks : List Meant.Task) (d : ℕ) (few : Few ks d) (e b : ℕ) (o : e ≤ light) (r : Walked) → r ≡ ran latest ks d few e b o
    → (n : ℕ) → r.ending ≡ Meets n → AtPaths (top_of ks d) r.places × (meets_of latest ks e d ≡ paths_at ks d r.places)
late_places ks d few e b o r q n m =
    let c = worst_some load_of e d (top_of ks d) (top_full d ks few.sound) in
    let p = subst (λ (x : Option (List Listed)). Places (top_of ks d) x r.places) c.1 (meets_places latest ks d few e b o r q n m) in
    let same = chosen_paths ks d r.places (omega (arith, few.seven, places_are latest ks d few e b o r q)) p.1 in
    (p.1, ap (λ (x : Option (List Listed)). paths_in (or_given [] x)) c.1 ∙ ap paths_in p.0 ∙ same)

module _ (asked : Asked) (ks : List Meant.Task) (d : ℕ) (few : Few ks d) (e b : ℕ) (o : e ≤ light) (r : Walked) (q : r ≡ ran asked ks d few e b o) where
  abbrev ws : List Path
  ws = paths_at ks d r.places

  -- all paths at the places are shown, or none
  pub written_are : shown_paths (meets_of asked ks e d) (meant_by r.ending ws) ≡ take (written asked r.ending (length ks)) ws
  written_are = go asked q r.ending refl
    where
      all : take (length ks) ws ≡ ws
      all = take_all (length ks) ws (omega (arith, places-length ks d r.places (omega (arith, few.seven, places_are asked ks d few e b o r q))))

      go : (z : Asked) → r ≡ ran z ks d few e b o → (x : Ending) → r.ending ≡ x
          → shown_paths (meets_of z ks e d) (meant_by x ws) ≡ take (written z x (length ks)) ws
      go z p (Misses n) h = sym all
      go z p (Unfinished n) h = refl
      go plain p (Meets n) h = refl
      go latest p (Meets n) h = (late_places ks d few e b o r p n h).1 ∙ sym all

  -- the places of what is written are those of paths
  pub places-small : (j : ℕ) → j < written asked r.ending (length ks) → get_or r.places j 0 ≤ most_counted
  places-small j m = go asked q r.ending refl m
    where
      small : AtPaths (top_of ks d) r.places → j < length ks → get_or r.places j 0 ≤ most_counted
      small p l = omega (arith, p j (omega (arith, group_many ks d few)), group_length ks d few j l, (at ks d few j l).few)

      go : (z : Asked) → r ≡ ran z ks d few e b o → (x : Ending) → r.ending ≡ x → j < written z x (length ks) → get_or r.places j 0 ≤ most_counted
      go z p (Misses n) h l = small (subst (Told z ks d few e b o r p) h (says z ks d few e b o r p)).3 l
      go z p (Unfinished n) h l = absurd (omega arith)
      go plain p (Meets n) h l = absurd (omega arith)
      go latest p (Meets n) h l = small (late_places ks d few e b o r p n h).0 l
