-- Of two tables with the same jobs nothing but B tells the answers apart; with a larger B what overloads still does, and no worst finish is earlier.
use mathlib.Core.Path.{◌≡◌, refl, sym, ap, ap₂, subst, fun_ext, ◌∙◌}
use Prim.Native.Nat.{ℕ, ◌+◌, ◌*◌, ◌≤◌}
use native.Mathlib.Nat.{le_trans}
use native.Mathlib.Decide.{dec_lt}
use native.Mathlib.Omega.{arith}
use mathlib.Core.List.{List, [], ◌∷◌, map}
use lib.ListN.{length, take}
use lib.Dec.{T, ltb}
use Rattle.meaning.specs.Lists.{pick, or_given, largest}
use Rattle.meaning.specs.Table.{Task, Table, vertex_at, task_at, higher, unmasked}
use Rattle.meaning.specs.Text.{readable}
use Rattle.meaning.specs.Paths.{Path, load, paths_of}
use Rattle.meaning.specs.Groups.{witness, worst, worst_choice}
use Rattle.meaning.specs.Verdict.{Verdict, unfinished, Listed, load_of, paths_in, decided, Asked, plain, latest, count_of, walked, B, own_e, deadline, top_at}
use Rattle.meaning.specs.Verdict.{worst_at, latest_paths, meets_paths}
use Rattle.meaning.specs.Areas.{work_need, witness_need, zeroed, need_unless}
use Rattle.meaning.specs.Judge.{refusal, unless_refused, judged}
use Rattle.meaning.specs.Whole.{Place, places, verdict_at, counted, counts_of, table_answer, table_work_after}
use Rattle.meaning.specs.Demands.{loads_at, Overloadable, Finishes, Worst, SameJobs}
use Rattle.meaning.proofs.Lists.{take-map}
use Rattle.meaning.proofs.Masks.{load-unmasked, legal-unmasked, task-unmasked, table_paths_unmasked, table_load-unmasked, deadline-unmasked, top_unmasked}
use Rattle.meaning.proofs.Masks.{need_unmasked, refusal-unmasked, places-unmasked}
use Rattle.meaning.proofs.Choices.{Legals, completes_legal}

-- what masked lengths play no part in is the same
over_jobs : {X : Type 0} (F : Table → X) → ((ts : Table) → F (map unmasked ts) ≡ F ts) → (ts us : Table) → SameJobs ts us → F us ≡ F ts
over_jobs F h ts us q = sym (h us) ∙ ap F q ∙ h ts

-- ---- lists of tasks without their masked lengths

bare_loads : (ks : List Task) (ws : List Path) (t : ℕ) → loads_at ks ws t ≡ loads_at (map unmasked ks) ws t
bare_loads [] ws t = refl
bare_loads (k ∷ ks) [] t = refl
bare_loads (k ∷ ks) (w ∷ ws) t = ap₂ ◌+◌ (sym (load-unmasked k w t)) (bare_loads ks ws t)

to_bare : (ks : List Task) (ws : List Path) → Legals ks ws → Legals (map unmasked ks) ws
to_bare [] [] h = tt
to_bare [] (w ∷ ws) h = absurd h
to_bare (k ∷ ks) [] h = absurd h
to_bare (k ∷ ks) (w ∷ ws) h = (subst T (sym (legal-unmasked k w)) h.0, to_bare ks ws h.1)

from_bare : (ks : List Task) (ws : List Path) → Legals (map unmasked ks) ws → Legals ks ws
from_bare [] [] h = tt
from_bare [] (w ∷ ws) h = absurd h
from_bare (k ∷ ks) [] h = absurd h
from_bare (k ∷ ks) (w ∷ ws) h = (subst T (legal-unmasked k w) h.0, from_bare ks ws h.1)

-- ---- two tables

-- the walk over a top group
abbrev walked_on : Asked → ℕ → ℕ → ℕ → List (List Listed) → Verdict
walked_on a b e d top = let c = count_of a e d top in pick (ltb b c) (unfinished b) (decided c (witness load_of e d top))

module _ (ts us : Table) (q : SameJobs ts us) where
  pub same_paths : (k d : ℕ) → paths_of (task_at us k) d ≡ paths_of (task_at ts k) d
  same_paths k d = over_jobs (λ (t : Table). paths_of (task_at t k) d) (λ t. table_paths_unmasked t k d) ts us q

  pub same_table_loads : (k : ℕ) (w : Path) (t : ℕ) → load (task_at us k) w t ≡ load (task_at ts k) w t
  same_table_loads k w t = over_jobs (λ (x : Table). load (task_at x k) w t) (λ x. table_load-unmasked x k w t) ts us q

  module _ (i v : ℕ) where
    pub same-refusal : (work wit : ℕ) → refusal us i v work wit ≡ refusal ts i v work wit
    same-refusal work wit = over_jobs (λ (t : Table). refusal t i v work wit) (λ t. refusal-unmasked t i v work wit) ts us q

    pub same_need : work_need us i v ≡ work_need ts i v
    same_need = over_jobs (λ (t : Table). work_need t i v) (λ t. need_unmasked t i v) ts us q

    same-deadline : deadline us i v ≡ deadline ts i v
    same-deadline = over_jobs (λ (t : Table). deadline t i v) (λ t. deadline-unmasked t i v) ts us q

    same_top : top_at us i v ≡ top_at ts i v
    same_top = over_jobs (λ (t : Table). top_at t i v) (λ t. top_unmasked t i v) ts us q

    same_e : (vertex_at (task_at us i) v).e ≡ (vertex_at (task_at ts i) v).e
    same_e = over_jobs (λ (t : Table). (vertex_at (task_at t i) v).e) (λ t. ap (λ (k : Task). (vertex_at k v).e) (task-unmasked t i)) ts us q

    -- what is made of e, d and the top group
    module _ (m : B us i ≡ B ts i) where
      over_walk : {X : Type 0} (F : ℕ → ℕ → List (List Listed) → X)
          → F (own_e us i v) (deadline us i v) (top_at us i v) ≡ F (own_e ts i v) (deadline ts i v) (top_at ts i v)
      over_walk F = ap₂ (F (own_e us i v)) same-deadline same_top ∙ ap (λ (e : ℕ). F e (deadline ts i v) (top_at ts i v)) (ap₂ ◌+◌ same_e m)

      pub same-judged : (a : Asked) (b work wit : ℕ) → judged a us i v b work wit ≡ judged a ts i v b work wit
      unfolding judged walked
      same-judged a b work wit = ap₂ unless_refused (same-refusal work wit) (over_walk (walked_on a b))

      pub same_worst : worst_at us i v ≡ worst_at ts i v
      same_worst = over_walk (worst load_of)

      pub same_latest : latest_paths us i v ≡ latest_paths ts i v
      same_latest = over_walk (λ e d top. paths_in (or_given [] (worst_choice load_of e d top)))

      pub same-shown : (a : Asked) → meets_paths a us i v ≡ meets_paths a ts i v
      same-shown plain = refl
      same-shown latest = same_latest

    -- ---- legal paths of the higher tasks, and their loads

    same-higher : map unmasked (higher us i) ≡ map unmasked (higher ts i)
    same-higher = sym (take-map unmasked i us) ∙ ap (take i) q ∙ take-map unmasked i ts

    same_loads : (ws : List Path) (t : ℕ) → loads_at (higher us i) ws t ≡ loads_at (higher ts i) ws t
    same_loads ws t = bare_loads (higher us i) ws t ∙ ap (λ (ks : List Task). loads_at ks ws t) same-higher ∙ sym (bare_loads (higher ts i) ws t)

    pub same_legals : (ws : List Path) → Legals (higher ts i) ws → Legals (higher us i) ws
    same_legals ws h = from_bare (higher us i) ws (subst (λ (ks : List Task). Legals ks ws) (sym same-higher) (to_bare (higher ts i) ws h))

    -- what overloads still does with a larger B
    pub still_overloads : B ts i ≤ B us i → Overloadable ts i v → Overloadable us i v
    still_overloads h (ws, legal, over) =
        (ws, same_legals ws legal, λ t a b. omega (arith, over t a (omega (arith, same-deadline, b)), same_loads ws t, same_e, h))

    -- what is free with a larger B is free with the smaller, so no worst finish is earlier
    pub no_earlier : B ts i ≤ B us i → (n n' : ℕ) (ws ws' : List Path) → Worst ts i v n ws → Worst us i v n' ws' → n ≤ n'
    no_earlier h n n' ws ws' x y =
        let l = y.largest ws (same_legals ws (completes_legal (deadline ts i v) (higher ts i) ws x.complete)) in
        le_trans (least l.0 l.1) l.2
      where
        least : (t : ℕ) → Finishes us i v ws t → n ≤ t
        least t f =
            elim (dec_lt t n) [
              | yes u ↦ absurd (omega (arith, x.reached.first t f.some u, f.free, same_loads ws t, same_e, h))
              | no u ↦ omega arith
            ]

  -- ---- whole tables

  module _ (m : (i : ℕ) → B us i ≡ B ts i) where
    same-verdicts : (b work : ℕ) → verdict_at us b work ≡ verdict_at ts b work
    same-verdicts b work = fun_ext (λ (p : Place).
        ap (λ (d : ℕ). judged plain us p.task p.vertex b work (p.task * (1 + d))) (same-deadline p.task p.vertex)
        ∙ same-judged p.task p.vertex (m p.task) plain b work (witness_need ts p.task p.vertex))

    same-places : places us ≡ places ts
    same-places = over_jobs places places-unmasked ts us q

    pub same_answer : (b work : ℕ) → table_answer (readable us) b work ≡ table_answer (readable ts) b work
    same_answer b work = ap₂ (λ (f : Place → Verdict) (ps : List Place). counted (counts_of (map f ps))) (same-verdicts b work) same-places

    pub same_work : (b : ℕ) (cells : List ℕ) → table_work_after (readable us) b cells ≡ table_work_after (readable ts) b cells
    same_work b cells =
        ap (λ (n : ℕ). zeroed n cells)
        (ap₂ (λ (f : Place → ℕ) (ps : List Place). largest (map f ps))
        (fun_ext (λ (p : Place). ap₂ (λ (f : Place → Verdict) (n : ℕ). need_unless (f p) n) (same-verdicts b (length cells)) (same_need p.task p.vertex)))
        same-places)
