-- The worst finish of a vertex: reached by complete paths, the first in order, and no legal paths of any length finish later.
use mathlib.Core.Path.{◌≡◌, sym, ap, subst, subst₂, ◌∙◌}
use Prim.Native.Nat.{ℕ, ◌+◌, ◌≤◌, ◌<◌}
use native.Mathlib.Omega.{arith}
use native.Mathlib.Decide.{dec_lt}
use mathlib.Core.Bool.{Bool}
use mathlib.Core.Logic.{◌⊎◌, inl, inr}
use mathlib.Core.Option.{Option, some}
use mathlib.Core.List.{List, []}
use lib.Dec.{T, eqb, lt→ltb}
use borrow.Author.Tests.{eq-eqb}
use Rattle.meaning.specs.Lists.{or_given}
use Rattle.meaning.specs.Table.{Task, Table, higher}
use Rattle.meaning.specs.Paths.{Path, legal}
use Rattle.meaning.specs.Groups.{finish, choice_loads, choice_finish, choices, worst, worst_choice}
use Rattle.meaning.specs.Verdict.{Listed, load_of, top_of, paths_in, own_e, deadline, worst_at, latest_paths}
use Rattle.meaning.specs.Sound.{AllSound}
use Rattle.meaning.specs.Demands.{EachOf, Completes, loads_at, Overload, ChoiceBefore, Overloadable, Finishes, Worst}
use Rattle.meaning.proofs.Firsts.{first_least}
use Rattle.meaning.proofs.Finish.{finish_some, finish_free, finish_least, finish_mono, finish-same, exceeds-every, exceeds_late}
use Rattle.meaning.proofs.Groups.{In, in_choices, choices_in}
use Rattle.meaning.proofs.Bars.{worst_of, worst_mem, latest_is}
use Rattle.meaning.proofs.Walks.{worst_some}
use Rattle.meaning.proofs.Choices.{in_completes, completes_in, completes_legal, in_loads, choice_suffices, Earlier, rising_choices, top_full}

module _ (ts : Table) (i v : ℕ) (s : AllSound (higher ts i)) where
  abbrev ks : List Task
  ks = higher ts i

  abbrev e : ℕ
  e = own_e ts i v

  abbrev d : ℕ
  d = deadline ts i v

  abbrev cs : List (List Listed)
  cs = choices (top_of ks d)

  abbrev fin : List Listed → ℕ
  fin c = choice_finish load_of e d c

  -- ---- the finish of paths, by the definition and by the demand

  abbrev finish_of : List Path → ℕ
  finish_of ws = finish e d (loads_at ks ws)

  finishes_by : (ws : List Path) → finish_of ws ≤ d → Finishes ts i v ws (finish_of ws)
  finishes_by ws h =
      record {
        some = finish_some e d (loads_at ks ws);
        most = h;
        free = finish_free e d (loads_at ks ws) h;
        first = λ u a l. busy u a l (dec_lt u (e + loads_at ks ws u));
      }
    where
      busy : (u : ℕ) → 1 ≤ u → u < finish_of ws → Dec (u < e + loads_at ks ws u) → u < e + loads_at ks ws u
      busy u a l (yes k) = k
      busy u a l (no k) = absurd (omega (arith, finish_least e d (loads_at ks ws) u a (omega arith) (omega arith)))

  finishes_at : (ws : List Path) (t : ℕ) → Finishes ts i v ws t → finish_of ws ≡ t
  finishes_at ws t f = go (dec_lt (finish_of ws) t)
    where
      below : finish_of ws ≤ t
      below = finish_least e d (loads_at ks ws) t f.some f.most f.free

      go : Dec (finish_of ws < t) → finish_of ws ≡ t
      go (yes l) =
          absurd (omega (
            arith,
            f.first (finish_of ws) (finish_some e d (loads_at ks ws)) l,
            finish_free e d (loads_at ks ws) (omega (arith, f.most)),
          ))
      go (no l) = omega (arith, below)

  -- paths that finish later than d overload
  late_overload : (ws : List Path) → d < finish_of ws → Overload ks e d ws
  late_overload ws h = exceeds-every e d (loads_at ks ws) (subst T (sym (exceeds_late e d (loads_at ks ws))) (lt→ltb d (finish_of ws) h))

  -- a choice finishes when its paths do
  fin_paths : (c : List Listed) → In c (top_of ks d) → finish_of (paths_in c) ≡ fin c
  unfolding choice_finish
  fin_paths c p = finish-same e d (loads_at ks (paths_in c)) (choice_loads load_of c) (λ t a b. in_loads d ks c t p)

  -- ---- the first choice that reaches the worst finish

  record Found : Type 0 where
    choice : List Listed
    is : worst_choice load_of e d (top_of ks d) ≡ some choice
    in_top : In choice (top_of ks d)
    worst_is : fin choice ≡ worst load_of e d (top_of ks d)

  found : Found
  unfolding worst worst_choice
  found =
      let b = worst_some load_of e d (top_of ks d) (top_full d ks s) in
      let r = latest_is load_of e d cs b.0 b.1 in
      record { choice = b.0; is = b.1; in_top = choices_in b.0 (top_of ks d) r.0; worst_is = r.1 }

  paths_are : latest_paths ts i v ≡ paths_in found.choice
  paths_are = ap (λ (o : Option (List Listed)). paths_in (or_given [] o)) found.is

  reached : finish_of (latest_paths ts i v) ≡ worst_at ts i v
  reached = ap finish_of paths_are ∙ fin_paths found.choice found.in_top ∙ found.worst_is

  pub latest_complete : Completes d ks (latest_paths ts i v)
  latest_complete = subst (λ (ws : List Path). Completes d ks ws) (sym paths_are) (in_completes d ks found.choice found.in_top)

  largest : (us : List Path) → EachOf (λ (k : Task) (w : Path). T (legal k w)) ks us → finish_of us ≤ worst_at ts i v
  unfolding worst choice_finish
  largest us l =
      let c = choice_suffices d ks s us l in
      let h = finish_mono e d (loads_at ks us) (choice_loads load_of c.0) (λ t a b. c.2 t b) in
      omega (arith, worst_mem load_of e d cs (in_choices c.0 (top_of ks d) c.1))

  first : (us : List Path) → Completes d ks us → finish_of us ≡ worst_at ts i v → (latest_paths ts i v ≡ us) ⊎ ChoiceBefore (latest_paths ts i v) us
  unfolding worst worst_choice
  first us m q =
      let c = completes_in d ks us m in
      let is : fin c.0 ≡ worst load_of e d (top_of ks d) = sym (fin_paths c.0 c.1) ∙ ap finish_of c.2 ∙ q in
      let f : List Listed → Bool = λ b. eqb (fin b) (worst_of load_of e d cs) in
      let l =
      first_least f Earlier cs (rising_choices d ks s) (in_choices c.0 (top_of ks d) c.1)
      (subst T (sym (eq-eqb (fin c.0) (worst_of load_of e d cs) is)) tt) in
      go l.0 c.0 (ap (λ (o : Option (List Listed)). paths_in (or_given [] o)) l.1) c.2 l.2
    where
      go : (x c : List Listed) → latest_paths ts i v ≡ paths_in x → paths_in c ≡ us → (x ≡ c) ⊎ Earlier x c
          → (latest_paths ts i v ≡ us) ⊎ ChoiceBefore (latest_paths ts i v) us
      go x c a b (inl h) = inl (a ∙ ap paths_in h ∙ b)
      go x c a b (inr h) = inr (subst₂ ChoiceBefore (sym a) b h)

  -- where nothing overloads, the worst is in time
  pub in_time : (Overloadable ts i v → ⊥) → worst_at ts i v ≤ d
  in_time n =
      elim (dec_lt d (worst_at ts i v)) [
        | yes h ↦
            let ws = latest_paths ts i v in
            absurd (n (ws, completes_legal d ks ws latest_complete, late_overload ws (omega (arith, reached))))
        | no h ↦ omega arith
      ]

  pub worst_is : (Overloadable ts i v → ⊥) → Worst ts i v (worst_at ts i v) (latest_paths ts i v)
  worst_is n =
      record {
        complete = latest_complete;
        reached = subst (Finishes ts i v (latest_paths ts i v)) reached (finishes_by (latest_paths ts i v) (omega (arith, reached, in_time n)));
        largest = λ us l. (finish_of us, finishes_by us (omega (arith, largest us l, in_time n)), largest us l);
        first = λ us m f. first us m (finishes_at us (worst_at ts i v) f);
      }

  -- with nothing above, e itself
  pub worst_alone : ks ≡ [] → 1 ≤ e → (n : ℕ) (ws : List Path) → Worst ts i v n ws → n ≡ e
  worst_alone q a n ws w = go (dec_lt e n)
    where
      no_load : (t : ℕ) → loads_at ks ws t ≡ 0
      no_load t = ap (λ (l : List Task). loads_at l ws t) q

      go : Dec (e < n) → n ≡ e
      go (yes l) = absurd (omega (arith, w.reached.first e a l, no_load e))
      go (no l) = omega (arith, w.reached.free, no_load n)
