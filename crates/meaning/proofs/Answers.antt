-- What each answer to a readable text says of the vertex.
use mathlib.Core.Path.{◌≡◌, refl, sym, ap, subst, ◌∙◌}
use Prim.Native.Nat.{ℕ, ◌-◌, ◌*◌, ◌≤◌, ◌<◌}
use native.Mathlib.Nat.{le_trans}
use native.Mathlib.Omega.{arith}
use mathlib.Core.Option.{Option, none, some}
use mathlib.Core.List.{List}
use Rattle.meaning.specs.Table.{Table, higher}
use Rattle.meaning.specs.Text.{readable, read}
use Rattle.meaning.specs.Paths.{Path}
use Rattle.meaning.specs.Groups.{P}
use Rattle.meaning.specs.Verdict.{meets, misses, unfinished, Listed, load_of, paths_in, decided, Asked, plain, latest, own_e, deadline, top_at, C}
use Rattle.meaning.specs.Judge.{refusal, judged, answer}
use Rattle.meaning.specs.Sound.{AllSound, SoundTable}
use Rattle.meaning.specs.Demands.{Overloadable, First}
use Rattle.meaning.proofs.Lists.{mem_take}
use Rattle.meaning.proofs.Walks.{count_P, late_P, count_late}
use Rattle.meaning.proofs.Choices.{top_full}
use Rattle.meaning.proofs.Refusals.{larger_none}
use Rattle.meaning.proofs.Verdicts.{W, Given, witness_has, witness_first, first_overloads, decided_misses, decided_meets, judged_enough, judged_short}
use Rattle.meaning.proofs.Verdicts.{judged_given, judged_unfinished}

-- no refusal of 8 to 11 applies
abbrev pub Admitted : Table → ℕ → ℕ → ℕ → ℕ → Type 0
Admitted ts i v work wit = refusal ts i v work wit ≡ none

pub sound_higher : (ts : Table) (i : ℕ) → SoundTable ts → AllSound (higher ts i)
sound_higher ts i s k m = s.each_task k (mem_take i ts m)

module _ (asked : Asked) (text : List ℕ) (ts : Table) (q : read text ≡ readable ts) (i v : ℕ) where
  answer_is : (b work wit : ℕ) → answer asked text i v b work wit ≡ judged asked ts i v b work wit
  answer_is b work wit = rw q

  pub short_unfinished : (b work wit : ℕ) → Admitted ts i v work wit → b < C asked ts i v → answer asked text i v b work wit ≡ unfinished b
  short_unfinished b work wit r h = answer_is b work wit ∙ judged_short asked ts i v b work wit r h

  pub unfinished_short : (b work wit n : ℕ) → answer asked text i v b work wit ≡ unfinished n → (n ≡ b) × (b < C asked ts i v)
  unfinished_short b work wit n a = judged_unfinished asked ts i v b work wit n (sym (answer_is b work wit) ∙ a)

  -- once given, for good
  pub given_lasts : (b b' work work' wit wit' : ℕ) → b ≤ b' → work ≤ work' → wit ≤ wit'
      → Given (answer asked text i v b work wit) → answer asked text i v b' work' wit' ≡ answer asked text i v b work wit
  given_lasts b b' work work' wit wit' h k l g =
      let r = judged_given asked ts i v b work wit (answer asked text i v b work wit) (sym (answer_is b work wit)) g in
      answer_is b' work' wit' ∙ judged_enough asked ts i v b' work' wit' (larger_none ts i v work work' wit wit' k l r.0) (le_trans r.1 h) ∙ r.2

  -- the paths of a miss are the witness's
  pub misses_witness : (b work wit c : ℕ) (ws : List Path) → answer asked text i v b work wit ≡ misses c ws
      → (x : List Listed) × (W ts i v ≡ some x) × (ws ≡ paths_in x)
  misses_witness b work wit c ws a =
      let g = judged_given asked ts i v b work wit (misses c ws) (sym (answer_is b work wit) ∙ a) tt in
      let m = decided_misses (C asked ts i v) (W ts i v) c ws g.2 in
      (m.0, m.1, m.2)

  module _ (s : AllSound (higher ts i)) where
    pub misses_says : (b work wit c : ℕ) (ws : List Path) → answer asked text i v b work wit ≡ misses c ws
        → Overloadable ts i v × First ts i v ws × (c ≡ C asked ts i v)
    misses_says b work wit c ws a =
        let g = judged_given asked ts i v b work wit (misses c ws) (sym (answer_is b work wit) ∙ a) tt in
        let m = decided_misses (C asked ts i v) (W ts i v) c ws g.2 in
        let f = subst (λ (l : List Path). First ts i v l) (sym m.2) (witness_first ts i v s m.0 m.1) in
        (first_overloads ts i v s ws f, f, m.3)

    pub meets_says : (b work wit c : ℕ) → answer asked text i v b work wit ≡ meets c → (Overloadable ts i v → ⊥) × (c ≡ C asked ts i v)
    meets_says b work wit c a =
        let g = judged_given asked ts i v b work wit (meets c) (sym (answer_is b work wit) ∙ a) tt in
        let m = decided_meets (C asked ts i v) (W ts i v) c g.2 in
        (λ o. let w = witness_has ts i v s o in let e : some w.0 ≡ none = sym w.1 ∙ m.0 in let z : ◌≡◌ {A = ℕ} 0 1 = cc in omega arith, m.1)

    pub overload_misses : (b work wit : ℕ) → Admitted ts i v work wit → C asked ts i v ≤ b
        → Overloadable ts i v → (ws : List Path) × (answer asked text i v b work wit ≡ misses (C asked ts i v) ws)
    overload_misses b work wit r h o =
        let w = witness_has ts i v s o in
        (paths_in w.0, answer_is b work wit ∙ judged_enough asked ts i v b work wit r h ∙ ap (decided (C asked ts i v)) w.1)

    pub free_meets : (b work wit : ℕ) → Admitted ts i v work wit → C asked ts i v ≤ b
        → (Overloadable ts i v → ⊥) → answer asked text i v b work wit ≡ meets (C asked ts i v)
    free_meets b work wit r h n = answer_is b work wit ∙ judged_enough asked ts i v b work wit r h ∙ ap (decided (C asked ts i v)) (free (W ts i v) refl)
      where
        free : (o : Option (List Listed)) → W ts i v ≡ o → W ts i v ≡ none
        free none e = e
        free (some x) e = absurd (n (first_overloads ts i v s (paths_in x) (witness_first ts i v s x e)))

pub few_groups : (asked : Asked) (ts : Table) (i v : ℕ) → AllSound (higher ts i) → C asked ts i v ≤ 2 * P (top_at ts i v) - 1
few_groups plain ts i v s = count_P load_of (own_e ts i v) (deadline ts i v) (top_at ts i v) (top_full (deadline ts i v) (higher ts i) s)
few_groups latest ts i v s = late_P load_of (own_e ts i v) (deadline ts i v) (top_at ts i v) (top_full (deadline ts i v) (higher ts i) s)

-- the latest finish takes no fewer groups
pub more_groups : (ts : Table) (i v : ℕ) → AllSound (higher ts i) → C plain ts i v ≤ C latest ts i v
more_groups ts i v s = count_late load_of (own_e ts i v) (deadline ts i v) (top_at ts i v) (top_full (deadline ts i v) (higher ts i) s)
