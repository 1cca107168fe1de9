-- The verdict on a vertex: what each of its cases says, and that the witness is there exactly if some legal paths overload.
use mathlib.Core.Path.{◌≡◌, refl, sym, ap, subst, ◌∙◌}
use Prim.Native.Nat.{ℕ, ◌≤◌, ◌<◌}
use native.Mathlib.Omega.{arith}
use native.Mathlib.Decide.{dec_lt}
use mathlib.Core.Bool.{Bool}
use mathlib.Core.Logic.{◌⊎◌, inl, inr}
use mathlib.Core.Option.{Option, none, some}
use mathlib.Core.List.{List}
use lib.Dec.{T}
use borrow.Author.Tests.{lt-ltb, le-ltb}
use Rattle.meaning.specs.Table.{Task, Table, higher}
use Rattle.meaning.specs.Paths.{Path}
use Rattle.meaning.specs.Groups.{choice_loads, choice_overloads, choices, witness}
use Rattle.meaning.specs.Verdict.{Verdict, meets, misses, unfinished, refused, Listed, load_of, top_of, paths_in, decided, Asked, walked, own_e, deadline}
use Rattle.meaning.specs.Verdict.{top_at, C}
use Rattle.meaning.specs.Judge.{Row, refusal, judged}
use Rattle.meaning.specs.Sound.{AllSound}
use Rattle.meaning.specs.Demands.{Completes, Overload, ChoiceBefore, Overloadable, First}
use Rattle.meaning.proofs.Finish.{exceeds-every, every-exceeds}
use Rattle.meaning.proofs.Firsts.{first_is, first_least}
use Rattle.meaning.proofs.Groups.{In, in_choices, choices_in}
use Rattle.meaning.proofs.Choices.{in_completes, completes_in, completes_legal, in_loads, choice_suffices, Earlier, rising_choices}

-- the walk of vertex v of task i
abbrev pub walked_at : Asked → Table → ℕ → ℕ → ℕ → Verdict
walked_at asked ts i v b = walked asked b (higher ts i) (own_e ts i v) (deadline ts i v)

-- ---- the witness of a vertex

abbrev pub W : Table → ℕ → ℕ → Option (List Listed)
W ts i v = witness load_of (own_e ts i v) (deadline ts i v) (top_at ts i v)

module _ (ts : Table) (i v : ℕ) (s : AllSound (higher ts i)) where
  abbrev ks : List Task
  ks = higher ts i

  abbrev e : ℕ
  e = own_e ts i v

  abbrev d : ℕ
  d = deadline ts i v

  abbrev tries : List Listed → Bool
  tries c = choice_overloads load_of e d c

  -- a choice overloads by the test exactly if its paths do by the demand
  tried : (c : List Listed) → In c (top_of ks d) → T (tries c) → Overload ks e d (paths_in c)
  unfolding choice_overloads
  tried c p q t a b = omega (arith, in_loads d ks c t p, exceeds-every e d (choice_loads load_of c) q t a b)

  untried : (c : List Listed) → In c (top_of ks d) → Overload ks e d (paths_in c) → T (tries c)
  unfolding choice_overloads
  untried c p h = every-exceeds e d (choice_loads load_of c) (λ t a b. omega (arith, in_loads d ks c t p, h t a b))

  -- an overloading choice has the witness before it, or is it
  least : (c : List Listed) → In c (top_of ks d) → T (tries c) → (x : List Listed) × (W ts i v ≡ some x) × ((x ≡ c) ⊎ Earlier x c)
  unfolding witness
  least c p q = first_least tries Earlier (choices (top_of ks d)) (rising_choices d ks s) (in_choices c (top_of ks d) p) q

  pub witness_has : Overloadable ts i v → (x : List Listed) × (W ts i v ≡ some x)
  unfolding choice_overloads
  witness_has (ws, legal, over) =
      let r = choice_suffices d ks s ws legal in
      let l = least r.0 r.1 (every-exceeds e d (choice_loads load_of r.0) (λ t a b. omega (arith, over t a b, r.2 t b))) in
      (l.0, l.1)

  witness_in : (x : List Listed) → W ts i v ≡ some x → In x (top_of ks d) × T (tries x)
  unfolding witness
  witness_in x q = let r = first_is tries (choices (top_of ks d)) x q in (choices_in x (top_of ks d) r.0, r.1)

  pub witness_first : (x : List Listed) → W ts i v ≡ some x → First ts i v (paths_in x)
  witness_first x q =
      let r = witness_in x q in
      record { complete = in_completes d ks x r.0; overload = tried x r.0 r.1; first = before }
    where
      same : (y c : List Listed) (us : List Path) → W ts i v ≡ some y → paths_in c ≡ us → (y ≡ c) ⊎ Earlier y c → (paths_in x ≡ us) ⊎ ChoiceBefore (paths_in x) us
      same y c us a b (inl h) = let k : x ≡ c = cc in inl (ap paths_in k ∙ b)
      same y c us a b (inr h) = let k : y ≡ x = cc in
          inr (subst (λ (l : List Path). ChoiceBefore (paths_in x) l) b (subst (λ (l : List Listed). Earlier l c) k h))

      before : (us : List Path) → Completes d ks us → Overload ks e d us → (paths_in x ≡ us) ⊎ ChoiceBefore (paths_in x) us
      before us m o =
          let c = completes_in d ks us m in
          let l = least c.0 c.1 (untried c.0 c.1 (subst (λ (l : List Path). Overload ks e d l) (sym c.2) o)) in
          same l.0 c.0 us l.1 c.2 l.2

  pub first_overloads : (ws : List Path) → First ts i v ws → Overloadable ts i v
  first_overloads ws f = (ws, completes_legal d ks ws f.complete, f.overload)

-- ---- the cases of a verdict

pub decided_misses : (n : ℕ) (o : Option (List Listed)) (c : ℕ) (ws : List Path)
    → decided n o ≡ misses c ws → (x : List Listed) × (o ≡ some x) × (ws ≡ paths_in x) × (c ≡ n)
decided_misses n none c ws q = absurd (let z : ◌≡◌ {A = ℕ} 0 1 = cc in omega arith)
decided_misses n (some x) c ws q = (x, refl, cc, cc)

pub decided_meets : (n : ℕ) (o : Option (List Listed)) (c : ℕ) → decided n o ≡ meets c → (o ≡ none) × (c ≡ n)
decided_meets n none c q = (refl, cc)
decided_meets n (some x) c q = absurd (let z : ◌≡◌ {A = ℕ} 0 1 = cc in omega arith)

-- a meets or a misses
abbrev pub Given : Verdict → Type 0
Given (meets c) = Unit {0}
Given (misses c ws) = Unit {0}
Given (unfinished b) = ⊥
Given (refused k place) = ⊥

decided_given : (n : ℕ) (o : Option (List Listed)) → Given (decided n o)
decided_given n none = tt
decided_given n (some x) = tt

-- ---- from the judgement to C and the witness

module _ (asked : Asked) (ts : Table) (i v b work wit : ℕ) where
  abbrev D : Verdict
  D = decided (C asked ts i v) (W ts i v)

  pub judged_enough : refusal ts i v work wit ≡ none → C asked ts i v ≤ b → judged asked ts i v b work wit ≡ D
  unfolding judged
  judged_enough q h = rw q (rw (le-ltb b (C asked ts i v) h))

  pub judged_short : refusal ts i v work wit ≡ none → b < C asked ts i v → judged asked ts i v b work wit ≡ unfinished b
  unfolding judged
  judged_short q h = rw q (rw (lt-ltb b (C asked ts i v) h))

  pub judged_refused : (r : Row) → refusal ts i v work wit ≡ some r → judged asked ts i v b work wit ≡ refused r.number r.place
  unfolding judged
  judged_refused r q = rw q

  -- a meets or a misses: no refusal, and budget enough
  pub judged_given : (x : Verdict) → judged asked ts i v b work wit ≡ x → Given x → (refusal ts i v work wit ≡ none) × (C asked ts i v ≤ b) × (D ≡ x)
  judged_given x q g = go (refusal ts i v work wit) refl (dec_lt b (C asked ts i v))
    where
      is : (y : Verdict) → judged asked ts i v b work wit ≡ y → Given y
      is y p = subst Given (sym q ∙ p) g

      go : (o : Option Row) → refusal ts i v work wit ≡ o → Dec (b < C asked ts i v) → (refusal ts i v work wit ≡ none) × (C asked ts i v ≤ b) × (D ≡ x)
      go (some r) p l = absurd (is (refused r.number r.place) (judged_refused r p))
      go none p (yes l) = absurd (is (unfinished b) (judged_short p l))
      go none p (no l) = (p, omega arith, sym (judged_enough p (omega arith)) ∙ q)

  pub judged_unfinished : (n : ℕ) → judged asked ts i v b work wit ≡ unfinished n → (n ≡ b) × (b < C asked ts i v)
  judged_unfinished n q = go (refusal ts i v work wit) refl (dec_lt b (C asked ts i v))
    where
      go : (o : Option Row) → refusal ts i v work wit ≡ o → Dec (b < C asked ts i v) → (n ≡ b) × (b < C asked ts i v)
      go (some r) p l =
          absurd (let k : refused r.number r.place ≡ unfinished n = sym (judged_refused r p) ∙ q in let z : ◌≡◌ {A = ℕ} 0 1 = cc in omega arith)
      go none p (yes l) = let k : unfinished b ≡ unfinished n = sym (judged_short p l) ∙ q in (cc, l)
      go none p (no l) = absurd (subst Given (sym (judged_enough p (omega arith)) ∙ q) (decided_given (C asked ts i v) (W ts i v)))

  -- refused by a row alone
  pub judged_row : refusal ts i v work wit ≡ none → (k place : ℕ) → judged asked ts i v b work wit ≡ refused k place → ⊥
  judged_row p k place q = go (dec_lt b (C asked ts i v))
    where
      go : Dec (b < C asked ts i v) → ⊥
      go (yes l) = let e : unfinished b ≡ refused k place = sym (judged_short p l) ∙ q in let z : ◌≡◌ {A = ℕ} 0 1 = cc in omega arith
      go (no l) = subst Given (sym (judged_enough p (omega arith)) ∙ q) (decided_given (C asked ts i v) (W ts i v))
