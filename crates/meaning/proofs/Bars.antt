-- The bar as choices are tried in turn: each that finishes later raises it.
use mathlib.Core.Path.{◌≡◌, refl, sym, ap, ap₂, ◌∙◌}
use Prim.Native.Nat.{ℕ, ◌≤◌, ◌<◌, max}
use native.Mathlib.Omega.{arith}
use native.Mathlib.Decide.{dec_lt}
use mathlib.Core.Bool.{Bool, false, ◌&&◌}
use mathlib.Core.Option.{Option, some}
use mathlib.Core.List.Memᴰ
use mathlib.Core.List.{List, [], ◌∷◌, ◌++◌, map, Memᴰ}
use lib.Dec.{ltb, eqb, eqb→eq}
use borrow.Author.Tests.{lt-ltb, le-ltb, ltb-false, eq-eqb, ne_eqb}
use Rattle.meaning.specs.Lists.{pick, all, largest, first_that}
use Rattle.meaning.specs.Groups.{choice_overloads, choice_finish}
use Rattle.meaning.specs.Walk.{Bar, bar_at}
use Rattle.meaning.proofs.Lists.{mem_largest}
use Rattle.meaning.proofs.Firsts.{first_hit, first_skip, first_is}
use Rattle.meaning.proofs.Groups.{choice_late, choice_finishes}

module _ {X : Type 0} (load : X → ℕ → ℕ) (e d : ℕ) where
  abbrev fin : List X → ℕ
  fin c = choice_finish load e d c

  -- the largest finish of some choices, and the first that reaches it
  abbrev pub worst_of : List (List X) → ℕ
  worst_of cs = largest (map fin cs)

  abbrev pub reached_by : List (List X) → Option (List X)
  reached_by cs = first_that (λ (c : List X). eqb (fin c) (worst_of cs)) cs

  pub not_late : (c : List X) → choice_overloads load e d c ≡ false → fin c ≤ d
  not_late c h = ltb-false d (fin c) (sym (choice_late load e d c) ∙ h)

  abbrev pub raised : Bar X → List X → Bar X
  raised s c = pick (ltb s.tick (fin c)) (record { tick = fin c; choice = some c }) s

  abbrev pub risen : Bar X → List (List X) → Bar X
  risen s [] = s
  risen s (c ∷ cs) = risen (raised s c) cs

  pub worst_most : (cs : List (List X)) (n : ℕ) → ((c : List X) → Memᴰ c cs → fin c ≤ n) → worst_of cs ≤ n
  worst_most [] n h = omega arith
  worst_most (c ∷ cs) n h = omega (arith, h c (Memᴰ.head refl), worst_most cs n (λ b m. h b (Memᴰ.tail m)))

  pub risen_append : (s : Bar X) (bs cs : List (List X)) → risen s (bs ++ cs) ≡ risen (risen s bs) cs
  risen_append s [] cs = refl
  risen_append s (b ∷ bs) cs = risen_append (raised s b) bs cs

  pick_later : (s t : Bar X) (n : ℕ) → s.tick < n → pick (ltb s.tick n) t s ≡ t
  pick_later s t n h = rw (lt-ltb s.tick n h)

  pick_stays : (s t : Bar X) (n : ℕ) → n ≤ s.tick → pick (ltb s.tick n) t s ≡ s
  pick_stays s t n h = rw (le-ltb s.tick n h)

  -- where no choice finishes later, it stays
  pub risen_quiet : (s : Bar X) (cs : List (List X)) → ((c : List X) → Memᴰ c cs → fin c ≤ s.tick) → risen s cs ≡ s
  risen_quiet s [] h = refl
  risen_quiet s (c ∷ cs) h = rw (le-ltb s.tick (fin c) (h c (Memᴰ.head refl))) (risen_quiet s cs (λ b m. h b (Memᴰ.tail m)))

  -- else it rises to the largest finish, and has the first choice that reaches it
  abbrev pub reached : List (List X) → Bar X
  reached cs = record { tick = worst_of cs; choice = reached_by cs }

  -- a first choice that finishes last, or not
  reached_first : (c : List X) (cs : List (List X)) → worst_of cs ≤ fin c → reached (c ∷ cs) ≡ record { tick = fin c; choice = some c }
  reached_first c cs h =
      let k : worst_of (c ∷ cs) ≡ fin c = omega arith in
      rw k (ap (λ (o : Option (List X)). record { tick = fin c; choice = o })
      (first_hit (λ (b : List X). eqb (fin b) (fin c)) c cs (eq-eqb (fin c) (fin c) refl)))

  reached_later : (c : List X) (cs : List (List X)) → fin c < worst_of cs → reached (c ∷ cs) ≡ reached cs
  reached_later c cs h =
      let m = worst_of cs in
      let k : worst_of (c ∷ cs) ≡ m = omega arith in
      rw k (ap (λ (o : Option (List X)). record { tick = m; choice = o })
      (first_skip (λ (b : List X). eqb (fin b) m) c cs (ne_eqb (fin c) m (λ q. omega arith))))

  pub risen_is : (s : Bar X) (cs : List (List X)) → risen s cs ≡ pick (ltb s.tick (worst_of cs)) (reached cs) s
  risen_is s [] = sym (pick_stays s (reached []) 0 (omega arith))
  risen_is s (c ∷ cs) = go (λ t. risen_is t cs) (dec_lt s.tick (fin c)) (dec_lt (fin c) m) (dec_lt s.tick m)
    where
      m : ℕ
      m = worst_of cs

      top : Bar X
      top = record { tick = fin c; choice = some c }

      go : ((t : Bar X) → risen t cs ≡ pick (ltb t.tick m) (reached cs) t) → Dec (s.tick < fin c) → Dec (fin c < m) → Dec (s.tick < m)
          → risen s (c ∷ cs) ≡ pick (ltb s.tick (worst_of (c ∷ cs))) (reached (c ∷ cs)) s
      go ih (yes q) (yes k) j =
          ap (λ (t : Bar X). risen t cs) (pick_later s top (fin c) q) ∙ ih top ∙ pick_later top (reached cs) m k
          ∙ sym (pick_later s (reached (c ∷ cs)) (worst_of (c ∷ cs)) (omega arith) ∙ reached_later c cs k)
      go ih (yes q) (no k) j =
          ap (λ (t : Bar X). risen t cs) (pick_later s top (fin c) q) ∙ ih top ∙ pick_stays top (reached cs) m (omega arith)
          ∙ sym (pick_later s (reached (c ∷ cs)) (worst_of (c ∷ cs)) (omega arith) ∙ reached_first c cs (omega arith))
      go ih (no q) k (yes j) =
          ap (λ (t : Bar X). risen t cs) (pick_stays s top (fin c) (omega arith)) ∙ ih s ∙ pick_later s (reached cs) m j
          ∙ sym (pick_later s (reached (c ∷ cs)) (worst_of (c ∷ cs)) (omega arith) ∙ reached_later c cs (omega arith))
      go ih (no q) k (no j) =
          ap (λ (t : Bar X). risen t cs) (pick_stays s top (fin c) (omega arith)) ∙ ih s ∙ pick_stays s (reached cs) m (omega arith)
          ∙ sym (pick_stays s (reached (c ∷ cs)) (worst_of (c ∷ cs)) (omega arith))

  pub risen_tick : (s : Bar X) (cs : List (List X)) → (risen s cs).tick ≡ max s.tick (worst_of cs)
  risen_tick s cs = go (dec_lt s.tick (worst_of cs))
    where
      is : (t : Bar X) → pick (ltb s.tick (worst_of cs)) (reached cs) s ≡ t → (risen s cs).tick ≡ t.tick
      is t q = ap (λ (b : Bar X). b.tick) (risen_is s cs ∙ q)

      go : Dec (s.tick < worst_of cs) → (risen s cs).tick ≡ max s.tick (worst_of cs)
      go (yes k) = omega (arith, is (reached cs) (pick_later s (reached cs) (worst_of cs) k))
      go (no k) = omega (arith, is s (pick_stays s (reached cs) (worst_of cs) (omega arith)))

  -- from 0 on it rises to the worst of all
  pub risen_zero : (cs : List (List X)) → risen (bar_at 0) cs ≡ reached cs
  risen_zero [] = refl
  risen_zero (c ∷ cs) = risen_is (bar_at 0) (c ∷ cs)
      ∙ pick_later (bar_at 0) (reached (c ∷ cs)) (worst_of (c ∷ cs)) (omega (arith, choice_finishes load e d c))

  -- later than every choice: later than the worst
  pub later_all : (cs : List (List X)) (n : ℕ) → 1 ≤ n → all (λ (c : List X). ltb (fin c) n) cs ≡ ltb (worst_of cs) n
  later_all [] n h = sym (lt-ltb 0 n h)
  later_all (c ∷ cs) n h = go (later_all cs n h) (dec_lt (fin c) n) (dec_lt (worst_of cs) n)
    where
      go : all (λ (b : List X). ltb (fin b) n) cs ≡ ltb (worst_of cs) n → Dec (fin c < n) → Dec (worst_of cs < n)
          → (ltb (fin c) n && all (λ (b : List X). ltb (fin b) n) cs) ≡ ltb (worst_of (c ∷ cs)) n
      go ih (yes a) (yes b) = ap₂ ◌&&◌ (lt-ltb (fin c) n a) (ih ∙ lt-ltb _ n b) ∙ sym (lt-ltb (worst_of (c ∷ cs)) n (omega arith))
      go ih (yes a) (no b) = ap₂ ◌&&◌ (lt-ltb (fin c) n a) (ih ∙ le-ltb _ n (omega arith)) ∙ sym (le-ltb (worst_of (c ∷ cs)) n (omega arith))
      go ih (no a) b = ap (λ (v : Bool). v && all (λ (k : List X). ltb (fin k) n) cs) (le-ltb (fin c) n (omega arith))
          ∙ sym (le-ltb (worst_of (c ∷ cs)) n (omega arith))

  -- no choice finishes later than the worst, and the first that reaches it does finish there
  pub worst_mem : (cs : List (List X)) {c : List X} → Memᴰ c cs → fin c ≤ worst_of cs
  worst_mem cs m = mem_largest (Memᴰ.map fin m)

  pub latest_is : (cs : List (List X)) (c : List X) → reached_by cs ≡ some c → Memᴰ c cs × (fin c ≡ worst_of cs)
  latest_is cs c q = let r = first_is (λ (b : List X). eqb (fin b) (worst_of cs)) cs c q in (r.0, eqb→eq (fin c) (worst_of cs) r.1)

  pub latest_some : (c : List X) (cs : List (List X)) → (b : List X) × (reached_by (c ∷ cs) ≡ some b)
  latest_some c [] = (c, first_hit (λ (b : List X). eqb (fin b) (worst_of (c ∷ []))) c [] (eq-eqb (fin c) (worst_of (c ∷ [])) (omega arith)))
  latest_some c (k ∷ cs) = go (latest_some k cs) (dec_lt (fin c) (worst_of (k ∷ cs)))
    where
      go : (b : List X) × (reached_by (k ∷ cs) ≡ some b) → Dec (fin c < worst_of (k ∷ cs))
          → (b : List X) × (reached_by (c ∷ k ∷ cs) ≡ some b)
      go (b, q) (yes l) = (b, ap (λ (s : Bar X). s.choice) (reached_later c (k ∷ cs) l) ∙ q)
      go (b, q) (no l) = (c, ap (λ (s : Bar X). s.choice) (reached_first c (k ∷ cs) (omega arith)))
