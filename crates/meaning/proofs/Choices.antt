-- Choices among listed paths, as the groups have them, and as the demands do: one path of each task.
use mathlib.Core.Path.{◌≡◌, refl, sym, ap, ap₂, subst, subst₂}
use Prim.Native.Nat.{ℕ, ◌+◌, ◌≤◌}
use native.Mathlib.Nat.{le_refl}
use native.Mathlib.Omega.{arith}
use mathlib.Core.Logic.{inl, inr}
use mathlib.Core.List.Memᴰ
use mathlib.Core.List.{List, [], ◌∷◌, map, Memᴰ}
use lib.ListN.{length, length-map}
use lib.Dec.{T, ltb, lt→ltb}
use Rattle.meaning.specs.Lists.{gather, Rising}
use Rattle.meaning.specs.Table.{Task, unmasked}
use Rattle.meaning.specs.Paths.{Path, legal, load, paths_of, Before}
use Rattle.meaning.specs.Groups.{choice_loads, choices}
use Rattle.meaning.specs.Walk.{full}
use Rattle.meaning.specs.Verdict.{Listed, load_of, listed, top_of, paths_in}
use Rattle.meaning.specs.Sound.{AllSound}
use Rattle.meaning.specs.Demands.{EachOf, Completes, loads_at, ChoiceBefore}
use Rattle.meaning.proofs.Lists.{both, gather_mem}
use Rattle.meaning.proofs.Rising.{rising_one, rising_append}
use Rattle.meaning.proofs.Groups.{In}
use Rattle.meaning.proofs.Masks.{load-unmasked}
use Rattle.meaning.proofs.PathsOf.{paths_legal, paths_rising, paths_some, paths_suffice}

-- a legal path of each, of any length
abbrev pub Legals : List Task → List Path → Type 0
Legals ks ws = EachOf (λ (k : Task) (w : Path). T (legal k w)) ks ws

abbrev put : Task → Path → Listed
put k w = record { task = unmasked k; path = w }

-- a listed path is its task's, and one of its paths
pub listed_mem : (d : ℕ) (k : Task) {x : Listed} → Memᴰ x (listed d k) → (w : Path) × Memᴰ w (paths_of k d) × (put k w ≡ x)
listed_mem d k m = Memᴰ.of_map (put k) (paths_of k d) m

-- ---- a choice of the top group is one complete path of each task

pub in_completes : (d : ℕ) (ks : List Task) (c : List Listed) → In c (top_of ks d) → Completes d ks (paths_in c)
in_completes d [] [] p = tt
in_completes d [] (x ∷ c) p = absurd p
in_completes d (k ∷ ks) [] p = absurd p
in_completes d (k ∷ ks) (x ∷ c) p = let r = listed_mem d k p.0 in
    (subst (λ (y : Listed). Memᴰ y.path (paths_of k d)) r.2 r.1, in_completes d ks c p.1)

pub completes_in : (d : ℕ) (ks : List Task) (ws : List Path) → Completes d ks ws → (c : List Listed) × In c (top_of ks d) × (paths_in c ≡ ws)
completes_in d [] [] p = ([], tt, refl)
completes_in d [] (w ∷ ws) p = absurd p
completes_in d (k ∷ ks) [] p = absurd p
completes_in d (k ∷ ks) (w ∷ ws) p = let r = completes_in d ks ws p.1 in
    (put k w ∷ r.0, (Memᴰ.map (put k) p.0, r.1), ap (λ (l : List Path). w ∷ l) r.2)

pub completes_legal : (d : ℕ) (ks : List Task) (ws : List Path) → Completes d ks ws → Legals ks ws
completes_legal d [] [] p = tt
completes_legal d [] (w ∷ ws) p = absurd p
completes_legal d (k ∷ ks) [] p = absurd p
completes_legal d (k ∷ ks) (w ∷ ws) p = (paths_legal k d p.0, completes_legal d ks ws p.1)

-- with the same loads
pub in_loads : (d : ℕ) (ks : List Task) (c : List Listed) (t : ℕ) → In c (top_of ks d) → loads_at ks (paths_in c) t ≡ choice_loads load_of c t
in_loads d [] [] t p = refl
in_loads d [] (x ∷ c) t p = absurd p
in_loads d (k ∷ ks) [] t p = absurd p
in_loads d (k ∷ ks) (x ∷ c) t p =
    let r = listed_mem d k p.0 in
    ap₂ ◌+◌ (subst (λ (y : Listed). load k y.path t ≡ load_of y t) r.2 (sym (load-unmasked k r.0 t))) (in_loads d ks c t p.1)

-- ---- no legal paths load more than some choice

pub choice_suffices : (d : ℕ) (ks : List Task) → AllSound ks → (ws : List Path) → Legals ks ws
    → (c : List Listed) × In c (top_of ks d) × ((t : ℕ) → t ≤ d → loads_at ks ws t ≤ choice_loads load_of c t)
choice_suffices d [] s [] l = ([], tt, λ t h. le_refl 0)
choice_suffices d [] s (w ∷ ws) l = absurd l
choice_suffices d (k ∷ ks) s [] l = absurd l
choice_suffices d (k ∷ ks) s (w ∷ ws) l =
    let a = paths_suffice k (s k (Memᴰ.head refl)) d w l.0 in
    let b = choice_suffices d ks (λ j m. s j (Memᴰ.tail m)) ws l.1 in
    (put k a.0 ∷ b.0, (Memᴰ.map (put k) a.1, b.1), λ t h. omega (arith, a.2 t h, b.2 t h, load-unmasked k a.0 t))

-- ---- the choices in order, task 0 compared first

abbrev pub Earlier : List Listed → List Listed → Type 0
Earlier b c = ChoiceBefore (paths_in b) (paths_in c)

rising_listed : (k : Task) (ws : List Path) → Rising Before ws → Rising (λ (x y : Listed). Before x.path y.path) (map (put k) ws)
rising_listed k [] r = tt
rising_listed k (w ∷ ws) r = (
  λ y m. let j = Memᴰ.of_map (put k) ws m in subst (λ (z : Listed). Before w z.path) j.2 (r.0 j.0 j.1),
  rising_listed k ws r.1,
)

rising_begun : (x : Listed) (cs : List (List Listed)) → Rising Earlier cs → Rising Earlier (map (λ (c : List Listed). x ∷ c) cs)
rising_begun x [] r = tt
rising_begun x (c ∷ cs) r = (
  λ y m. let j = Memᴰ.of_map (λ (q : List Listed). x ∷ q) cs m in subst (λ (z : List Listed). Earlier (x ∷ c) z) j.2 (inr (refl, r.0 j.0 j.1)),
  rising_begun x cs r.1,
)

rising_all : (r : List Listed) (cs : List (List Listed)) → Rising (λ (x y : Listed). Before x.path y.path) r → Rising Earlier cs
    → Rising Earlier (gather (λ (x : Listed). map (λ (c : List Listed). x ∷ c) cs) r)
rising_all [] cs h s = tt
rising_all (x ∷ r) cs h s =
    rising_append Earlier (map (λ (c : List Listed). x ∷ c) cs)
    (gather (λ (y : Listed). map (λ (c : List Listed). y ∷ c) cs) r) (rising_begun x cs s) (rising_all r cs h.1 s)
    (λ a b m n.
    let i = Memᴰ.of_map (λ (q : List Listed). x ∷ q) cs m in
    let j = gather_mem (λ (y : Listed). map (λ (c : List Listed). y ∷ c) cs) r n in
    let l = Memᴰ.of_map (λ (q : List Listed). j.0 ∷ q) cs j.2 in
    subst₂ Earlier i.2 l.2 (inl (h.0 j.0 j.1)))

pub rising_choices : (d : ℕ) (ks : List Task) → AllSound ks → Rising Earlier (choices (top_of ks d))
rising_choices d [] s = rising_one Earlier []
rising_choices d (k ∷ ks) s =
    rising_all (listed d k) (choices (top_of ks d)) (rising_listed k (paths_of k d) (paths_rising k (s k (Memᴰ.head refl)) d))
    (rising_choices d ks (λ j m. s j (Memᴰ.tail m)))

-- ---- the top group has a path of each task

pub top_full : (d : ℕ) (ks : List Task) → AllSound ks → T (full (top_of ks d))
top_full d [] s = tt
top_full d (k ∷ ks) s =
    both (ltb 0 (length (listed d k))) (full (top_of ks d))
    (lt→ltb 0 (length (listed d k)) (rw length-map (paths_some k (s k (Memᴰ.head refl)) d)))
    (top_full d ks (λ j m. s j (Memᴰ.tail m)))
