-- The words of the demands, which `judge/specs/Demands` states of the calls, and what document 01 says of paths and of a whole table;
-- `proofs/Demands` proves that.
use Rattle.std.specs.Prelude.{◌≡◌, ℕ, ◌+◌, ◌≤◌, ◌<◌, ◌&&◌, ◌⊎◌, ◌↔◌, length, T}
use mathlib.Core.List.{List, [], ◌∷◌, map, Memᴰ}
use Rattle.meaning.specs.Text.{readable, read}
use Rattle.meaning.specs.Lists.{sum, Rising}
use Rattle.meaning.specs.Table.{Task, Table, higher, unmasked}
use Rattle.meaning.specs.Paths.{Path, legal, complete, load, complete_paths, paths_of, Before}
use Rattle.meaning.specs.Verdict.{refused, own_e, deadline}
use Rattle.meaning.specs.Whole.{Place, places, verdict_at}

-- ---- one path of each task

abbrev pub EachOf : (Task → Path → Type 0) → List Task → List Path → Type 0
EachOf Q [] [] = Unit {0}
EachOf Q [] (w ∷ ws) = ⊥
EachOf Q (k ∷ ks) [] = ⊥
EachOf Q (k ∷ ks) (w ∷ ws) = Q k w × EachOf Q ks ws

-- one of document 01's complete paths of each
abbrev pub Completes : ℕ → List Task → List Path → Type 0
Completes d ks ws = EachOf (λ (k : Task) (w : Path). Memᴰ w (paths_of k d)) ks ws

-- the sum of their loads at t
abbrev pub loads_at : List Task → List Path → ℕ → ℕ
loads_at [] ws t = 0
loads_at (k ∷ ks) [] t = 0
loads_at (k ∷ ks) (w ∷ ws) t = load k w t + loads_at ks ws t

-- together they overload every tick up to the deadline
abbrev pub Overload : List Task → ℕ → ℕ → List Path → Type 0
Overload ks e d ws = (t : ℕ) → 1 ≤ t → t ≤ d → t < e + loads_at ks ws t

-- in path order, task 0 compared first
abbrev pub ChoiceBefore : List Path → List Path → Type 0
ChoiceBefore [] us = ⊥
ChoiceBefore (w ∷ ws) [] = ⊥
ChoiceBefore (w ∷ ws) (u ∷ us) = Before w u ⊎ ((w ≡ u) × ChoiceBefore ws us)

-- ---- demand 2, in which e is `own_e`: "demands 2 and 3 and wish 1 read e + B"

-- some legal path from each of the higher tasks, of any length, together overload every tick up to the deadline
abbrev pub Overloadable : Table → ℕ → ℕ → Type 0
Overloadable ts i v =
    (ws : List Path) × EachOf (λ (k : Task) (w : Path). T (legal k w)) (higher ts i) ws × Overload (higher ts i) (own_e ts i v) (deadline ts i v) ws

-- the first such among document 01's complete paths, in its order
pub record First (ts : Table) (i v : ℕ) (ws : List Path) : Type 0 where
  pub complete : Completes (deadline ts i v) (higher ts i) ws
  pub overload : Overload (higher ts i) (own_e ts i v) (deadline ts i v) ws
  pub first : (us : List Path) → Completes (deadline ts i v) (higher ts i) us → Overload (higher ts i) (own_e ts i v) (deadline ts i v) us
      → (ws ≡ us) ⊎ ChoiceBefore ws us

-- ---- how late is the latest

-- "For a choice of paths the finish is the first t from 1 to d at which e plus the loads is at most t"
pub record Finishes (ts : Table) (i v : ℕ) (ws : List Path) (t : ℕ) : Type 0 where
  pub some : 1 ≤ t
  pub most : t ≤ deadline ts i v
  pub free : own_e ts i v + loads_at (higher ts i) ws t ≤ t
  pub first : (u : ℕ) → 1 ≤ u → u < t → u < own_e ts i v + loads_at (higher ts i) ws u

-- "the worst is the largest over all choices, with the first choice in document 01's order that reaches it"; no legal paths of any length finish later
pub record Worst (ts : Table) (i v n : ℕ) (ws : List Path) : Type 0 where
  pub complete : Completes (deadline ts i v) (higher ts i) ws
  pub reached : Finishes ts i v ws n
  pub largest : (us : List Path) → EachOf (λ (k : Task) (w : Path). T (legal k w)) (higher ts i) us → (t : ℕ) × Finishes ts i v us t × (t ≤ n)
  pub first : (us : List Path) → Completes (deadline ts i v) (higher ts i) us → Finishes ts i v us n → (ws ≡ us) ⊎ ChoiceBefore ws us

-- ---- masked lengths

-- the same tasks in the same order, but for their masked lengths
abbrev pub SameJobs : Table → Table → Type 0
SameJobs ts us = map unmasked us ≡ map unmasked ts

-- ---- paths

-- a task of a table that some text means
abbrev pub Readable : Task → Type 0
Readable k = (text : List ℕ) × (ts : Table) × (read text ≡ readable ts) × Memᴰ k ts

-- "Demand 2 is stated over all paths; that complete ones suffice is to be proved."
abbrev pub PathsSuffice : Type 0
PathsSuffice = (k : Task) → Readable k → (d : ℕ) (w : Path) → T (legal k w)
    → (c : Path) × Memᴰ c (paths_of k d) × ((t : ℕ) → t ≤ d → load k w t ≤ load k c t)

-- The list has exactly the legal complete paths, at least one, strictly rising, each of at most d vertices.
pub record PathsListed : Type 0 where
  pub exactly : (k : Task) → Readable k → (d : ℕ) → 1 ≤ d → (c : Path) → Memᴰ c (complete_paths k d) ↔ T (legal k c && complete k d c)
  pub some : (k : Task) → Readable k → (d : ℕ) → 1 ≤ length (complete_paths k d)
  pub rising : (k : Task) → Readable k → (d : ℕ) → Rising Before (complete_paths k d)
  pub short : (k : Task) → Readable k → (d : ℕ) → 1 ≤ d → (c : Path) → Memᴰ c (complete_paths k d) → length c ≤ d

-- ---- a whole table

abbrev pub vertex_total : Table → ℕ
vertex_total ts = sum (map (λ (k : Task). length k.vertices) ts)

-- Its vertices "are refused by 9 or 10".
abbrev pub NineOrTen : Type 0
NineOrTen = (ts : Table) (b n : ℕ) (q : Place) → Memᴰ q (places ts) → (k place : ℕ) → verdict_at ts b n q ≡ refused k place → (k ≡ 9) ⊎ (k ≡ 10)
