-- A job by itself: where e + B exceeds its deadline, any paths overload it; where it doesn't, none do if there is nothing above.
use mathlib.Core.Path.{◌≡◌, refl, ap}
use Prim.Native.Nat.{ℕ, ◌≤◌, ◌<◌}
use native.Mathlib.Omega.{arith}
use mathlib.Core.List.Memᴰ
use mathlib.Core.List.{List, [], ◌∷◌}
use lib.ListN.{length}
use lib.Dec.{T}
use borrow.Author.Tests.{lt-ltb}
use Rattle.meaning.specs.Table.{Task, Table, higher}
use Rattle.meaning.specs.Paths.{Path, legal}
use Rattle.meaning.specs.Verdict.{own_e, deadline}
use Rattle.meaning.specs.Sound.{AllSound}
use Rattle.meaning.specs.Demands.{EachOf, loads_at, Overloadable}

-- each task has a first vertex
first_each : (ks : List Task) → AllSound ks → (ws : List Path) × EachOf (λ (k : Task) (w : Path). T (legal k w)) ks ws
first_each [] s = ([], tt)
first_each (k ∷ ks) s =
    let rest = first_each ks (λ x m. s x (Memᴰ.tail m)) in
    ((0 ∷ []) ∷ rest.0, (rw (lt-ltb 0 (length k.vertices) (s k (Memᴰ.head refl)).some_vertex) tt, rest.1))

pub over_overloads : (ts : Table) (i v : ℕ) → AllSound (higher ts i) → deadline ts i v < own_e ts i v → Overloadable ts i v
over_overloads ts i v s h = let ws = first_each (higher ts i) s in (ws.0, ws.1, λ t a b. omega (arith, h, b))

pub alone_free : (ts : Table) (i v : ℕ) → higher ts i ≡ [] → 1 ≤ deadline ts i v → own_e ts i v ≤ deadline ts i v → Overloadable ts i v → ⊥
alone_free ts i v q some h (ws, each, over) =
    let none = ap (λ (ks : List Task). loads_at ks ws (deadline ts i v)) q in
    omega (arith, over (deadline ts i v) some (omega arith), none)
