-- The largest e of a task's vertices, one after the other.
use mathlib.Core.Path.{◌≡◌, refl, ap, ◌∙◌}
use Prim.Native.Nat.{ℕ, zero, suc, ◌+◌, max}
use native.Mathlib.Omega.{arith}
use native.Mathlib.Numerals.{add-one}
use mathlib.Core.List.{List, [], ◌∷◌}
use lib.ListN.{get_or}
use Rattle.table.specs.declared.Vertex.{Vertex}
use Rattle.table.specs.Record.{no_vertex}
use Rattle.table.specs.Inner.{largest_of}

pub of_none : (vs : List Vertex) → 0 ≡ largest_of 0 vs
unfolding largest_of
of_none vs = refl

of_next : (vs : List Vertex) (i : ℕ) → largest_of (suc i) vs ≡ max (largest_of i vs) (get_or vs i no_vertex).e.0
unfolding largest_of
of_next [] zero = omega arith
of_next [] (suc i) = omega arith
of_next (x ∷ vs) zero = omega arith
of_next (x ∷ vs) (suc i) = omega (arith, of_next vs i)

pub of_more : (vs : List Vertex) (i : ℕ) → largest_of (i + 1) vs ≡ max (largest_of i vs) (get_or vs i no_vertex).e.0
of_more vs i = ap (λ (n : ℕ). largest_of n vs) (add-one i) ∙ of_next vs i
