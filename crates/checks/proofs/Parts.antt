-- One vertex and one edge: what is found in its line, from what its tests gave; and the order in which all of them are looked at.
use mathlib.Core.Path.{◌≡◌, refl, sym, ap, ◌∙◌}
use Prim.Native.Nat.{ℕ, zero, suc, ◌+◌, ◌≤◌}
use native.Mathlib.Numerals.{add-one}
use native.Mathlib.Omega.{arith}
use mathlib.Core.Bool.{true, false}
use mathlib.Core.List.{List, [], ◌∷◌, map}
use lib.ListN.{length, get_or, take, length-map}
use Rattle.meaning.specs.Lists.{below}
use Rattle.meaning.specs.Table as Meant
use Rattle.meaning.proofs.Lists.{get_or_mapped, cells_shift}
use Rattle.kinds.specs.declared.Refusal.TheVariants.{OutOfBounds, DeadlineOverSeparation, EdgeNotAfter, JobOverDeadline}
use Rattle.rules.specs.Rules.{vertex_in, edge_in, job_in_time, edge_spaced, edge_after, least_after}
use Rattle.rules.proofs.Within.{edge_bounds}
use Rattle.table.specs.declared.Vertex.{Vertex}
use Rattle.table.specs.declared.Edge.{Edge}
use Rattle.table.specs.Record.{no_vertex, no_edge, vertex_of, edge_of, vertices_held, edges_held}
use Rattle.checks.specs.Checks.{Check, kept, broken_by, and_then, vertex_check, vertices_check, edge_check, edges_check}
use Rattle.checks.proofs.InOrder.{Order}

-- ---- as many parts as are counted: those at the front of the cells

pub held_taken : {X Y : Type 0} (f : X → Y) (z : X) (xs : List X) (n : ℕ) → n ≤ length xs → map f (take n xs) ≡ map (λ (i : ℕ). f (get_or xs i z)) (below n)
held_taken f z xs zero h = refl
held_taken f z [] (suc n) h = absurd (omega arith)
held_taken f z (x ∷ xs) (suc n) h = ap (λ l. f x ∷ l) (held_taken f z xs n (omega arith) ∙ sym (cells_shift f z x xs 0 n))

pub vertices_taken : (xs : List Vertex) (n : ℕ) → n ≤ length xs → map vertex_of (take n xs) ≡ vertices_held xs n
unfolding vertices_held
vertices_taken xs n h = held_taken vertex_of no_vertex xs n h

pub edges_taken : (xs : List Edge) (n : ℕ) → n ≤ length xs → map edge_of (take n xs) ≡ edges_held xs n
unfolding edges_held
edges_taken xs n h = held_taken edge_of no_edge xs n h

-- ---- vertices

module _ (x : Vertex) (line : ℕ) where
  pub vertex-outside : {r : Check} → vertex_in x.e.0 x.d.0 ≡ false → r ≡ broken_by OutOfBounds line → r ≡ vertex_check line (vertex_of x)
  unfolding vertex_check
  vertex-outside q e = rw q e

  module _ (q : vertex_in x.e.0 x.d.0 ≡ true) where
    pub vertex_slip : {r : Check} → job_in_time x.e.0 x.d.0 ≡ false → r ≡ broken_by JobOverDeadline line → r ≡ vertex_check line (vertex_of x)
    unfolding vertex_check
    vertex_slip j e = rw (q, j) e

    pub vertex-kept : job_in_time x.e.0 x.d.0 ≡ true → kept ≡ vertex_check line (vertex_of x)
    unfolding vertex_check
    vertex-kept j = rw (q, j)

-- from a line on
abbrev pub vertex_order : Order ℕ Meant.Vertex
vertex_order =
    record {
      all = vertices_check;
      one = vertex_check;
      next = λ n x. n + 1;
      turn = λ n x xs. ap (λ (l : ℕ). and_then (vertex_check n x) (vertices_check l xs)) (sym (add-one n));
    }

-- ---- edges, in a task of these vertices

module _ (vs : List Vertex) (x : Edge) (least line : ℕ) where
  abbrev n : ℕ
  n = length vs

  abbrev from : ℕ
  from = x.from.0

  abbrev to : ℕ
  to = x.to.0

  abbrev p : ℕ
  p = x.p.0

  abbrev found : Check
  found = edge_check (map vertex_of vs) least line (edge_of x)

  pub edge-outside : {r : Check} → edge_in n from to p ≡ false → r ≡ broken_by OutOfBounds line → r ≡ found
  unfolding edge_check
  edge-outside q e = rw (length-map vs vertex_of, q) e

  module _ (q : edge_in n from to p ≡ true) where
    start : (get_or (map vertex_of vs) from Meant.no_vertex).d ≡ (get_or vs from no_vertex).d.0
    start = ap (λ (y : Meant.Vertex). y.d) (get_or_mapped vertex_of Meant.no_vertex no_vertex vs from (edge_bounds n from to p q).from_in)

    pub edge_late : {r : Check} → edge_spaced (get_or vs from no_vertex).d.0 p ≡ false → r ≡ broken_by DeadlineOverSeparation line → r ≡ found
    unfolding edge_check
    edge_late s e = rw (length-map vs vertex_of, q, start, s) e

    module _ (s : edge_spaced (get_or vs from no_vertex).d.0 p ≡ true) where
      pub edge_unordered : {r : Check} → edge_after least from to ≡ false → r ≡ broken_by EdgeNotAfter line → r ≡ found
      unfolding edge_check
      edge_unordered a e = rw (length-map vs vertex_of, q, start, s, a) e

      pub edge_kept : edge_after least from to ≡ true → kept ≡ found
      unfolding edge_check
      edge_kept a = rw (length-map vs vertex_of, q, start, s, a)

-- after the places that are taken, from a line on
abbrev pub edge_order : List Meant.Vertex → Order (ℕ × ℕ) Meant.Edge
edge_order vs =
    record {
      all = λ s. edges_check vs s.0 s.1;
      one = λ s. edge_check vs s.0 s.1;
      next = λ s x. (least_after x.from x.to, s.1 + 1);
      turn = λ s x xs.
          ap (λ (l : ℕ). and_then (edge_check vs s.0 s.1 x) (edges_check vs (least_after x.from x.to) l xs)) (sym (add-one s.1));
    }
