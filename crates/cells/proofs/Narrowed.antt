-- A vertex number above 255 is found out of bounds as 255 is: no task has so many vertices.
use mathlib.Core.Path.{◌≡◌, refl, sym, ap, ap₂, ◌∙◌}
use Prim.Native.Nat.{ℕ, ◌+◌, ◌≤◌, min}
use native.Mathlib.Omega.{arith}
use mathlib.Core.Bool.{Bool, true, false, ◌&&◌}
use mathlib.Core.List.{List, [], ◌∷◌, map}
use lib.ListN.{length, length-map}
use lib.Dec.{ltb}
use borrow.Author.Tests.{ltb-true, ltb-false, lt-ltb, le-ltb}
use Rattle.meaning.specs.Bounds.{most_vertices, largest_p}
use Rattle.meaning.specs.Table.{Vertex, Edge, Task, task}
use Rattle.meaning.specs.Text.{within}
use Rattle.kinds.specs.declared.Refusal.TheVariants.{OutOfBounds}
use Rattle.rules.specs.Rules.{edge_in, least_after}
use Rattle.rules.proofs.Within.{edge_bounds}
use Rattle.std.specs.Prelude.{Ok, Err}
use Rattle.checks.specs.Checks.{Check, kept as no_fault, broken_by, and_then, vertices_check, mask_check, edge_check, edges_check, own_check, task_check}
use Rattle.checks.proofs.Parts.{edge_order}
use Rattle.checks.proofs.InOrder.{broken_apart}
use Rattle.checks.proofs.Ruled.{own_bounds}
use Rattle.cells.specs.Inner.{narrow_edge, narrow_task}
use Rattle.cells.proofs.Alike.{Alike, alike_self, alike_more}

-- ---- edges of a task with the vertices vs

ltb_narrow : (n v : ℕ) → v ≤ most_vertices → ltb (min n 255) v ≡ ltb n v
ltb_narrow n v h = go (ltb n v) refl
  where
    go : (b : Bool) → ltb n v ≡ b → ltb (min n 255) v ≡ b
    go true q = lt-ltb (min n 255) v (omega (arith, ltb-true n v q))
    go false q = le-ltb (min n 255) v (omega (arith, ltb-false n v q))

module _ (vs : List Vertex) (few : length vs ≤ most_vertices) where
  abbrev inside : Edge → Bool
  inside x = edge_in (length vs) x.from x.to x.p

  inside_narrow : (x : Edge) → inside (narrow_edge x) ≡ inside x
  unfolding edge_in
  inside_narrow x =
      ap₂ (λ (a b : Bool). a && b && within 1 largest_p x.p) (ltb_narrow x.from (length vs) few) (ltb_narrow x.to (length vs) few)

  outside : (least n : ℕ) (x : Edge) → inside x ≡ false → edge_check vs least n x ≡ broken_by OutOfBounds n
  unfolding edge_check
  outside least n x q = rw q

  edge_alike : (least n : ℕ) (x : Edge) → Alike (edge_check vs least n) (narrow_edge x) x
  edge_alike least n x = go (inside x) refl
    where
      go : (b : Bool) → inside x ≡ b → Alike (edge_check vs least n) (narrow_edge x) x
      go true q =
          let b = edge_bounds (length vs) x.from x.to x.p q in
          let f : min x.from 255 ≡ x.from = omega (arith, b.from_in) in
          let t : min x.to 255 ≡ x.to = omega (arith, b.to_in) in
          rw (f, t) (alike_self (edge_check vs least n) x)
      go false q =
          record {
            same = outside least n (narrow_edge x) (inside_narrow x ∙ q) ∙ sym (outside least n x q);
            kept = λ k. broken_apart (sym (outside least n x q) ∙ k);
          }

  edges_alike : (least n : ℕ) (xs : List Edge) → Alike (edges_check vs least n) (map narrow_edge xs) xs
  edges_alike least n [] = alike_self (edges_check vs least n) []
  edges_alike least n (x ∷ xs) = alike_more (edge_order vs) (least, n) (edge_alike least n x) (edges_alike (least_after x.from x.to) (n + 1) xs)

-- ---- a task

then_kept : (a b : Check) → and_then a b ≡ no_fault → b ≡ no_fault
then_kept (Ok u) b e = e
then_kept (Err at) b e = broken_apart e

edges_kept : (n : ℕ) (k : Task) → task_check n k ≡ no_fault → edges_check k.vertices 0 (n + length k.vertices + 1) k.edges ≡ no_fault
unfolding task_check
edges_kept n k e =
    let es = edges_check k.vertices 0 (n + length k.vertices + 1) k.edges in
    let mask = mask_check (n + length k.vertices) k.m k.vertices in
    let vs = vertices_check (n + 1) k.vertices in
    then_kept mask es (then_kept vs (and_then mask es) (then_kept (own_check n k) (and_then vs (and_then mask es)) e))

own_narrow : (n : ℕ) (k : Task) → own_check n (narrow_task k) ≡ own_check n k
unfolding own_check
own_narrow n k = rw (length-map k.edges narrow_edge)

pub task_alike : (n : ℕ) (k : Task) → Alike (task_check n) (narrow_task k) k
unfolding task_check
task_alike n k = go (own_check n k) refl
  where
    go : (c : Check) → own_check n k ≡ c → Alike (task_check n) (narrow_task k) k
    go (Err at) q = record { same = rw (own_narrow n k, q); kept = λ e. broken_apart (rw q at e) }
    go (Ok u) q =
        let es = edges_alike k.vertices (own_bounds n k q).v_in 0 (n + length k.vertices + 1) k.edges in
        record {
          same = rw (own_narrow n k, es.same);
          kept = λ e. ap (task k.m k.vertices) (es.kept (edges_kept n k e));
        }
