-- The record of a sound task is ready to be listed.
use mathlib.Core.Path.{◌≡◌, sym, ap, subst, ◌∙◌}
use mathlib.Core.Logic.{inl, inr}
use Prim.Native.Nat.{ℕ, zero, suc, ◌≤◌, ◌<◌}
use native.Mathlib.Omega.{arith}
use native.Mathlib.Decide.{ℕ_discrete}
use mathlib.Core.List.{List, [], ◌∷◌, map}
use lib.ListN.{length, get_or, length-map, get_or-map}
use Rattle.meaning.specs.Lists.{Rising}
use Rattle.meaning.specs.Bounds.{most_vertices, most_edges}
use Rattle.meaning.specs.Table as Meant
use Rattle.meaning.specs.Sound.{SoundTask, EdgeBefore}
use Rattle.meaning.proofs.Lists.{mem_get_or}
use Rattle.table.specs.declared.Task.{Task}
use Rattle.table.specs.Record.{no_vertex, no_edge, vertex_record, edge_record, task_record}
use Rattle.table.specs.Inner.{task_of, HeldTask}
use Rattle.table.proofs.Record.{get_or-padded, length-padded}
use Rattle.columns.specs.Columns.{edge_cell, Ready}
use Rattle.columns.proofs.TaskColumns.{no_meant_edge}

rising_at : {X : Type 0} (R : X → X → Type 0) (z : X) (xs : List X) → Rising R xs → (i j : ℕ) → i < j → j < length xs → R (get_or xs i z) (get_or xs j z)
rising_at R z [] r i j h l = absurd (omega arith)
rising_at R z (x ∷ xs) r i zero h l = absurd (omega arith)
rising_at R z (x ∷ xs) r zero (suc j) h l = r.0 (get_or xs j z) (mem_get_or z xs j (omega arith))
rising_at R z (x ∷ xs) r (suc i) (suc j) h l = rising_at R z xs r.1 i j (omega arith) (omega arith)

-- the order of (from, to), in numbers
from_rises : (x y : Meant.Edge) → EdgeBefore x y → x.from ≤ y.from
from_rises x y (inl h) = omega arith
from_rises x y (inr h) = omega (arith, h.0)

to_rises : (x y : Meant.Edge) → EdgeBefore x y → x.from ≡ y.from → x.to < y.to
to_rises x y (inl h) q = absurd (omega arith)
to_rises x y (inr h) q = h.1

module _ (k : Meant.Task) (s : SoundTask k) where
  meant_at : ℕ → Meant.Edge
  meant_at j = get_or k.edges j no_meant_edge

  edge_is : (j : ℕ) → j < length k.edges → edge_cell (task_record k) j ≡ edge_record (meant_at j)
  unfolding meant_at
  edge_is j h =
      get_or-padded most_edges no_edge no_edge (map edge_record k.edges) j (omega (arith, length-map k.edges edge_record))
      ∙ get_or-map edge_record k.edges j no_meant_edge

  before : (i j : ℕ) → i < j → j < length k.edges → EdgeBefore (meant_at i) (meant_at j)
  unfolding meant_at
  before = rising_at EdgeBefore no_meant_edge k.edges s.rising

  sorted : (i j : ℕ) → i ≤ j → j < length k.edges → (meant_at i).from ≤ (meant_at j).from
  sorted i j a h = elim (ℕ_discrete i j) [
    | yes q ↦ omega (arith, ap (λ (n : ℕ). (meant_at n).from) q)
    | no q ↦ from_rises (meant_at i) (meant_at j) (before i j (omega arith) h)
  ]

  ready_record : Ready (task_record k)
  unfolding meant_at
  ready_record =
      let each : (j : ℕ) → j < length k.edges → _ = λ j h. s.each_edge (get_or k.edges j no_meant_edge) (mem_get_or no_meant_edge k.edges j h) in
      record {
        few = s.vertex_count;
        links = s.edge_count;
        cells_v = length-padded most_vertices no_vertex (map vertex_record k.vertices) (omega (arith, length-map k.vertices vertex_record, s.vertex_count));
        cells_e = length-padded most_edges no_edge (map edge_record k.edges) (omega (arith, length-map k.edges edge_record, s.edge_count));
        from = λ j h. rw (edge_is j h) (each j h).from_in;
        to = λ j h. rw (edge_is j h) (each j h).to_in;
        apart = λ j h. rw (edge_is j h) (each j h).some_p;
        sorted = λ i j a h. rw (edge_is i (omega arith), edge_is j h) (sorted i j a h);
        fanned = λ i j a h. rw (edge_is i (omega arith), edge_is j h) (to_rises (meant_at i) (meant_at j) (before i j a h));
      }

pub ready : (t : Task) → HeldTask t → Ready t
ready t h = subst Ready (sym h.whole) (ready_record (task_of t) h.sound)
