-- One task: what is found in its lines, from what its tests and the checks of its parts gave.
use mathlib.Core.Path.{◌≡◌, refl, sym, ◌∙◌}
use Prim.Native.Nat.{ℕ, ◌+◌, ◌≤◌}
use mathlib.Core.Bool.{Bool, true, false}
use mathlib.Core.List.{List, map}
use lib.ListN.{length, take}
use lib.Seq.{take-length}
use Rattle.std.specs.Prelude.{Err}
use Rattle.meaning.specs.Lists.{pick}
use Rattle.meaning.specs.Table as Meant
use Rattle.kinds.specs.declared.RefusedAt.{RefusedAt}
use Rattle.kinds.specs.declared.Refusal.TheVariants.{OutOfBounds}
use Rattle.rules.specs.Rules.{task_in, mask_covered}
use Rattle.rules.proofs.Within.{TaskBounds, task_bounds}
use Rattle.table.specs.declared.Task.{Task}
use Rattle.table.specs.Record.{vertex_of, edge_of, task_held}
use Rattle.table.specs.Inner.{largest_of}
use Rattle.table.proofs.Holding.{vertices-length, edges_length}
use Rattle.checks.specs.Checks.{Check, kept, broken_by, and_then, vertices_check, mask_check, edges_check, own_check, task_check}
use Rattle.checks.proofs.InOrder.{broken_apart}
use Rattle.checks.proofs.Parts.{vertices_taken, edges_taken}

abbrev pub inside : Task → Bool
inside k = task_in k.nv k.ne 0 k.m.0

module _ (k : Task) (line : ℕ) where
  abbrev found : Check
  found = task_check line (task_held k)

  pub task-outside : {r : Check} → inside k ≡ false → r ≡ broken_by OutOfBounds line → r ≡ found
  unfolding task_check own_check task_held
  task-outside q e = rw (vertices-length k.vertices k.nv, edges_length k.edges k.ne, q) e

  -- the counts of a task with no fault
  pub kept_bounds : found ≡ kept → TaskBounds k.nv k.ne 0 k.m.0
  kept_bounds e = go (inside k) refl
    where
      go : (b : Bool) → inside k ≡ b → TaskBounds k.nv k.ne 0 k.m.0
      go true q = task_bounds _ _ _ _ q
      go false q = broken_apart (task-outside q refl ∙ e)

-- its own line is kept, and its parts lie in the record's cells
pub record Counted (k : Task) : Type 0 where
  pub own : inside k ≡ true
  pub vertices_in : k.nv ≤ length k.vertices
  pub edges_in : k.ne ≤ length k.edges

module _ {k : Task} (h : Counted k) (line : ℕ) where
  abbrev vertices : List Meant.Vertex
  vertices = map vertex_of (take k.nv k.vertices)

  abbrev edges : List Meant.Edge
  edges = map edge_of (take k.ne k.edges)

  abbrev last : ℕ
  last = line + k.nv

  -- its parts decide
  left : and_then (vertices_check (line + 1) vertices) (and_then (mask_check last k.m.0 vertices) (edges_check vertices 0 (last + 1) edges))
      ≡ task_check line (task_held k)
  unfolding task_check own_check task_held
  left =
      rw (
        vertices-length k.vertices k.nv,
        edges_length k.edges k.ne,
        h.own,
        vertices_taken k.vertices k.nv h.vertices_in,
        edges_taken k.edges k.ne h.edges_in,
      )

  pub task_broken : {c : Check} {at : RefusedAt} → c ≡ vertices_check (line + 1) vertices → c ≡ Err at → Err at ≡ task_check line (task_held k)
  task_broken f e = rw (sym f ∙ e) at left

  module _ {c : Check} (f : c ≡ vertices_check (line + 1) vertices) (e : c ≡ kept) {largest : ℕ}
      (is : largest ≡ largest_of (length (take k.nv k.vertices)) (take k.nv k.vertices)) where
    covered : mask_check last k.m.0 vertices ≡ pick (mask_covered k.m.0 largest) kept (broken_by OutOfBounds last)
    unfolding mask_check largest_of
    covered = rw (is, take-length (take k.nv k.vertices))

    pub task_uncovered : {r : Check} → mask_covered k.m.0 largest ≡ false → r ≡ broken_by OutOfBounds last → r ≡ task_check line (task_held k)
    task_uncovered q d = d ∙ rw (sym f ∙ e, covered, q) at left

    pub task_covered : {r : Check} → mask_covered k.m.0 largest ≡ true → r ≡ edges_check vertices 0 (last + 1) edges → r ≡ task_check line (task_held k)
    task_covered q d = d ∙ rw (sym f ∙ e, covered, q) at left
