-- What is counted, found and put over a task's columns is what the definitions say of the task.
use mathlib.Core.Path.{◌≡◌, refl, sym, ap, subst, ◌∙◌}
use Prim.Native.Nat.{ℕ, ◌≤◌, min}
use native.Mathlib.Omega.{arith}
use mathlib.Core.List.{List, [], map}
use lib.ListN.{length, get_or}
use Rattle.meaning.specs.Bounds.{most_vertices}
use Rattle.meaning.specs.Table as Meant
use Rattle.meaning.specs.Paths.{complete_paths, paths_of}
use Rattle.table.specs.declared.Task.{Task}
use Rattle.table.specs.Inner.{task_of, HeldTask}
use Rattle.columns.specs.Columns.{ColumnsOf}
use Rattle.lister.specs.declared.Path.{Path}
use Rattle.ways.specs.Ways.{all_ways, path_by}
use Rattle.lister.specs.Place.{path_record}
use Rattle.ways.proofs.PathsAreWays.{count_of_ways, place_of_ways}
use Rattle.loads.specs.Rows.{put_rows, Room}
use Rattle.ways.specs.Runs.{load_row, way_rows}
use Rattle.ways.proofs.RowsAreLoads.{loads_are_rows}

-- the paths that the walk chooses from are the complete ones
paths_are_complete : (k : Meant.Task) (d : ℕ) → complete_paths k d ≡ paths_of k d
unfolding paths_of
paths_are_complete k d = refl

module _ {t : Task} (h : HeldTask t) {e start to p : List ℕ} (c : ColumnsOf (task_of t) e start to p) where
  size : t.nv ≡ length (task_of t).vertices
  size = ap (λ (x : Task). x.nv) h.whole

  pub few : t.nv ≤ most_vertices
  few = omega (arith, size, c.size)

  module _ (d : ℕ) {n : ℕ} (e_n : n ≡ t.nv) where
    whole : n ≡ length (task_of t).vertices
    whole = e_n ∙ size

    count : length (all_ways start to p d 0 n) ≡ length (paths_of (task_of t) d)
    count = sym (count_of_ways c d n whole) ∙ ap length (paths_are_complete (task_of t) d)

    pub counted : (cap r : ℕ) → r ≡ min cap (length (all_ways start to p d 0 n)) → r ≡ min cap (length (paths_of (task_of t) d))
    counted cap r q = q ∙ ap (min cap) count

    pub placed : (i : ℕ) (r : Path) → r ≡ path_record (path_by to (get_or (all_ways start to p d 0 n) i []))
        → r ≡ path_record (get_or (paths_of (task_of t) d) i [])
    placed i r q = q ∙ ap path_record (sym (place_of_ways c d n i whole) ∙ ap (λ (w : List (List ℕ)). get_or w i []) (paths_are_complete (task_of t) d))

    pub room_for_all : (len : ℕ) → Room d (length (paths_of (task_of t) d)) len → Room d (length (all_ways start to p d 0 n)) len
    room_for_all len = subst (λ (n : ℕ). Room d n len) (sym count)

    pub rows_put : (P Q : List ℕ) → Q ≡ put_rows d 0 (way_rows e to p d (all_ways start to p d 0 n)) P
        → Q ≡ put_rows d 0 (map (load_row (task_of t) d) (paths_of (task_of t) d)) P
    rows_put P Q q =
        q ∙ ap (λ (rows : List (List ℕ)). put_rows d 0 rows P) (loads_are_rows c d n whole)
        ∙ ap (λ (ws : List (List ℕ)). put_rows d 0 (map (load_row (task_of t) d) ws) P) (paths_are_complete (task_of t) d)
