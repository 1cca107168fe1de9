-- The stretches of tasks, one after the other: how many cells they take, and where each stands among them.
use mathlib.Core.Path.{◌≡◌, refl, sym, ap, ap₂, ◌∙◌}
use Prim.Native.Nat.{ℕ, ◌+◌, ◌-◌, ◌*◌, ◌≤◌, ◌<◌}
use native.Mathlib.Omega.{arith}
use native.Mathlib.Nat.{le_trans, le_of_eq, mul-le-mul_right, add-mul, zero-mul}
use mathlib.Core.List.Memᴰ
use mathlib.Core.List.{List, [], ◌∷◌, ◌++◌, append_assoc}
use lib.ListN.{length, take, drop, get_or, length-append, length-drop, length-map}
use lib.Seq.{sets, sets-eq, length-take-le, drop-drop}
use Rattle.meaning.specs.Bounds.{most_higher, most_paths, largest_d}
use Rattle.meaning.specs.Table as Meant
use Rattle.meaning.specs.Table.{no_task}
use Rattle.meaning.specs.Paths.{paths_of}
use Rattle.meaning.specs.Areas.{rows_for, rows_of}
use Rattle.meaning.specs.Sound.{SoundTask, AllSound}
use Rattle.meaning.proofs.Lists.{get_or_mapped, mem_get_or, mem_take, take-map}
use Rattle.meaning.proofs.PathsOf.{paths_some}
use Rattle.table.specs.declared.Task.{Task}
use Rattle.table.specs.Inner.{task_of, HeldTask}
use Rattle.ways.specs.Ways.{most_counted}
use Rattle.ranges.specs.Stretch.{stretch_cells, stretch_of}
use Rattle.ranges.proofs.CellBounds.{stretch_length}
use Rattle.groups.specs.Lent.{roots, counts}
use Rattle.areas.specs.Above.{path_counts, rows_in, above_of}
use Rattle.areas.specs.Stretches.{stretches}
use Rattle.areas.proofs.Counting.{rows_more, rows_take, rows_few, above_count, above_root, above_rows}

-- ---- a part of an area, from a place on

-- what a caller sees of a part that was lent and written whole
part-written : (P Y : List ℕ) (from to : ℕ) → from + length Y ≡ to → to ≤ length P → take from P ++ (Y ++ drop (to - from) (drop from P)) ≡ sets P from Y
part-written P Y from to e h =
    let m : from + (to - from) ≡ from + length Y = omega arith in
    ap (λ (l : List ℕ). take from P ++ (Y ++ l)) (drop-drop (to - from) from P ∙ ap (λ (n : ℕ). drop n P) m)
    ∙ sym (append_assoc (take from P) Y (drop (from + length Y) P))
    ∙ sym (sets-eq Y P from (omega arith))

-- ---- one task's stretch, for deadline d

module _ (t : Task) (k : HeldTask t) (n d : ℕ) (e : n ≡ length (paths_of (task_of t) d)) where
  pub paths_pos : 0 < n
  paths_pos = omega (arith, paths_some (task_of t) k.sound d)

  module _ (P : List ℕ) (from : ℕ) (room : from + stretch_cells d n ≤ length P) where
    abbrev part : List ℕ → List ℕ
    part cells = take from P ++ (cells ++ drop (from + stretch_cells d n - from) (drop from P))

    pub fill_asks : n ≤ most_paths → (0 < d) × (d ≤ largest_d)
        → HeldTask t × ((0 < d) × (d ≤ largest_d) × (n ≤ most_counted) × (0 < n) × (n ≡ length (paths_of (task_of t) d))
        × (length (take (from + stretch_cells d n - from) (drop from P)) ≡ stretch_cells d n))
    fill_asks few (o, u) =
        let long : length (take (from + stretch_cells d n - from) (drop from P)) ≡ stretch_cells d n = (
        length-take-le (from + stretch_cells d n - from) (drop from P) (omega (arith, length-drop from P)) ∙ omega arith
        ) in
        (k, (o, u, omega arith, paths_pos, e, long))

    pub stretch_put : {cells : List ℕ} → cells ≡ stretch_of (task_of t) d → part cells ≡ sets P from (stretch_of (task_of t) d)
    stretch_put q =
        let long : length (stretch_of (task_of t) d) ≡ stretch_cells d n = stretch_length (task_of t) d (omega (arith, paths_pos)) ∙ ap (stretch_cells d) (sym e) in
        ap part q ∙ part-written P (stretch_of (task_of t) d) from (from + stretch_cells d n) (ap (λ (m : ℕ). from + m) long) room

-- ---- the stretches of tasks

rows_cons : (n : ℕ) (ns : List ℕ) → rows_in (n ∷ ns) ≡ rows_for n + rows_in ns
unfolding rows_in
rows_cons n ns = refl

pub stretches-size : (ks : List Meant.Task) (d : ℕ) → AllSound ks → length (stretches ks d) ≡ rows_in (path_counts ks d) * d
unfolding rows_in
stretches-size [] d s = sym (zero-mul d)
stretches-size (x ∷ ks) d s =
    length-append (stretch_of x d) (stretches ks d)
    ∙ ap₂ ◌+◌ (stretch_length x d (paths_some x (s x (Memᴰ.head refl)) d)) (stretches-size ks d (λ y m. s y (Memᴰ.tail m)))
    ∙ sym (add-mul (rows_of d x) (rows_in (path_counts ks d)) d)
    ∙ ap (λ (n : ℕ). n * d) (sym (rows_cons (length (paths_of x d)) (path_counts ks d)))

-- the paths of tasks for deadline d, none of which has too many
pub record Few (ks : List Meant.Task) (d : ℕ) : Type 0 where
  pub sound : AllSound ks
  pub seven : length ks ≤ most_higher
  pub some : 0 < d
  pub short : d ≤ largest_d
  pub few : (j : ℕ) → j < length ks → get_or (path_counts ks d) j 0 ≤ most_paths

module _ (ks : List Meant.Task) (d : ℕ) (f : Few ks d) where
  abbrev ns : List ℕ
  ns = path_counts ks d

  pub counts_length : length ns ≡ length ks
  counts_length = length-map ks (λ (x : Meant.Task). length (paths_of x d))

  seven : length ns ≤ most_higher
  seven = omega (arith, counts_length, f.seven)

  pub rows_fit : (above_of d ns).rows ≤ rows_for most_paths * most_higher
  rows_fit = omega (arith, counts_length, f.seven, above_rows d ns seven, rows_few ns (λ j h. f.few j (omega (arith, counts_length))))

  -- the stretches take just the needed cells
  pub need_is : length (stretches ks d) ≡ (above_of d ns).rows * d
  need_is = stretches-size ks d f.sound ∙ ap (λ (n : ℕ). n * d) (sym (above_rows d ns seven))

  pub sofar_length : (j : ℕ) → length (stretches (take j ks) d) ≡ rows_in (take j ns) * d
  sofar_length j = stretches-size (take j ks) d (λ x i. f.sound x (mem_take j ks i))
      ∙ ap (λ (ms : List ℕ). rows_in ms * d) (sym (take-map (λ (x : Meant.Task). length (paths_of x d)) j ks))

  module _ (j : ℕ) (m : j < length ks) where
    abbrev task : Meant.Task
    task = get_or ks j no_task

    pub task_sound : SoundTask task
    task_sound = f.sound task (mem_get_or no_task ks j m)

    -- a task's stretch: how many paths, where it begins, where it ends
    pub record At : Type 0 where
      pub some : 1 ≤ get_or (counts (above_of d ns).stretches) j 0
      pub few : get_or (counts (above_of d ns).stretches) j 0 ≤ most_paths
      pub paths : get_or (counts (above_of d ns).stretches) j 0 ≡ length (paths_of task d)
      pub from : get_or (roots (above_of d ns).stretches) j 0 ≡ length (stretches (take j ks) d)
      pub within : get_or (roots (above_of d ns).stretches) j 0 + stretch_cells d (get_or (counts (above_of d ns).stretches) j 0) ≤ (above_of d ns).rows * d

    pub at : At
    at =
        let l : j < length ns = omega (arith, counts_length) in
        let count = above_count d ns seven j l in
        let paths : get_or ns j 0 ≡ length (paths_of task d) = get_or_mapped (λ (x : Meant.Task). length (paths_of x d)) 0 no_task ks j m in
        let root = above_root d ns seven j l in
        let to : get_or (roots (above_of d ns).stretches) j 0 + stretch_cells d (get_or (counts (above_of d ns).stretches) j 0) ≡ rows_in (take (j + 1) ns) * d = (
        ap₂ (λ (u v : ℕ). u + rows_for v * d) root count ∙ sym (add-mul (rows_in (take j ns)) (rows_for (get_or ns j 0)) d)
        ∙ ap (λ (r : ℕ). r * d) (sym (rows_more ns j l))
        ) in
        record {
          some = omega (arith, count, paths, paths_some task task_sound d);
          few = omega (arith, count, f.few j m);
          paths = count ∙ paths;
          from = root ∙ sym (sofar_length j);
          within = le_trans (le_of_eq to) (mul-le-mul_right d (omega (arith, rows_take (j + 1) ns, above_rows d ns seven)));
        }
