-- The filled stretches hold the loads of every range, so that they can be walked.
use mathlib.Core.Path.{◌≡◌, sym, ap, subst, ◌∙◌}
use Prim.Native.Nat.{ℕ, zero, suc, ◌+◌, ◌-◌, ◌*◌, ◌≤◌, ◌<◌}
use native.Mathlib.Omega.{arith}
use native.Mathlib.Nat.{le_trans, mul-le-mul_right, suc-mul}
use mathlib.Core.List.{List, [], ◌∷◌, ◌++◌}
use lib.ListN.{length, take, drop, get_or, length-append, length-map, get_or-append}
use lib.Seq.{get_or-append-add, get_or-take, length-take-le, ext_get_or}
use Rattle.meaning.specs.Lists.{gather}
use Rattle.meaning.specs.Bounds.{most_higher}
use Rattle.meaning.specs.Table as Meant
use Rattle.meaning.specs.Table.{no_task}
use Rattle.meaning.specs.Paths.{paths_of}
use Rattle.meaning.specs.Groups.{range_load}
use Rattle.meaning.specs.Verdict.{Listed, load_of, listed, top_of}
use Rattle.meaning.proofs.Lists.{get_or_mapped}
use Rattle.meaning.proofs.PathsOf.{paths_some}
use Rattle.rows.specs.Order.{Node, top_row}
use Rattle.rows.proofs.Order.{node_in, node_pos, top_in}
use Rattle.ranges.specs.Stretch.{stretch_cells, stretch_of}
use Rattle.ranges.proofs.CellBounds.{stretch_length, cell_bound}
use Rattle.ranges.proofs.Nodes.{listed-cell}
use Rattle.ranges.proofs.RowsRise.{row_rises}
use Rattle.rows.specs.Ranges.{range, row_start}
use Rattle.overload.specs.Rows.{light}
use Rattle.walk.specs.Lent.{Walkable}
use Rattle.walk.specs.Told.{sizes, RowsHold}
use Rattle.groups.specs.Lent.{roots, counts}
use Rattle.areas.specs.declared.above.Above.{Above}
use Rattle.areas.specs.Above.{path_counts, above_of}
use Rattle.areas.specs.Stretches.{stretches}
use Rattle.areas.proofs.Counting.{above_counts, above_roots}
use Rattle.areas.proofs.Filling.{Few, task_sound, counts_length, need_is, at}

-- a cell of the j-th of lists that stand one after the other
get_or-gather : (f : Meant.Task → List ℕ) (xs : List Meant.Task) (j i : ℕ) → j < length xs → i < length (f (get_or xs j no_task))
    → get_or (gather f xs) (length (gather f (take j xs)) + i) 0 ≡ get_or (f (get_or xs j no_task)) i 0
get_or-gather f [] j i h l = absurd (omega arith)
get_or-gather f (x ∷ xs) zero i h l = let e : 0 + i ≡ i = omega arith in
    ap (λ (n : ℕ). get_or (f x ++ gather f xs) n 0) e ∙ get_or-append (f x) (gather f xs) 0 i l
get_or-gather f (x ∷ xs) (suc j) i h l =
    let e : length (f x ++ gather f (take j xs)) + i ≡ length (f x) + (length (gather f (take j xs)) + i) = rw length-append (omega arith) in
    ap (λ (n : ℕ). get_or (f x ++ gather f xs) n 0) e
    ∙ get_or-append-add (f x) (gather f xs) (length (gather f (take j xs)) + i) 0
    ∙ get_or-gather f xs j i (omega arith) l

module _ (ks : List Meant.Task) (d : ℕ) (few : Few ks d) where
  abbrev a : Above
  a = above_of d (path_counts ks d)

  abbrev work : List ℕ
  work = stretches ks d

  abbrev Gs : List (List Listed)
  Gs = top_of ks d

  abbrev task : ℕ → Meant.Task
  task j = get_or ks j no_task

  seven : length (path_counts ks d) ≤ most_higher
  seven = omega (arith, counts_length ks d few, few.seven)

  pub group_many : length Gs ≡ length ks
  group_many = length-map ks (listed d)

  group_at : (j : ℕ) → j < length ks → get_or Gs j [] ≡ listed d (task j)
  group_at j m = get_or_mapped (listed d) [] no_task ks j m

  pub group_length : (j : ℕ) → j < length ks → length (get_or Gs j []) ≡ get_or (counts a.stretches) j 0
  group_length j m = ap length (group_at j m) ∙ length-map (paths_of (task j) d) _ ∙ sym (at ks d few j m).paths

  some_path_lem : (j : ℕ) → j < length ks → 0 < length (paths_of (task j) d)
  some_path_lem j m = paths_some (task j) (task_sound ks d few j m) d

  -- the cell of a range's row
  cell_at : (j : ℕ) → j < length ks → (f m : ℕ) → Node 0 (get_or (counts a.stretches) j 0) f m → (u : ℕ) → u < d
      → get_or work (row_start d (get_or (roots a.stretches) j 0) (range f m) + u) 0 ≡ get_or (stretch_of (task j) d) ((2 * f + top_row m) * d + u) 0
  unfolding row_start
  cell_at j q f m x u v =
      let p = at ks d few j q in
      let row = 2 * f + top_row m in
      let one : suc row ≤ 2 * get_or (counts a.stretches) j 0 - 1 = omega (arith, node_in x, top_in m (node_pos x p.some)) in
      let long : length (stretch_of (task j) d) ≡ stretch_cells d (get_or (counts a.stretches) j 0) =
      stretch_length (task j) d (some_path_lem j q) ∙ ap (stretch_cells d) (sym p.paths) in
      let fits : row * d + u < length (stretch_of (task j) d) = omega (arith, long, mul-le-mul_right d one, suc-mul row d) in
      let place : get_or (roots a.stretches) j 0 + row * d + u ≡ length (stretches (take j ks) d) + (row * d + u) = omega (arith, p.from) in
      ap (λ (n : ℕ). get_or work n 0) place ∙ get_or-gather (λ (y : Meant.Task). stretch_of y d) ks j (row * d + u) q fits

  pub rows_hold : RowsHold load_of d work (roots a.stretches) Gs
  rows_hold j q f m x u v =
      let b : j < length ks = omega (arith, group_many) in
      let y : Node 0 (get_or (counts a.stretches) j 0) f m = subst (λ (n : ℕ). Node 0 n f m) (group_length j b) x in
      let z : Node 0 (length (paths_of (task j) d)) f m = subst (λ (n : ℕ). Node 0 n f m) (at ks d few j b).paths y in
      let back : suc u - 1 ≡ u = omega arith in
      cell_at j b f m y u v
      ∙ ap (λ (n : ℕ). get_or (stretch_of (task j) d) ((2 * f + top_row m) * d + n) 0) (sym back)
      ∙ listed-cell (task j) d (some_path_lem j b) z (suc u) (omega arith) (omega arith)
      ∙ ap (λ (r : List Listed). range_load load_of (take m (drop f r)) (suc u)) (sym (group_at j b))

  pub counts_are : take (length ks) (counts a.stretches) ≡ sizes Gs
  counts_are =
      let long : length (take (length ks) (counts a.stretches)) ≡ length ks =
      length-take-le (length ks) (counts a.stretches) (omega (arith, few.seven, above_counts d (path_counts ks d) seven)) in
      ext_get_or 0 (take (length ks) (counts a.stretches)) (sizes Gs) (long ∙ sym (length-map Gs length ∙ group_many))
      (λ j m.
      let b : j < length ks = omega arith in
      get_or-take (length ks) (counts a.stretches) j 0 b ∙ sym (get_or_mapped length 0 [] Gs j (omega (arith, group_many)) ∙ group_length j b))

  pub walkable : (e : ℕ) → e ≤ light → Walkable (length ks) d e (roots a.stretches) (counts a.stretches) work
  walkable e o =
      record {
        stretches = record {
          few = few.seven;
          short = few.short;
          root_length = omega (arith, few.seven, above_roots d (path_counts ks d) seven);
          count_length = omega (arith, few.seven, above_counts d (path_counts ks d) seven);
          paths = λ j m. let p = at ks d few j m in (p.some, p.few);
          within = λ j m. omega (arith, (at ks d few j m).within, need_is ks d few);
        };
        own = o;
        rise = λ j q f m x u v.
            rw (cell_at j q f m x u (omega arith), cell_at j q f m x (suc u) v)
            (row_rises (task j) d (some_path_lem j q) (subst (λ (n : ℕ). Node 0 n f m) (at ks d few j q).paths x) u v);
        cells = λ j q f m x u v. rw (cell_at j q f m x u v)
            (le_trans (cell_bound (task j) (task_sound ks d few j q) d ((2 * f + top_row m) * d + u)) (omega (arith, few.short)));
      }
