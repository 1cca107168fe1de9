-- The tasks of higher priority than task i of a held table, one after the other: their paths counted, their stretches filled.
use mathlib.Core.Path.{◌≡◌, refl, sym, ap, subst, ◌∙◌}
use Prim.Native.Nat.{ℕ, ◌+◌, ◌*◌, ◌≤◌, ◌<◌, min}
use native.Mathlib.Omega.{arith}
use native.Mathlib.Numerals.{add-one}
use native.Mathlib.Decide.{ℕ_discrete}
use mathlib.Core.List.{List, [], ◌∷◌, ◌++◌, map}
use lib.ListN.{length, take, get_or, length-map}
use lib.Seq.{sets, get_or-take, length-take-le, take_all, take-suc}
use Rattle.meaning.specs.Bounds.{most_tasks, most_higher, most_paths, largest_d}
use Rattle.meaning.specs.Table as Meant
use Rattle.meaning.specs.Table.{no_task, higher}
use Rattle.meaning.specs.Paths.{paths_of}
use Rattle.meaning.specs.Areas.{written}
use Rattle.meaning.proofs.Lists.{get_or_mapped, mem_take}
use Rattle.meaning.proofs.PathsOf.{paths_some}
use Rattle.meaning.proofs.Wrote.{Gathering, gathering_none, gathering_more, gathering_all, front-set}
use Rattle.table.specs.declared.Task.{Task}
use Rattle.table.specs.declared.Table.{Table}
use Rattle.table.specs.Inner.{task_of, table_of, HeldTask, Held}
use Rattle.table.specs.Record.{task_record}
use Rattle.table.specs.Record as Blank
use Rattle.table.proofs.Record.{length-padded}
use Rattle.table.proofs.Records.{held_count, held_few, held_is, held_one}
use Rattle.ranges.specs.Stretch.{stretch_cells, stretch_of}
use Rattle.groups.specs.declared.Stretch.{Stretch}
use Rattle.groups.specs.Lent.{roots, counts}
use Rattle.groups.proofs.Arrays.{no_stretch, root_at, count_at}
use Rattle.areas.specs.declared.above.Above.{Above}
use Rattle.areas.specs.Above.{path_counts, above_of, none_above, with_paths, Counted}
use Rattle.areas.specs.Stretches.{stretches}
use Rattle.areas.proofs.Counting.{none_is, more_is, counted}
use Rattle.areas.proofs.Filling.{Few, at, need_is}
use Rattle.judge.specs.Inner.{AllCounted, Crowded}

-- counted, up to task j: none of them has too many paths
pub record CountedTo (ks : List Meant.Task) (i d : ℕ) (above : Above) (j : ℕ) : Type 0 where
  pub low : j ≤ i
  pub seven : i ≤ most_higher
  pub is : above ≡ above_of d (take j (path_counts ks d))
  pub few : (n : ℕ) → n < j → get_or (path_counts ks d) n 0 ≤ most_paths

-- their stretches filled, up to task j
pub record FilledTo (ks : List Meant.Task) (i d : ℕ) (before now : List ℕ) (j : ℕ) : Type 0 where
  pub low : j ≤ i
  pub seven : i ≤ most_higher
  pub gathered : Gathering (λ (x : Meant.Task). stretch_of x d) ks before 0 now (length (stretches (take j ks) d)) j

-- the record has a cell for each task that a table can have
pub held_cells : (t : Table) → Held t → length t.tasks ≡ most_tasks
held_cells t k =
    let few : length (map task_record (table_of t)) ≤ most_tasks = omega (arith, length-map (table_of t) task_record, held_count t k, held_few t k) in
    ap (λ (x : Table). length x.tasks) k.whole ∙ length-padded most_tasks Blank.no_task (map task_record (table_of t)) few

module _ (t : Table) (k : Held t) (i : ℕ) (l : i < t.n) (d : ℕ) where
  abbrev ks : List Meant.Task
  ks = higher (table_of t) i

  abbrev ns : List ℕ
  ns = path_counts ks d

  pub many : length ks ≡ i
  many = length-take-le i (table_of t) (omega (arith, held_count t k))

  pub seven : i ≤ most_higher
  seven = omega (arith, held_few t k)

  counts_many : length ns ≡ i
  counts_many = length-map ks (λ (x : Meant.Task). length (paths_of x d)) ∙ many

  -- task j, by its record
  pub task_is : (z : Task) (j : ℕ) → j < i → task_of (get_or t.tasks j z) ≡ get_or ks j no_task
  task_is z j m = held_is t k z j (omega arith) ∙ sym (get_or-take i (table_of t) j no_task m)

  -- and as a loop over the first i comes to it
  next_many : length (take i t.tasks) ≡ i
  next_many = length-take-le i t.tasks (omega (arith, held_cells t k, held_few t k))

  abbrev next : Task → ℕ → Task
  next z j = get_or (take i t.tasks) j z

  next-task : (z : Task) (j : ℕ) → j < i → next z j ≡ get_or t.tasks j z
  next-task z j m = get_or-take i t.tasks j z m

  next_is : (z : Task) (j : ℕ) → j < i → task_of (next z j) ≡ get_or ks j no_task
  next_is z j m = ap task_of (next-task z j m) ∙ task_is z j m

  pub next_held : (z : Task) (j : ℕ) → j < length (take i t.tasks) → HeldTask (next z j)
  next_held z j m = subst HeldTask (sym (next-task z j (omega (arith, next_many)))) (held_one t k z j (omega (arith, next_many)))

  count_of : (z : Task) (j : ℕ) → j < i → length (paths_of (task_of (next z j)) d) ≡ get_or ns j 0
  count_of z j m =
      ap (λ (x : Meant.Task). length (paths_of x d)) (next_is z j m)
      ∙ sym (get_or_mapped (λ (x : Meant.Task). length (paths_of x d)) 0 no_task ks j (omega (arith, many)))

  -- ---- counted, up to task j

  pub counted_none : {above : Above} → above ≡ none_above → CountedTo ks i d above 0
  counted_none e = record { low = omega arith; seven = seven; is = e ∙ none_is d; few = λ n m. absurd (omega arith) }

  front_length : (j : ℕ) → j ≤ i → length (take j ns) ≡ j
  front_length j m = length-take-le j ns (omega (arith, counts_many))

  -- the lister's answer, cut off past the most that are allowed
  module _ (z : Task) {above : Above} {j : ℕ} (c : CountedTo ks i d above j) (test : j < length (take i t.tasks)) (r : ℕ)
      (e : r ≡ min (most_paths + 1) (length (paths_of (task_of (next z j)) d))) where
    m : j < i
    m = omega (arith, next_many)

    pub crowds : most_paths < r → Crowded ks d j
    crowds h = record { there = omega (arith, m, many); many = omega (arith, count_of z j m); few = c.few }

    module _ (h : r ≤ most_paths) where
      paths_counted : r ≡ get_or ns j 0
      paths_counted = omega (arith, count_of z j m)

      pub count_pos : 0 < r
      count_pos = let some = paths_some _ (next_held z j test).sound d in omega arith

      pub with_asks : Counted j above × (j < most_higher)
      with_asks =
          let few : (n : ℕ) → n < length (take j ns) → get_or (take j ns) n 0 ≤ most_paths = (
          λ n o. let p : n < j = omega (arith, front_length j c.low) in rw (get_or-take j ns n 0 p) (c.few n p)
          ) in
          let all = counted d (take j ns) (omega (arith, front_length j c.low, seven)) few in (
            subst (λ (x : Above). Counted j x) (sym c.is) (subst (λ (n : ℕ). Counted n (above_of d (take j ns))) (front_length j c.low) all),
            omega (arith, m, seven),
          )

      pub counted_more : {next : Above} → next ≡ with_paths above j r d → CountedTo ks i d next (j + 1)
      counted_more e' =
          let front = front_length j c.low in
          let next : take j ns ++ r ∷ [] ≡ take (j + 1) ns =
          ap (λ (n : ℕ). take j ns ++ n ∷ []) paths_counted ∙ sym (rw (add-one j) (take-suc ns j 0 (omega (arith, m, counts_many)))) in
          record {
            low = omega (arith, m);
            seven = seven;
            is =
                e'
                ∙ ap (λ (x : Above). with_paths x j r d) c.is
                ∙ ap (λ (n : ℕ). with_paths (above_of d (take j ns)) n r d) (sym front)
                ∙ more_is d (take j ns) r (omega (arith, m, front, seven))
                ∙ ap (above_of d) next;
            few = λ n o. elim (ℕ_discrete n j) [ yes q ↦ rw (q, ← paths_counted) h | no q ↦ c.few n (omega arith) ];
          }

  -- ---- all are counted

  pub all_counted : {above : Above} {j : ℕ} → CountedTo ks i d above j → length (take i t.tasks) ≤ j → AllCounted ks d above
  all_counted {j = j} c end =
      let full : i ≤ j = omega (arith, next_many) in
      record {
        above = c.is ∙ ap (λ (ms : List ℕ). above_of d ms) (take_all j ns (omega (arith, counts_many)));
        few = λ n m. c.few n (omega (arith, many));
      }

  pub all_few : {above : Above} → AllCounted ks d above → (0 < d) × (d ≤ largest_d) → Few ks d
  all_few c (o, u) =
      record { sound = λ x m. k.sound.each_task x (mem_take i (table_of t) m); seven = omega (arith, many, seven); some = o; short = u; few = c.few }

  -- ---- their stretches, filled up to task j

  module _ (span : (0 < d) × (d ≤ largest_d)) {a : Above} (all : AllCounted ks d a) (P : List ℕ) (fits : a.rows * d ≤ length P) where
    few : Few ks d
    few = all_few all span

    a_is : a ≡ above_of d ns
    a_is = all.above

    room : (above_of d ns).rows * d ≤ length P
    room = subst (λ (x : Above). x.rows * d ≤ length P) a_is fits

    abbrev stretch : Meant.Task → List ℕ
    stretch x = stretch_of x d

    pub filled_none : FilledTo ks i d P P 0
    filled_none = record { low = omega arith; seven = seven; gathered = gathering_none stretch ks P 0 }

    module _ {now : List ℕ} {j : ℕ} (f : FilledTo ks i d P now j) (test : j < length (take i t.tasks)) where
      low : j < i
      low = omega (arith, next_many)

      there : j < length ks
      there = omega (arith, low, many)

      -- its stretch: where it begins, how many paths
      abbrev own : Stretch
      own = get_or a.stretches j no_stretch

      root_is : own.root ≡ get_or (roots (above_of d ns).stretches) j 0
      root_is = sym (root_at a.stretches j) ∙ ap (λ (x : Above). get_or (roots x.stretches) j 0) a_is

      count_is : own.count ≡ get_or (counts (above_of d ns).stretches) j 0
      count_is = sym (count_at a.stretches j) ∙ ap (λ (x : Above). get_or (counts x.stretches) j 0) a_is

      -- what filling one stretch asks
      pub fill_room : (0 < d) × (d ≤ largest_d) × (own.root + stretch_cells d own.count ≤ length now)
      fill_room = let x = at ks d few j there in rw (root_is, count_is) (few.some, few.short, omega (arith, x.within, f.gathered.same, room))

      pub fill_asks : (z : Task) → HeldTask (next z j) × (own.count ≡ length (paths_of (task_of (next z j)) d)) × (own.count ≤ most_paths)
      fill_asks z =
          let x = at ks d few j there in
          rw count_is (next_held z j test, x.paths ∙ ap (λ (y : Meant.Task). length (paths_of y d)) (sym (next_is z j low)), x.few)

      pub filled_more : (z : Task) {after : List ℕ} → after ≡ sets now own.root (stretch_of (task_of (next z j)) d) → FilledTo ks i d P after (j + 1)
      filled_more z {after} e =
          let x = at ks d few j there in
          let from = length (stretches (take j ks) d) in
          let cells : after ≡ sets now from (stretch (get_or ks j no_task)) = (
          e
          ∙ ap (λ (n : ℕ). sets now n (stretch (task_of (next z j)))) (root_is ∙ x.from)
          ∙ ap (λ (y : Meant.Task). sets now from (stretch y)) (next_is z j low)
          ) in
          let g = gathering_more stretch ks {next = from + length (stretch (get_or ks j no_task))} no_task
          f.gathered there (record { cells = cells; end = refl }) in
          let end : from + length (stretch (get_or ks j no_task)) ≡ length (stretches (take (j + 1) ks) d) = g.wrote.end ∙ omega arith in
          record { low = omega (arith, low); seven = seven; gathered = subst (λ (n : ℕ). Gathering stretch ks P 0 after n (j + 1)) end g }

    pub filled_all : {now : List ℕ} {j : ℕ} → FilledTo ks i d P now j → length (take i t.tasks) ≤ j → now ≡ written (stretches ks d) P
    filled_all f end =
        (gathering_all stretch ks f.gathered (omega (arith, many, next_many))).cells ∙ front-set (stretches ks d) P (omega (arith, need_is ks d few, room))
