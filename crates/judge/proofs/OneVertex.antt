-- A vertex of a held table: the answer at each return.
use mathlib.Core.Path.{◌≡◌, refl, sym, ap, ap₂, subst, subst₂, ◌∙◌}
use Prim.Native.Nat.{ℕ, zero, suc, ◌+◌, ◌*◌, ◌≤◌, ◌<◌}
use native.Mathlib.Omega.{arith}
use native.Mathlib.Nat.{le_trans, mul-le-mul_right}
use mathlib.Core.List.{List, [], ◌∷◌, ◌++◌}
use lib.ListN.{length, take, drop, get_or, replicate}
use lib.Seq.{take_at, drop_at, get_or-take, length-take-le}
use Rattle.std.specs.Prelude.{Result, Ok, Err}
use Rattle.meaning.specs.Bounds.{most_vertices, most_higher, most_paths, largest_e, largest_d, largest_m}
use Rattle.meaning.specs.Table as Meant
use Rattle.meaning.specs.Table.{task_at, higher}
use Rattle.meaning.specs.Verdict as Said
use Rattle.meaning.specs.Paths.{Path}
use Rattle.meaning.specs.Groups.{worst}
use Rattle.meaning.specs.Verdict.{B, cells_of, shown_paths, load_of, top_of, walked, own_e, deadline, meets_paths}
use Rattle.meaning.specs.Areas as Areas
use Rattle.meaning.specs.Areas.{rows_for, work_need, witness_need, zeroed, Wrote}
use Rattle.meaning.specs.Judge.{judged}
use Rattle.kinds.specs.declared.Refusal.TheVariants.{TooManyPaths}
use Rattle.kinds.specs.declared.RefusedAt.{RefusedAt}
use Rattle.kinds.specs.declared.Lateness.{Lateness}
use Rattle.kinds.specs.declared.Lateness.TheVariants as Late
use Rattle.table.specs.declared.Table.{Table}
use Rattle.table.specs.Inner.{table_of, Held}
use Rattle.table.proofs.Records.{held_count}
use Rattle.table.proofs.Vertices.{own_task, own_vertex, own_size, own_few, job_sound, job_d}
use Rattle.ways.specs.Ways.{most_counted}
use Rattle.overload.specs.Rows.{light}
use Rattle.walk.specs.declared.Walked.{Walked}
use Rattle.walk.specs.Lent.{Walkable}
use Rattle.walk.specs.Steps.{run_rows}
use Rattle.groups.specs.Lent.{roots, counts}
use Rattle.areas.specs.declared.above.Above.{Above}
use Rattle.areas.specs.Above.{path_counts, rows_in, above_of}
use Rattle.areas.specs.Stretches.{stretches}
use Rattle.areas.specs.Witness.{path_at, paths_at}
use Rattle.areas.proofs.Counting.{above_rows}
use Rattle.std.proofs.lemmas.List.{take-take}
use Rattle.areas.proofs.Filling.{Few, rows_fit, need_is, counts_length}
use Rattle.sheet.specs.Sheet.{too_many_paths, area_rows, said_of}
use Rattle.sheet.proofs.Needs.{cells_small, area_rooms}
use Rattle.search.specs.Meant.{beside, meant_by, first_bar, written}
use Rattle.search.proofs.Joining.{walkable}
use Rattle.search.proofs.Ending.{last_bar, meets_of, written_few, places_are, walked_is, finish_is, finish_low, written_are, places-small}
use Rattle.judge.specs.Judged.{AnsweredBy}
use Rattle.judge.specs.Inner.{last_tick, There, AllCounted, Crowded}
use Rattle.judge.proofs.Told.{answer_refused, answer_area, answer_ended}
use Rattle.judge.proofs.Higher.{many, seven, all_few}
use Rattle.judge.proofs.Masking.{rule_e, rule_e_light, sum-small}
use Rattle.judge.proofs.Sheet.{none-crowded, first-crowded, need_rows, at_9, at_10, at_11, at_walk}

-- ---- the paths at the first places of the first tasks

front_paths : (n : ℕ) (ks : List Meant.Task) (d : ℕ) (ps : List ℕ) → paths_at (take n ks) d (take n ps) ≡ take n (paths_at ks d ps)
front_paths zero ks d ps = refl
front_paths (suc n) [] d ps = refl
front_paths (suc n) (k ∷ ks) d [] = refl
front_paths (suc n) (k ∷ ks) d (p ∷ ps) = ap (λ (ws : List Path). path_at k d p ∷ ws) (front_paths n ks d ps)

-- ---- a vertex of the table, with its budget and areas

pub record Asked : Type 0 where
  pub asks : Said.Asked
  pub table : Table
  pub held : Held table
  pub task : ℕ
  pub vertex : ℕ
  pub budget : ℕ
  pub work : List ℕ
  pub witness : List ℕ
  pub there : There (table_of table) (record { task = task; vertex = vertex })

module _ (asked : Asked) where
  abbrev asks : Said.Asked
  asks = asked.asks

  abbrev t : Table
  t = asked.table

  k : Held t
  k = asked.held

  abbrev i : ℕ
  i = asked.task

  abbrev v : ℕ
  v = asked.vertex

  abbrev b : ℕ
  b = asked.budget

  abbrev work : List ℕ
  work = asked.work

  abbrev wit : List ℕ
  wit = asked.witness

  abbrev ts : Meant.Table
  ts = table_of t

  abbrev J : Said.Verdict
  J = judged asks ts i v b (length work) (length wit)

  -- the paths that a meets writes, and where the bar is then
  abbrev us : List Path
  us = meets_paths asks ts i v

  abbrev tick : ℕ
  tick = last_tick asks ts i v

  abbrev need : ℕ
  need = work_need ts i v

  abbrev Refused₁ : Lateness → Type 0
  Refused₁ r = AnsweredBy J tick us need work wit r work wit

  th : There ts (record { task = i; vertex = v })
  th = asked.there

  pub task_in_lem : i < t.n
  task_in_lem = omega (arith, th.task, held_count t k)

  pub vertex_in_lem : v < (own_task t i).nv
  vertex_in_lem = omega (arith, th.vertex, own_size t k i task_in_lem)

  -- its place in the record
  pub cell_in : v < most_vertices
  cell_in = omega (arith, (own_few t k i task_in_lem).0, vertex_in_lem)

  -- the e of the overload rule
  abbrev e : ℕ
  e = own_e ts i v

  abbrev d : ℕ
  d = (own_vertex t i v).d.0

  abbrev D : ℕ
  D = deadline ts i v

  abbrev ks : List Meant.Task
  ks = higher ts i

  there : (i < length ts) × (v < length (task_at ts i).vertices)
  there = (th.task, th.vertex)

  within : i ≤ length ts
  within = omega (arith, th.task)

  d_is : d ≡ D
  d_is = job_d t k i task_in_lem v vertex_in_lem

  pub d_bounds : (0 < d) × (d ≤ largest_d)
  d_bounds = let s = job_sound t k i task_in_lem v vertex_in_lem in (omega (arith, d_is, s.some_d), omega (arith, d_is, s.most_d))

  e_light : e ≤ light
  e_light = rule_e_light t k i task_in_lem v vertex_in_lem

  -- what the calls for the higher tasks ask
  pub higher_asks : Held t × (i < t.n) × (0 < d) × (d ≤ largest_d)
  higher_asks = (k, task_in_lem, d_bounds.0, d_bounds.1)

  -- its e and the longest mask below have room for each other
  pub sum_fits : {m : ℕ} → m ≡ B ts i → (own_vertex t i v).e.0 + m ≤ largest_e + largest_m
  sum_fits mask = sum-small t k i task_in_lem v vertex_in_lem mask

  -- "some higher task has more than 64 complete paths": the lowest-numbered such task
  pub answer_9 : {j : ℕ} → Crowded ks d j → {y : Lateness} → y ≡ too_many_paths j → Refused₁ y
  answer_9 {j} c q =
      let few : (o : ℕ) → o < j → get_or (path_counts ks D) o 0 ≤ most_paths =
      λ o u. subst (λ (y : ℕ). get_or (path_counts ks y) o 0 ≤ most_paths) d_is (c.few o u) in
      let over : most_paths < get_or (path_counts ks D) j 0 = subst (λ (y : ℕ). most_paths < get_or (path_counts ks y) j 0) d_is c.many in
      let f = first-crowded ts i D within j (omega (arith, c.there, many t k i task_in_lem d)) few over in
      answer_refused J us tick TooManyPaths j need work wit q
      (at_9 asks ts i v b (length work) (length wit) there f.0 ∙ ap (Said.refused 9) f.1)

  -- ---- their paths are counted

  module _ {a : Above} (s : AllCounted ks d a) where
    few_paths : Few ks d
    few_paths = all_few t k i task_in_lem d s d_bounds

    abbrev a₀ : Above
    a₀ = above_of d (path_counts ks d)

    a_is : a ≡ a₀
    a_is = s.above

    rows_are : a.rows ≡ rows_in (path_counts ks d)
    rows_are = ap (λ (x : Above). x.rows) a_is ∙ above_rows d (path_counts ks d) (omega (arith, counts_length ks d few_paths, few_paths.seven))

    pub area_asks : (a.rows ≤ rows_for most_paths * most_higher) × (i ≤ most_higher) × (d ≤ largest_d)
    area_asks = (subst (λ (x : Above). x.rows ≤ rows_for most_paths * most_higher) (sym a_is) (rows_fit ks d few_paths), seven t k i task_in_lem d, d_bounds.1)

    none : length (Rattle.meaning.specs.Judge.crowded ts i D) ≤ 0
    none = none-crowded ts i D within
        (λ n o. subst (λ (x : ℕ). get_or (path_counts ks x) n 0 ≤ most_paths) d_is (s.few n (omega (arith, many t k i task_in_lem d))))

    needs_are : a.rows * d ≡ need
    needs_are = ap (λ (n : ℕ). a.rows * n) d_is ∙ need_rows ts i D within a.rows (rows_are ∙ ap (λ (n : ℕ). rows_in (path_counts ks n)) d_is)

    cells_are : i * (1 + d) ≡ witness_need ts i v
    cells_are = ap (λ (n : ℕ). i * (1 + n)) d_is

    -- rows 10 and 11
    pub answer_areas : {x : Result (Unit {0}) RefusedAt} → x ≡ area_rows (a.rows * d) (i * (1 + d)) (length work) (length wit)
        → {at : RefusedAt} → x ≡ Err at → {y : Lateness} → y ≡ Late.Refused at → Refused₁ y
    answer_areas =
        answer_area (a.rows * d) (i * (1 + d))
        (λ h. at_10 asks ts i v b (length work) (length wit) there none (omega (arith, needs_are)) ∙ ap (Said.refused 10) (sym needs_are))
        (λ h l. at_11 asks ts i v b (length work) (length wit) there none (omega (arith, needs_are)) (omega (arith, cells_are))
        ∙ ap (Said.refused 11) (sym cells_are))

    -- ---- no row refuses the areas

    module _ {x : Result (Unit {0}) RefusedAt} (are : x ≡ area_rows (a.rows * d) (i * (1 + d)) (length work) (length wit)) (passed : x ≡ Ok tt) where
      rooms : (a.rows * d ≤ length work) × (i * (1 + d) ≤ length wit)
      rooms = area_rooms (a.rows * d) (i * (1 + d)) (length work) (length wit) (sym are ∙ passed)

      pub fill_asks : AllCounted ks d a × (a.rows * d ≤ length work)
      fill_asks = (s, rooms.0)

      -- ---- their stretches are filled

      module _ {W : List ℕ} (filled : W ≡ Areas.written (stretches ks d) work) where
        need_long : length (stretches ks d) ≡ a.rows * d
        need_long = need_is ks d few_paths ∙ ap (λ (x : Above). x.rows * d) (sym a_is)

        front : take (a.rows * d) W ≡ stretches ks d
        front = ap (take (a.rows * d)) filled ∙ take_at (stretches ks d) (drop (length (stretches ks d)) work) (a.rows * d) need_long

        cleared : zeroed (a.rows * d) W ≡ zeroed need work
        cleared =
            ap (λ (x : List ℕ). replicate (a.rows * d) 0 ++ x)
            (ap (drop (a.rows * d)) filled ∙ drop_at (stretches ks d) (drop (length (stretches ks d)) work) (a.rows * d) need_long
            ∙ ap (λ (n : ℕ). drop n work) need_long)
            ∙ ap (λ (n : ℕ). zeroed n work) needs_are

        pub search_rows : length W ≡ length work → (a.rows ≤ rows_for most_paths * most_higher) × (d ≤ largest_d) × (a.rows * d ≤ length W)
        search_rows same = (area_asks.0, d_bounds.1, omega (arith, rooms.0, same))

        -- with the longest mask below
        module _ {m : ℕ} (mask : m ≡ B ts i) where
          abbrev e' : ℕ
          e' = (own_vertex t i v).e.0 + m

          own : e' ≡ e
          own = rule_e t k i task_in_lem v vertex_in_lem mask refl

          pub search_walks : Walkable i d e' (roots a.stretches) (counts a.stretches) (take (a.rows * d) W)
          search_walks =
              let w : Walkable i d e' (roots a₀.stretches) (counts a₀.stretches) (stretches ks d) =
              subst₂ (λ (n x : ℕ). Walkable n d x (roots a₀.stretches) (counts a₀.stretches) (stretches ks d)) (many t k i task_in_lem d) (sym own)
              (walkable ks d few_paths e e_light) in
              let x : Walkable i d e' (roots a.stretches) (counts a.stretches) (stretches ks d) =
              subst (λ (y : Above). Walkable i d e' (roots y.stretches) (counts y.stretches) (stretches ks d)) (sym a_is) w in
              subst (Walkable i d e' (roots a.stretches) (counts a.stretches)) (sym front) x

          -- ---- and the groups are walked

          module _ {bar : ℕ} (low_bar : bar ≡ first_bar asks d) {r : Walked}
              (ran : r ≡ run_rows (take (a.rows * d) W) d e' (take i (roots a.stretches)) (take i (counts a.stretches)) bar b) where
            ran_front : r ≡ run_rows (stretches ks d) d e (take (length ks) (roots a₀.stretches)) (take (length ks) (counts a₀.stretches)) (first_bar asks d) b
            ran_front =
                ran
                ∙ ap₂ (λ (x n : ℕ). run_rows (take (a.rows * d) W) d x (take i (roots a.stretches)) (take i (counts a.stretches)) n b) own low_bar
                ∙ ap (λ (x : List ℕ). run_rows x d e (take i (roots a.stretches)) (take i (counts a.stretches)) (first_bar asks d) b) front
                ∙ ap (λ (x : Above). run_rows (stretches ks d) d e (take i (roots x.stretches)) (take i (counts x.stretches)) (first_bar asks d) b) a_is
                ∙ ap (λ (n : ℕ). run_rows (stretches ks d) d e (take n (roots a₀.stretches)) (take n (counts a₀.stretches)) (first_bar asks d) b)
                (sym (many t k i task_in_lem d))

            abbrev ws : List Path
            ws = paths_at ks d r.places

            seven_places : length r.places ≡ most_higher
            seven_places = places_are asks ks d few_paths e b e_light r ran_front

            abbrev shown : ℕ
            shown = written asks r.ending i

            -- ---- the paths that are written

            module _ {stop : ℕ} (is : stop ≡ shown) where
              stop_low : stop ≤ i
              stop_low = omega (arith, written_few asks r.ending i)

              pub shown-within : stop ≤ length r.places
              shown-within = omega (arith, stop_low, seven_places, seven t k i task_in_lem d)

              places_many : length (take stop r.places) ≡ stop
              places_many = length-take-le stop r.places shown-within

              pub write_held : Held t × (length (take stop r.places) < t.n) × (0 < d) × (d ≤ largest_d)
              write_held = (k, omega (arith, places_many, stop_low, task_in_lem), d_bounds.0, d_bounds.1)

              pub write_small : (j : ℕ) → j < length (take stop r.places) → get_or (take stop r.places) j 0 ≤ most_counted
              write_small j m =
                  let l : j < stop = omega (arith, places_many) in
                  let all : written asks r.ending (length ks) ≡ shown = ap (written asks r.ending) (many t k i task_in_lem d) in
                  omega (arith, get_or-take stop r.places j 0 l, places-small asks ks d few_paths e b e_light r ran_front j (omega (arith, all)))

              pub write_room : length (take stop r.places) * (1 + d) ≤ length wit
              write_room = le_trans (mul-le-mul_right (1 + d) (omega (arith, places_many, stop_low))) rooms.1

              -- what is written
              written-paths : paths_at (higher ts (length (take stop r.places))) d (take stop r.places) ≡ take shown ws
              written-paths =
                  ap (λ (n : ℕ). paths_at (higher ts n) d (take stop r.places)) places_many
                  ∙ ap (λ (x : List Meant.Task). paths_at x d (take stop r.places)) (sym (take-take stop i ts stop_low))
                  ∙ front_paths stop ks d r.places
                  ∙ ap (λ (n : ℕ). take n ws) is

              module _ {wit' : List ℕ} {cells : ℕ} (wrote : Wrote (cells_of (paths_at (higher ts (length (take stop r.places))) d (take stop r.places))) wit 0 wit' cells
                  × (cells ≤ length (take stop r.places) * (1 + d))) where
                few_cells : cells ≤ i * (1 + d)
                few_cells = le_trans wrote.1 (mul-le-mul_right (1 + d) (omega (arith, places_many, stop_low)))

                pub said_asks : (r.finish ≤ largest_d + 1) × (cells ≤ most_higher * (1 + largest_d))
                said_asks = (
                  omega (arith, finish_low asks ks d few_paths e b e_light r ran_front, d_bounds.1),
                  le_trans few_cells (cells_small i d (seven t k i task_in_lem d) d_bounds.1),
                )

                -- ---- what the walk says

                judged_is : J ≡ meant_by r.ending ws
                judged_is =
                    at_walk asks ts i v b (length work) (length wit) there none (omega (arith, needs_are, rooms.0)) (omega (arith, cells_are, rooms.1))
                    ∙ sym (ap (walked asks b ks e) d_is) ∙ walked_is asks ks d few_paths e b e_light r ran_front

                shown_are : shown_paths us (meant_by r.ending ws) ≡ take shown ws
                shown_are =
                    ap (λ (ps : List Path). shown_paths ps (meant_by r.ending ws)) (meets_paths_lem asks)
                    ∙ written_are asks ks d few_paths e b e_light r ran_front ∙ ap (λ (n : ℕ). take (written asks r.ending n) ws) (many t k i task_in_lem d)
                  where
                    meets_paths_lem : (z : Said.Asked) → meets_paths z ts i v ≡ meets_of z ks e d
                    meets_paths_lem Said.plain = refl
                    meets_paths_lem Said.latest = ap (meets_of Said.latest ks e) (sym d_is)

                tick_is : r.finish ≡ beside (meant_by r.ending ws) tick
                tick_is = finish_is asks ks d few_paths e b e_light r ran_front ∙ ap (beside (meant_by r.ending ws)) (last_tick_lem asks)
                  where
                    last_tick_lem : (z : Said.Asked) → (last_bar z e d (top_of ks d)).tick ≡ last_tick z ts i v
                    last_tick_lem Said.plain = d_is
                    last_tick_lem Said.latest = ap (λ (y : ℕ). worst load_of e y (top_of ks y)) d_is

                -- the answer, where the work cells became Z
                pub answer-walked : {Z : List ℕ} → Z ≡ zeroed (a.rows * d) W → {x : Lateness} → x ≡ said_of r.ending r.finish cells
                    → AnsweredBy J tick us need work wit x Z wit'
                answer-walked {Z} clear {x} q =
                    subst (λ (y : Said.Verdict). AnsweredBy y tick us need work wit x Z wit') (sym judged_is)
                    (answer_ended r.ending ws (shown_are ∙ sym written-paths) wrote.0 (omega (arith, few_cells, rooms.1)) tick_is (clear ∙ cleared) q)
