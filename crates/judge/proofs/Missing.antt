-- The cells of a miss, one higher task after the other.
use mathlib.Core.Path.{◌≡◌, sym, ap, subst, ◌∙◌}
use Prim.Native.Nat.{ℕ, ◌+◌, ◌*◌, ◌≤◌, ◌<◌, min}
use native.Mathlib.Omega.{arith}
use native.Mathlib.Nat.{le_trans, mul-le-mul_right, suc-mul}
use native.Mathlib.Numerals.{add-one}
use mathlib.Core.List.{List, []}
use lib.ListN.{length, get_or}
use Rattle.meaning.specs.Bounds.{most_higher, largest_d}
use Rattle.meaning.specs.Table as Meant
use Rattle.meaning.specs.Table.{no_task, higher}
use Rattle.meaning.specs.Paths.{Path}
use Rattle.meaning.specs.Verdict.{cells_of}
use Rattle.meaning.specs.Areas.{Wrote}
use Rattle.meaning.proofs.Wrote.{Gathering, gathering_none, gathering_more, gathering_all}
use Rattle.table.specs.declared.Task.{Task}
use Rattle.table.specs.declared.Table.{Table}
use Rattle.table.specs.Record.{blank_task}
use Rattle.table.specs.Inner.{task_of, table_of, HeldTask, Held}
use Rattle.table.proofs.Records.{held_few, held_one}
use Rattle.ways.specs.Ways.{most_counted}
use Rattle.areas.specs.Witness.{path_cell, path_at, paths_at}
use Rattle.areas.proofs.Witnesses.{at_place, places-length}
use Rattle.judge.proofs.Higher.{held_cells, many, seven, task_is}

-- after the paths of the first j tasks
pub record MissTo (ks : List Meant.Task) (h d : ℕ) (ps before now : List ℕ) (at j : ℕ) : Type 0 where
  pub low : j ≤ h
  pub few : h ≤ most_higher
  pub short : at ≤ j * (1 + d)
  pub gathered : Gathering path_cell (paths_at ks d ps) before 0 now at j

module _ (t : Table) (k : Held t) (ps : List ℕ) (l : length ps < t.n) (d : ℕ) (o : 0 < d) (u : d ≤ largest_d)
    (before : List ℕ) (room : length ps * (1 + d) ≤ length before) where
  abbrev h : ℕ
  h = length ps

  abbrev ks : List Meant.Task
  ks = higher (table_of t) h

  long : length (paths_at ks d ps) ≡ h
  long = places-length ks d ps (omega (arith, many t k h l d, seven t k h l d)) ∙ many t k h l d

  pub miss_none : MissTo ks h d ps before before 0 0
  miss_none = record { low = omega arith; few = seven t k h l d; short = omega arith; gathered = gathering_none path_cell (paths_at ks d ps) before 0 }

  row_fits : (j : ℕ) → j < h → (j + 1) * (1 + d) ≤ length before
  row_fits j m = le_trans (mul-le-mul_right (1 + d) (omega arith)) room

  -- a loop over the tasks and the places together has come to the task x and its place p
  module _ {x : Task} {p : ℕ} {now : List ℕ} {at j : ℕ} (w : MissTo ks h d ps before now at j)
      (turn : (j < length t.tasks) × (j < h) × ((z : Task) → x ≡ get_or t.tasks j z) × ((n : ℕ) → p ≡ get_or ps j n)) where
    m : j < h
    m = turn.1

    task : task_of x ≡ get_or ks j no_task
    task = ap task_of (turn.2 blank_task) ∙ task_is t k h l d blank_task j m

    more : (j + 1) * (1 + d) ≡ j * (1 + d) + (1 + d)
    more = ap (λ (n : ℕ). n * (1 + d)) (add-one j) ∙ suc-mul j (1 + d) ∙ omega arith

    pub place_asks : ((n : ℕ) → n < h → get_or ps n 0 ≤ most_counted)
        → HeldTask x × (0 < d) × (d ≤ largest_d) × (p ≤ most_counted) × (at + (1 + d) ≤ length now)
    place_asks small = (
      subst HeldTask (sym (turn.2 blank_task)) (held_one t k blank_task j (omega (arith, m))),
      o,
      u,
      omega (arith, turn.3 0, small j m),
      omega (arith, w.short, w.gathered.same, row_fits j m, more),
    )

    pub miss_more : {after : List ℕ} {next i : ℕ} → i ≡ j + 1
        → Wrote (path_cell (path_at (task_of x) d p)) now at after next × (next ≤ at + (1 + d))
        → MissTo ks h d ps before after next i
    miss_more {after} {next} e (v, near) =
        let same : path_at (task_of x) d p ≡ get_or (paths_at ks d ps) j [] = (
        ap (λ (y : Meant.Task). path_at y d p) task
        ∙ ap (path_at (get_or ks j no_task) d) (turn.3 0)
        ∙ sym (at_place ks d ps j (omega (arith, m, many t k h l d)) (omega (arith, many t k h l d)))
        ) in
        rw e
        (record {
          low = omega (arith, m);
          few = w.few;
          short = omega (arith, w.short, more);
          gathered = gathering_more path_cell (paths_at ks d ps) [] w.gathered (omega (arith, m, long))
              (subst (λ (x : Path). Wrote (path_cell x) now at after next) same v);
        })

  pub miss_all : {now : List ℕ} {at j : ℕ} → MissTo ks h d ps before now at j → j ≡ min (length t.tasks) h
      → Wrote (cells_of (paths_at ks d ps)) before 0 now at × (at ≤ h * (1 + d))
  miss_all {j = j} w end =
      let full : h ≤ j = omega (arith, l, end, held_cells t k, held_few t k) in
      (gathering_all path_cell (paths_at ks d ps) w.gathered (omega (arith, long)), le_trans w.short (mul-le-mul_right (1 + d) w.low))
