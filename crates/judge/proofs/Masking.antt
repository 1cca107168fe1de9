-- The tasks of lower priority than task i of a held table, one after the other: the longest of their masked lengths, and e with it.
use mathlib.Core.Path.{◌≡◌, refl, ap, ◌∙◌}
use Prim.Native.Nat.{ℕ, suc, ◌+◌, ◌-◌, ◌≤◌, ◌<◌, max}
use native.Mathlib.Omega.{arith}
use mathlib.Core.List.Memᴰ
use mathlib.Core.List.{List, [], ◌∷◌}
use lib.ListN.{length, take, drop, get_or, drop_of_length-le, length-drop}
use lib.Seq.{drop-cons, get_or-take, length-take-le}
use Rattle.std.proofs.lemmas.List.{get_or-drop}
use Rattle.meaning.specs.Bounds.{most_tasks, largest_e, largest_m}
use Rattle.meaning.specs.Table as Meant
use Rattle.meaning.specs.Table.{no_task, task_at, lower, largest_m_in}
use Rattle.meaning.specs.Verdict.{B, own_e}
use Rattle.meaning.specs.Sound.{AllSound}
use Rattle.meaning.proofs.Lists.{mem_drop}
use Rattle.table.specs.declared.Task.{Task}
use Rattle.table.specs.declared.Table.{Table}
use Rattle.table.specs.Inner.{table_of, Held}
use Rattle.table.proofs.Records.{held_count, held_few, held_is}
use Rattle.table.proofs.Vertices.{own_task, own_vertex, job_sound, job_e}
use Rattle.overload.specs.Rows.{light}
use Rattle.judge.proofs.Higher.{held_cells}

masks_small : (ks : List Meant.Task) → AllSound ks → largest_m_in ks ≤ largest_m
masks_small [] s = omega arith
masks_small (k ∷ ks) s = omega (arith, (s k (Memᴰ.head refl)).most_m, masks_small ks (λ j m. s j (Memᴰ.tail m)))

-- `masked` is the longest so far, and the tasks from number `low` on are still to come
pub record MaskedTo (t : Table) (i masked low : ℕ) : Type 0 where
  pub few : t.n ≤ most_tasks
  pub longest : max masked (largest_m_in (drop low (table_of t))) ≡ B (table_of t) i

module _ (t : Table) (k : Held t) (i : ℕ) where
  abbrev ts : Meant.Table
  ts = table_of t

  -- the longest of the tasks from number j on
  abbrev from : ℕ → ℕ
  from j = largest_m_in (drop j ts)

  B-small : B ts i ≤ largest_m
  B-small = masks_small (lower ts i) (λ j m. k.sound.each_task j (mem_drop (suc i) ts m))

  pub masked_none : MaskedTo t i 0 (i + 1 + 0)
  masked_none = let e : i + 1 + 0 ≡ suc i = omega arith in record { few = held_few t k; longest = omega (arith, ap from e) }

  -- the records of the tasks from number `first` on
  abbrev lower_tasks : ℕ → List Task
  lower_tasks first = take (t.n - first) (drop first t.tasks)

  many : (first : ℕ) → length (lower_tasks first) ≡ t.n - first
  many first = length-take-le (t.n - first) (drop first t.tasks) (omega (arith, length-drop first t.tasks, held_cells t k, held_few t k))

  -- a loop over them has come to this place
  module _ {first masked index : ℕ} (begin : first ≡ i + 1) (h : MaskedTo t i masked (i + 1 + index)) where
    pub masked_more : (z : Task) → index < length (lower_tasks first) → {next : ℕ} → next ≡ max masked (get_or (lower_tasks first) index z).m.0
        → MaskedTo t i next (i + 1 + (index + 1))
    masked_more z test p =
        let low = i + 1 + index in
        let here : get_or (lower_tasks first) index z ≡ get_or t.tasks (first + index) z =
        get_or-take (t.n - first) (drop first t.tasks) index z (omega (arith, many first)) ∙ get_or-drop first t.tasks index z in
        let at_low : first + index ≡ low = omega arith in
        let own : (get_or t.tasks low z).m.0 ≡ (task_at ts low).m = ap (λ (x : Meant.Task). x.m) (held_is t k z low (omega (arith, many first))) in
        let same = ap (λ (x : Task). x.m.0) (here ∙ ap (λ (n : ℕ). get_or t.tasks n z) at_low) in
        let more : from low ≡ max (task_at ts low).m (from (suc low)) = ap largest_m_in (drop-cons ts low no_task (omega (arith, many first, held_count t k))) in
        let after : i + 1 + (index + 1) ≡ suc low = omega arith in
        record { few = h.few; longest = omega (arith, h.longest, more, own, same, ap from after) }

    pub masked_all : length (lower_tasks first) ≤ index → masked ≡ B ts i
    masked_all end =
        omega (arith, h.longest, ap largest_m_in (drop_of_length-le ts {i = i + 1 + index} (omega (arith, many first, held_count t k))))

  -- ---- e, of a vertex of the task

  module _ (l : i < t.n) (v : ℕ) (m : v < (own_task t i).nv) where
    abbrev own : ℕ
    own = (own_vertex t i v).e.0

    own_small : own ≤ largest_e
    own_small = let s = job_sound t k i l v m in omega (arith, job_e t k i l v m, s.most_e)

    pub rule_e_light : own_e ts i v ≤ light
    rule_e_light = omega (arith, job_e t k i l v m, own_small, B-small)

    module _ {masked : ℕ} (b : masked ≡ B ts i) where
      pub sum-small : own + masked ≤ largest_e + largest_m
      sum-small = omega (arith, own_small, B-small)

      pub rule_e : {x : ℕ} → x ≡ own + masked → x ≡ own_e ts i v
      rule_e q = omega (arith, job_e t k i l v m)
