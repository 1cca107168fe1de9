-- A table, task by task: what is found in its lines, and the bytes of its text.
use mathlib.Core.Path.{◌≡◌, refl, sym, ap, ap₂, ◌∙◌}
use Prim.Native.Nat.{ℕ, ◌+◌, ◌*◌, ◌≤◌, ◌<◌}
use native.Mathlib.Omega.{arith}
use mathlib.Core.Bool.{Bool, true, false}
use native.Mathlib.Nat.{zero-add}
use mathlib.Core.List.{List, ◌∷◌, map}
use lib.ListN.{length, drop, take, get_or, drop_of_length-le}
use Rattle.std.proofs.lemmas.List.{length-take, get_or-take}
use lib.Dec.{eqb}
use borrow.Author.Tests.{le-leb, lt-leb, eq-eqb, ne_eqb}
use Rattle.std.specs.Prelude.{Result, Ok, Err}
use Rattle.meaning.specs.Lists.{pick, sum, below}
use Rattle.meaning.specs.Bounds.{most_tasks}
use Rattle.meaning.specs.Table as Meant
use Rattle.meaning.specs.Texts.{end_line, longest_task, task_length, text_length, most_lines}
use Rattle.meaning.proofs.Lists.{length-count_from, get_or-count_from}
use Rattle.kinds.specs.declared.RefusedAt.{RefusedAt}
use Rattle.kinds.specs.declared.Refusal.TheVariants.{WrongFrame}
use Rattle.frames.specs.Frames.{part_bytes, task_bytes}
use Rattle.table.specs.declared.Task.{Task}
use Rattle.table.specs.declared.Table.{Table}
use Rattle.table.specs.Record.{blank_task, task_held, table_held}
use Rattle.table.proofs.Holding.{held_task, task-vertices, task_edges_lem, tasks_length_lem}
use Rattle.checks.specs.Checks.{Check, kept, broken_by, and_then, task_check, lines_of_task, ninth_check, end_check, table_check, checked_by, TableChecked}
use Rattle.checks.proofs.InOrder.{broken_apart, mapped_next, Order, Rest, rest_all, rest_none, rest_broken, rest_kept}
use Rattle.checks.proofs.Tasks.{kept_bounds}

-- ---- a task's lines, and their bytes

held_lines : (k : Task) → lines_of_task (task_held k) ≡ 1 + k.nv + k.ne
held_lines k = rw (task-vertices k, task_edges_lem k)

abbrev bytes_in : List Meant.Task → ℕ
bytes_in ks = sum (map task_length ks)

held_bytes : (k : Task) → task_length (task_held k) ≡ task_bytes k.m.0 + part_bytes * (k.nv + k.ne)
unfolding task_bytes task_held
held_bytes k = omega (arith, task-vertices k, task_edges_lem k)

-- a task's own line is not the longest
pub few_bytes : {b : ℕ} (m : ℕ) → b ≡ task_bytes m → b ≤ part_bytes
unfolding task_bytes
few_bytes m e = rw e (go (eqb m 0))
  where
    go : (x : Bool) → pick x 7 11 ≤ 11
    go true = omega arith
    go false = omega arith

-- ---- the loop

abbrev pub cell : Table → ℕ → Task
cell t i = get_or t.tasks i blank_task

then_then : (a b c : Check) → and_then a (and_then b c) ≡ and_then (and_then a b) c
then_then (Ok u) b c = refl
then_then (Err at) b c = refl

pub table_turn : (i n : ℕ) (k : Meant.Task) (ks : List Meant.Task)
    → table_check i n (k ∷ ks) ≡ and_then (and_then (ninth_check i n) (task_check n k)) (table_check (i + 1) (n + lines_of_task k) ks)
unfolding table_check
table_turn i n k ks = then_then (ninth_check i n) (task_check n k) (table_check (i + 1) (n + lines_of_task k) ks)

-- after i tasks, from a line on
abbrev pub task_order : Order (ℕ × ℕ) Meant.Task
task_order =
    record {
      all = λ s. table_check s.0 s.1;
      one = λ s k. and_then (ninth_check s.0 s.1) (task_check s.1 k);
      next = λ s k. (s.0 + 1, s.1 + lines_of_task k);
      turn = λ s k ks. table_turn s.0 s.1 k ks;
    }

module _ (t : Table) where
  abbrev ts : List Meant.Task
  ts = table_held t

  -- the tasks from task i on
  next_task : (i : ℕ) → i < t.n → drop i ts ≡ task_held (cell t i) ∷ drop (i + 1) ts
  unfolding table_held
  next_task i h =
      let place : get_or (below t.n) i 0 ≡ i = get_or-count_from 0 t.n i h ∙ zero-add i in
      mapped_next (held_task t.tasks) (below t.n) i 0 (omega (arith, length-count_from 0 t.n))
      ∙ ap (λ (j : ℕ). held_task t.tasks j ∷ drop (i + 1) ts) place

  -- among as many as stand at the front of the cells
  pub taken_next : (m i : ℕ) → m ≤ t.n → i < length (take m t.tasks)
      → drop i ts ≡ task_held (get_or (take m t.tasks) i blank_task) ∷ drop (i + 1) ts
  taken_next m i l h =
      let few : i < m = omega (arith, h, length-take m t.tasks) in
      next_task i (omega arith) ∙ ap (λ (k : Task). task_held k ∷ drop (i + 1) ts) (sym (get_or-take m t.tasks i blank_task few))

  no_task_left : (i : ℕ) → t.n ≤ i → length ts ≤ i
  no_task_left i h = omega (arith, tasks_length_lem t)

-- before task i: the rest decides, and the text has so many bytes besides those of the tasks that are left
pub record Turn (t : Table) (bytes line i : ℕ) : Type 0 where
  pub early : line ≤ 1 + most_lines * i
  pub small : bytes ≤ end_line + longest_task * i
  pub rest : Rest task_order (table_held t) (0, 1) (i, line) i
  pub size : bytes + bytes_in (drop i (table_held t)) ≡ text_length (table_held t)

pub turn_first : (t : Table) → Turn t end_line 1 0
turn_first t =
    record {
      early = omega arith;
      small = omega arith;
      rest = rest_all task_order (table_held t) (0, 1);
      size = omega arith;
    }

found_checked : (t : Table) (n : ℕ) (x : Check) → x ≡ table_check 0 1 (table_held t) → (x ≡ kept → n ≡ text_length (table_held t))
    → TableChecked t (checked_by x n)
found_checked t n (Ok u) e b = record { is = ap₂ checked_by e (b refl) }
found_checked t n (Err at) e b = record { is = ap (λ (x : Check). checked_by x (text_length (table_held t))) e }

-- what a caller learns: the text is sound and has so many bytes, or it breaks a rule
module _ {t : Table} where
  pub checked_kept : {n : ℕ} → TableChecked t (Ok n) → (table_check 0 1 (table_held t) ≡ kept) × (n ≡ text_length (table_held t))
  checked_kept {n} q = go (table_check 0 1 (table_held t)) q.is
    where
      go : (x : Check) → ◌≡◌ {A = Result ℕ RefusedAt} (Ok n) (checked_by x (text_length (table_held t))) → (x ≡ kept) × (n ≡ text_length (table_held t))
      go (Ok u) e = (refl, cc)
      go (Err at) e = absurd (let z : ◌≡◌ {A = ℕ} 0 1 = cc in omega arith)

  pub checked_broken : {at : RefusedAt} → TableChecked t (Err at) → table_check 0 1 (table_held t) ≡ Err at
  checked_broken {at} q = go (table_check 0 1 (table_held t)) q.is
    where
      go : (x : Check) → ◌≡◌ {A = Result ℕ RefusedAt} (Err at) (checked_by x (text_length (table_held t))) → x ≡ Err at
      go (Ok u) e = absurd (let z : ◌≡◌ {A = ℕ} 0 1 = cc in omega arith)
      go (Err a) e = cc

module _ {t : Table} {bytes line i : ℕ} (h : Turn t bytes line i) where
  module _ (more : i < t.n) where
    pub turn_ninth : most_tasks ≤ i → TableChecked t (checked_by (broken_by WrongFrame line) 0)
    turn_ninth l =
        let f : broken_by WrongFrame line ≡ and_then (ninth_check i line) (task_check line (task_held (cell t i))) = rw (le-leb most_tasks i l) in
        found_checked t 0 (broken_by WrongFrame line) (rest_broken h.rest (next_task t i more) f refl) broken_apart

  module _ (k : Task) (p : drop i (table_held t) ≡ task_held k ∷ drop (i + 1) (table_held t)) {c : Check} (few : i < most_tasks)
      (f : c ≡ task_check line (task_held k)) where
    one : c ≡ and_then (ninth_check i line) (task_check line (task_held k))
    one = rw (lt-leb most_tasks i few) f

    pub turn_broken : {at : RefusedAt} → c ≡ Err at → TableChecked t (Err at)
    turn_broken {at} e = found_checked t 0 (Err at) (rest_broken h.rest p one e) broken_apart

    pub turn_more : {b next at : ℕ} → c ≡ kept → b ≡ task_bytes k.m.0 → next ≡ bytes + b + part_bytes * (k.nv + k.ne)
        → at ≡ line + 1 + k.nv + k.ne → Turn t next at (i + 1)
    turn_more e q size place =
        let o = kept_bounds k line (sym f ∙ e) in
        let l = few_bytes k.m.0 q in
        let opened = ap bytes_in p in
        let lines = held_lines k in
        record {
          early = omega (arith, h.early);
          small = omega (arith, h.small);
          rest = rest_kept h.rest p one e (ap {B = ℕ × ℕ} (λ (l : ℕ). (i + 1, l)) (omega (arith, place, lines)));
          size = omega (arith, h.size, opened, held_bytes k);
        }

  module _ (done : t.n ≤ i) where
    ended : end_check i line ≡ table_check 0 1 (table_held t)
    unfolding table_check
    ended = rest_none h.rest (no_task_left t i done)

    pub turn_none : i ≡ 0 → TableChecked t (checked_by (broken_by WrongFrame line) 0)
    turn_none z =
        let f : broken_by WrongFrame line ≡ end_check i line = rw (eq-eqb i 0 z) in
        found_checked t 0 (broken_by WrongFrame line) (f ∙ ended) broken_apart

    pub turn_last : (i ≡ 0 → ⊥) → TableChecked t (Ok bytes)
    turn_last z =
        let f : kept ≡ end_check i line = rw (ne_eqb i 0 z) in
        let none = ap bytes_in (drop_of_length-le (table_held t) (no_task_left t i done)) in
        found_checked t bytes kept (f ∙ ended) (λ e. omega (arith, h.size, none))
