-- The table that cells hold, task by task: the record goes with it up to the task that is the last to matter.
use mathlib.Core.Path.{◌≡◌, refl, sym, ap, ap₂, subst, ◌∙◌}
use Prim.Native.Nat.{ℕ, zero, suc, ◌+◌, ◌-◌, ◌≤◌, ◌<◌}
use native.Mathlib.Nat.{sub-zero}
use native.Mathlib.Omega.{arith}
use mathlib.Core.Bool.{Bool, true, false}
use mathlib.Core.List.{List, [], ◌∷◌, ◌++◌, append_assoc, append-nil}
use lib.ListN.{length, set, length-set, length-replicate}
use borrow.Author.Tests.{lt-ltb, le-ltb, le-leb, lt-leb}
use Rattle.meaning.specs.Bounds.{most_tasks, most_vertices, most_edges}
use Rattle.meaning.specs.Table as Meant
use Rattle.meaning.proofs.Lists.{count_length_lem}
use Rattle.kinds.specs.declared.Refusal.TheVariants.{WrongFrame, OutOfBounds}
use Rattle.rules.specs.Rules as Rules
use Rattle.rules.proofs.Within.{task_bounds}
use Rattle.table.specs.declared.Task.{Task}
use Rattle.table.specs.declared.Table.{Table}
use Rattle.table.specs.Record.{no_task, task_held, table_held}
use Rattle.table.specs.Inner.{no_table}
use Rattle.table.proofs.Holding.{held_task, task-vertices, task_edges_lem, one_more, tasks_put, tasks_counted}
use Rattle.checks.specs.Checks.{broken_by, and_then, task_check, own_check, lines_of_task, ninth_check, table_check}
use Rattle.checks.proofs.Tables.{task_order}
use Rattle.cells.specs.Cells.{cell_at, task_from, cells_taken, tasks_from, cells_table}
use Rattle.cells.specs.Inner.{narrow_task, TaskRead, WrittenAlike}
use Rattle.cells.proofs.Alike.{Alike, alike_self, alike_cut, alike_more, alike_written}
use Rattle.cells.proofs.Narrowed.{task_alike}

-- ---- the tasks that are left, after i of them

abbrev left : List ℕ → ℕ → ℕ → Meant.Table
left cs i at = tasks_from (length cs - i) cs at

abbrev next : List ℕ → ℕ → ℕ
next cs at = at + cells_taken (cell_at cs at) (cell_at cs (at + 1))

left-none : (cs : List ℕ) (i at : ℕ) → length cs ≤ at → left cs i at ≡ []
left-none cs i at h = go (length cs - i)
  where
    go : (n : ℕ) → tasks_from n cs at ≡ []
    go zero = refl
    go (suc n) =
        ap (λ (b : Bool). elim b [ true ↦ task_from cs at ∷ tasks_from n cs (next cs at) | false ↦ [] ]) (le-ltb at (length cs) h)

left_some : (cs : List ℕ) (i at : ℕ) → i ≤ at → at < length cs → left cs i at ≡ task_from cs at ∷ left cs (i + 1) (next cs at)
left_some cs i at l h =
    let o : length cs - i ≡ suc (length cs - (i + 1)) = omega arith in
    ap (λ (n : ℕ). tasks_from n cs at) o
    ∙ ap (λ (b : Bool). elim b [ true ↦ task_from cs at ∷ tasks_from (length cs - (i + 1)) cs (next cs at) | false ↦ [] ]) (lt-ltb at (length cs) h)

-- ---- a task with too many vertices or edges

many_broken : (n : ℕ) (k : Meant.Task) → (length k.vertices ≤ most_vertices → length k.edges ≤ most_edges → ⊥)
    → task_check n k ≡ broken_by OutOfBounds n
unfolding task_check own_check
many_broken n k h = go (Rules.task_in (length k.vertices) (length k.edges) 0 k.m) refl
  where
    go : (b : Bool) → Rules.task_in (length k.vertices) (length k.edges) 0 k.m ≡ b → task_check n k ≡ broken_by OutOfBounds n
    go true q = let b = task_bounds (length k.vertices) (length k.edges) 0 k.m q in absurd (h b.v_in b.e_in)
    go false q = rw q

-- ---- the loop

-- from any line on, after i tasks
abbrev AlikeFrom : ℕ → Meant.Table → Meant.Table → Type 0
AlikeFrom i us ts = (n : ℕ) → Alike (table_check i n) us ts

-- a whole table, and the one that the cells hold
abbrev AlikeCells : List ℕ → Meant.Table → Type 0
AlikeCells cs us = Alike (table_check 0 1) us (cells_table cs)

-- before the task at a place: whatever is found alike with what is left there makes the record alike with the table
pub record Turn (cs : List ℕ) (t : Table) (at : ℕ) : Type 0 where
  pub few : t.n ≤ most_tasks
  pub size : length t.tasks ≡ most_tasks
  pub passed : t.n ≤ at
  pub alike : (xs : Meant.Table) → AlikeFrom t.n xs (left cs t.n at) → AlikeCells cs (table_held t ++ xs)

none : (cs : List ℕ) → Turn cs no_table 0
unfolding table_held cells_table
none cs =
    record {
      few = omega arith;
      size = length-replicate most_tasks no_task;
      passed = omega arith;
      alike = λ xs h. subst (λ (n : ℕ). Alike (table_check 0 1) xs (tasks_from n cs 0)) (sub-zero (length cs)) (h 1);
    }

pub turn_first : (cs : List ℕ) {t : Table} → t ≡ no_table → Turn cs t 0
turn_first cs e = subst (λ (t : Table). Turn cs t 0) (sym e) (none cs)

module _ {cs : List ℕ} {t : Table} {at : ℕ} (h : Turn cs t at) where
  -- the record u is closed by xs
  closed : (u : Table) (xs : Meant.Table) → table_held u ≡ table_held t ++ xs → AlikeFrom t.n xs (left cs t.n at) → WrittenAlike cs u
  closed u xs e a = alike_written (subst (AlikeCells cs) (sym e) (h.alike xs a))

  pub turn_end : length cs ≤ at → WrittenAlike cs t
  turn_end l =
      closed t [] (sym (append-nil (table_held t)))
      (λ n. subst (Alike (table_check t.n n) []) (sym (left-none cs t.n at l)) (alike_self (table_check t.n n) []))

  module _ (more : at < length cs) where
    abbrev behind : Meant.Table
    behind = left cs (t.n + 1) (next cs at)

    opened : {xs : Meant.Table} (n : ℕ) → Alike (table_check t.n n) xs (task_from cs at ∷ behind) → Alike (table_check t.n n) xs (left cs t.n at)
    opened {xs} n a = subst (Alike (table_check t.n n) xs) (sym (left_some cs t.n at h.passed more)) a

    pub turn_ninth : t.n ≡ most_tasks → WrittenAlike cs (one_more t t.tasks)
    turn_ninth e =
        closed (one_more t t.tasks) (held_task t.tasks t.n ∷ []) (tasks_counted t)
        (λ n. opened n (alike_cut task_order (t.n, n) (ninth n (held_task t.tasks t.n)) (ninth n (task_from cs at))))
      where
        ninth : (n : ℕ) (k : Meant.Task) → and_then (ninth_check t.n n) (task_check n k) ≡ broken_by WrongFrame n
        ninth n k = rw (le-leb most_tasks t.n (omega (arith, e)))

    module _ (room : t.n ≡ most_tasks → ⊥) {k : Task} (r : TaskRead cs at k) where
      fewer : t.n < most_tasks
      fewer = omega (arith, h.few)

      abbrev taken : Table
      taken = one_more t (set t.tasks t.n k)

      taken_held : table_held taken ≡ table_held t ++ (task_held k ∷ [])
      taken_held = tasks_put t k (omega (arith, h.size, fewer))

      one : (n : ℕ) (x : Meant.Task) → and_then (ninth_check t.n n) (task_check n x) ≡ task_check n x
      one n x = rw (lt-leb most_tasks t.n fewer)

      pub turn_cut : (k.nv ≤ most_vertices → k.ne ≤ most_edges → ⊥) → WrittenAlike cs taken
      turn_cut many =
          closed taken (task_held k ∷ []) taken_held
          (λ n. opened n
          (alike_cut task_order (t.n, n)
          (out n (task_held k) (λ a b. many (omega (arith, task-vertices k)) (omega (arith, task_edges_lem k))))
          (out n (task_from cs at) (λ a b. many (omega (arith, r.vertex_count, vertices)) (omega (arith, r.edge_count, edges))))))
        where
          out : (n : ℕ) (x : Meant.Task) → (length x.vertices ≤ most_vertices → length x.edges ≤ most_edges → ⊥)
              → and_then (ninth_check t.n n) (task_check n x) ≡ broken_by OutOfBounds n
          out n x m = one n x ∙ many_broken n x m

          vertices : length (task_from cs at).vertices ≡ cell_at cs at
          vertices = count_length_lem _ 0 (cell_at cs at)

          edges : length (task_from cs at).edges ≡ cell_at cs (at + 1)
          edges = count_length_lem _ 0 (cell_at cs (at + 1))

      module _ (a : k.nv ≤ most_vertices) (b : k.ne ≤ most_edges) where
        taken_alike : (n : ℕ) → Alike (task_order.one (t.n, n)) (task_held k) (task_from cs at)
        taken_alike n =
            let x = task_from cs at in
            let u = task_alike n x in
            subst (λ (y : Meant.Task). Alike (task_order.one (t.n, n)) y x) (sym (r.held a b))
            (record { same = one n (narrow_task x) ∙ u.same ∙ sym (one n x); kept = λ q. u.kept (sym (one n x) ∙ q) })

        after : at + cells_taken k.nv k.ne ≡ next cs at
        after = ap₂ (λ (v e : ℕ). at + cells_taken v e) r.vertex_count r.edge_count

        turn_on : Turn cs taken (at + cells_taken k.nv k.ne)
        turn_on =
            record {
              few = omega (arith, fewer);
              size = length-set t.tasks t.n k ∙ h.size;
              passed = omega (arith, h.passed);
              alike = λ xs g.
                  let lines = lines_of_task (task_from cs at) in
                  subst (AlikeCells cs)
                  (sym (ap (λ (us : Meant.Table). us ++ xs) taken_held ∙ append_assoc (table_held t) (task_held k ∷ []) xs))
                  (h.alike (task_held k ∷ xs)
                  (λ n. opened n
                  (alike_more task_order (t.n, n) (taken_alike n)
                  (subst (λ (j : ℕ). Alike (table_check (t.n + 1) (n + lines)) xs (left cs (t.n + 1) j)) after (g (n + lines))))));
            }

        -- at the next place
        pub turn_more : {to : ℕ} → to ≡ at + cells_taken k.nv k.ne → Turn cs taken to
        turn_more e = subst (Turn cs taken) (sym e) turn_on
