-- One turn of the loop over a text's tasks.
use mathlib.Core.Path.{◌≡◌, refl, sym, ap, ◌∙◌}
use mathlib.Core.Logic.{◌⊎◌, inl, inr}
use Prim.Native.Nat.{ℕ, zero, suc, ◌+◌, ◌-◌, ◌*◌, ◌≤◌, ◌<◌}
use native.Mathlib.Omega.{arith}
use mathlib.Core.List.{List}
use lib.ListN.{length, drop, length-drop}
use lib.Seq.{drop-drop}
use borrow.Author.Tests.{eq-eqb, ne_eqb}
use Rattle.meaning.specs.Bounds.{most_tasks, most_vertices, most_edges}
use Rattle.meaning.specs.Text.{read}
use Rattle.meaning.specs.Texts.{most_lines}
use Rattle.kinds.specs.declared.Refusal.{Refusal}
use Rattle.kinds.specs.declared.Refusal.TheVariants.{WrongFrame, BytesAfterEnd}
use Rattle.table.specs.declared.Table.{Table}
use Rattle.table.specs.Inner.{no_table}
use Rattle.frames.specs.declared.Head.{Head}
use Rattle.frames.specs.Frames.{head_bytes, end_bytes, task_or_end_line}
use Rattle.lines.specs.Parts.{TaskTaken, task_lines}
use Rattle.frames.proofs.TaskOrEnd.{TaskHas, task_has}
use Rattle.lines.proofs.TaskRead.{task_reach}
use Rattle.lines.proofs.Gives.{TaskReach}
use Rattle.lines.proofs.Turns.{lent, lent-drop}
use Rattle.std.specs.Prelude.{Option, Some, None, Result, Ok, Err}
use Rattle.kinds.specs.declared.RefusedAt.{RefusedAt}
use Rattle.lines.specs.declared.Stopped.{Stopped}
use Rattle.reader.specs.Inner.{refused_at}
use Rattle.reader.proofs.Descent.{put_task, lines_then, frame_then, tasks_on, reading_record}
use Rattle.reader.proofs.Whole.{whole}

-- before the line at `at`: going on from here gives the whole answer
pub record Turn (s : List ℕ) (t : Table) (at line : ℕ) : Type 0 where
  pub inside : at ≤ length s
  pub few : t.n ≤ most_tasks
  pub early : line ≤ 1 + most_lines * t.n
  pub going : tasks_on (most_tasks - t.n) t line (drop at s) ≡ reading_record (read s)

pub turn_first : (s : List ℕ) (t : Table) → t ≡ no_table → Turn s t 0 1
turn_first s t e =
    let none : t.n ≡ 0 = ap (λ (z : Table). z.n) e in
    record { inside = omega arith; few = omega arith; early = omega arith; going = rw e (whole s) }

not_task : (g : ℕ) (t : Table) (line : ℕ) (s : List ℕ) (x : Result (Option Head) Refusal) → task_or_end_line t.n s ≡ x
    → ((h : Head) → x ≡ Ok (Some h) → ⊥) → tasks_on g t line s ≡ frame_then x t line (length s) (λ h. Err (refused_at WrongFrame line))
unfolding tasks_on
not_task zero t line s x q n = rw q
not_task (suc g) t line s (Ok (Some h)) q n = absurd (n h refl)
not_task (suc g) t line s (Ok None) q n = rw q
not_task (suc g) t line s (Err w) q n = rw q

-- what the end's line or a refused one gives is no task's
pub no_task_taken : {x : Result (Option Head) Refusal} → (x ≡ Ok None) ⊎ ((w : Refusal) × (x ≡ Err w)) → (h : Head) → x ≡ Ok (Some h) → ⊥
no_task_taken (inl e) h q = let p : Ok None ≡ Ok (Some h) = sym e ∙ q in cc
no_task_taken (inr e) h q = let p : Err e.0 ≡ Ok (Some h) = sym e.1 ∙ q in cc

-- the line at `at` gives x
pub record FrameTurn (s : List ℕ) (t : Table) (at line : ℕ) (x : Result (Option Head) Refusal) : Type 0 where
  pub turn : Turn s t at line
  pub gives : x ≡ task_or_end_line t.n (lent s at)

module _ {s : List ℕ} {t : Table} {at line : ℕ} {x : Result (Option Head) Refusal} (f : FrameTurn s t at line x) where
  frame_here : task_or_end_line t.n (drop at s) ≡ x
  frame_here = sym (f.gives ∙ ap (task_or_end_line t.n) (lent-drop s at))

  abbrev given : Result (Option Head) Refusal → ℕ → Result Table RefusedAt
  given y k = frame_then y t line k (λ h. Err (refused_at WrongFrame line))

  -- where no task's frame stands
  ended : {y : Result (Option Head) Refusal} → x ≡ y → ((h : Head) → y ≡ Ok (Some h) → ⊥) → given y (length s - at) ≡ reading_record (read s)
  ended {y} q n =
      sym (ap (given y) (length-drop at s)) ∙ sym (not_task (most_tasks - t.n) t line (drop at s) y (frame_here ∙ q) n) ∙ f.turn.going

  pub frame_refused : {w : Refusal} → x ≡ Err w → Err (refused_at w line) ≡ reading_record (read s)
  frame_refused q = ended q (λ h e. absurd cc)

  module _ (q : x ≡ Ok None) where
    pub end_behind : (length s - at ≡ end_bytes → ⊥) → Err (refused_at BytesAfterEnd (line + 1)) ≡ reading_record (read s)
    end_behind n = sym (rw (ne_eqb (length s - at) end_bytes n)) ∙ ended q (λ h e. absurd cc)

    pub end_last : length s - at ≡ end_bytes → Ok t ≡ reading_record (read s)
    end_last e = sym (rw (eq-eqb (length s - at) end_bytes e)) ∙ ended q (λ h e. absurd cc)

-- what is known of what a task's line says
pub record TaskFacts (s : List ℕ) (t : Table) (at line : ℕ) (h : Head) : Type 0 where
  pub fits : at + head_bytes h ≤ length s
  pub some : 1 ≤ h.v
  pub v_in : h.v ≤ most_vertices
  pub e_in : h.e ≤ most_edges
  pub left : t.n < most_tasks
  pub early : line ≤ 1 + most_lines * t.n

pub task_facts : {s : List ℕ} {t : Table} {at line : ℕ} {h : Head} {x : Result (Option Head) Refusal} → FrameTurn s t at line x → x ≡ Ok (Some h)
    → TaskFacts s t at line h
task_facts {s} {t} {at} {line} {h} f q =
    let has : TaskHas t.n h (drop at s) = task_has t.n (drop at s) h (frame_here f ∙ q) in
    record {
      fits = omega (arith, has.inside.long, length-drop at s, f.turn.inside);
      some = has.inside.some;
      v_in = has.inside.v_in;
      e_in = has.inside.e_in;
      left = has.fits;
      early = f.turn.early;
    }

-- the lines of the task are read, from the place behind its own
pub record TaskTurn (s : List ℕ) (t : Table) (at line : ℕ) (h : Head) (from : ℕ) (r : Result TaskTaken Stopped) : Type 0 where
  pub frame : FrameTurn s t at line (Ok (Some h))
  pub place : from ≡ at + head_bytes h
  pub gives : r ≡ task_lines h (drop from s)

module _ {s : List ℕ} {t : Table} {at line : ℕ} {h : Head} {from : ℕ} {r : Result TaskTaken Stopped} (f : TaskTurn s t at line h from r) where
  facts : TaskFacts s t at line h
  facts = task_facts f.frame refl

  reach : TaskReach (drop from s) r
  reach = rw f.gives (task_reach h (drop from s) facts.v_in facts.e_in)

  pub lines_few : {a : TaskTaken} → r ≡ Ok a → a.count ≤ most_vertices + most_edges
  lines_few {a} q = reach.few a q

  pub stop_few : {w : Stopped} → r ≡ Err w → w.count ≤ most_vertices + most_edges
  stop_few {w} q = reach.stops w q

  abbrev after : Result TaskTaken Stopped → Result Table RefusedAt
  after b = lines_then b line (λ a. tasks_on (most_tasks - (t.n + 1)) (put_task t a.task) (line + 1 + a.count) (drop (from + a.bytes) s))

  task_on : {b : Result TaskTaken Stopped} → r ≡ b → after b ≡ reading_record (read s)
  unfolding tasks_on
  task_on {b} q = sym (ap after q) ∙ sym all ∙ f.frame.turn.going
    where
      all : tasks_on (most_tasks - t.n) t line (drop at s) ≡ after r
      all =
          let o : most_tasks - t.n ≡ suc (most_tasks - (t.n + 1)) = omega (arith, facts.left) in
          let same : task_lines h (drop (at + head_bytes h) s) ≡ r = sym (f.gives ∙ ap (λ (k : ℕ). task_lines h (drop k s)) f.place) in
          let n : (b : ℕ) → at + (head_bytes h + b) ≡ from + b = λ b. omega (arith, f.place) in
          simp (o, frame_here f.frame, drop-drop, same, n)

  pub task_stops : {w : Stopped} → r ≡ Err w → Err (refused_at w.refusal (line + 1 + w.count)) ≡ reading_record (read s)
  task_stops q = task_on q

  pub task_more : {a : TaskTaken} → r ≡ Ok a → {n : ℕ} → n ≡ line + 1 + a.count → Turn s (put_task t a.task) (from + a.bytes) n
  task_more {a} q {n} o =
      record {
        inside = omega (arith, reach.room a q, length-drop from s, facts.fits, f.place);
        few = omega (arith, facts.left);
        early = omega (arith, facts.early, reach.few a q);
        going = rw o (task_on q);
      }
