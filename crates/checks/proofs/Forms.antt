-- Texts with rings and gear tables: where the tasks that they stand for keep the rules, these are read.
use mathlib.Core.Path.{◌≡◌, refl, sym, ap, ◌∙◌}
use Prim.Native.Nat.{ℕ, ◌+◌, ◌≤◌, ◌<◌}
use native.Mathlib.Omega.{arith}
use mathlib.Core.Option.{some}
use mathlib.Core.List.Memᴰ
use mathlib.Core.List.{List, [], ◌∷◌, ◌++◌, map, append_assoc, append-nil}
use lib.ListN.{length, length-map}
use borrow.Author.Tests.{lt-leb, ne_eqb}
use Rattle.meaning.specs.Lists.{gather}
use Rattle.meaning.specs.Bounds.{most_tasks}
use Rattle.meaning.specs.Table.{Task, no_task}
use Rattle.meaning.specs.Text.{Begun, begun, nothing, closed, ring_to, gear_to, readable, frames_from, read}
use Rattle.meaning.specs.Sound.{SoundTask, AllSound, SoundTable}
use Rattle.meaning.specs.Writing.{frame_of_end}
use Rattle.meaning.specs.Rings.{link_vertex, Form, plain, ring, gears, task_of, frames_of_form, frames_of_forms, text_of_forms}
use Rattle.meaning.proofs.Lists.{length_snoc}
use Rattle.meaning.proofs.FrameLines.{read_lines}
use Rattle.meaning.proofs.Rings.{ring_run, gears_run, links_sound, forms_framed}
use Rattle.checks.proofs.Ruled.{task_run, closed_more, end_turn}
use Rattle.checks.proofs.Sound.{task-kept, task-frames}

-- after whole tasks and the task k₀
module _ (ts : List Task) (k₀ : Task) where
  abbrev before : Begun
  before = begun ts k₀ 0 0

  form_run : (x : Form) (n : ℕ) (fs : List (List ℕ)) → length (closed before) < most_tasks → SoundTask (task_of x)
      → frames_from some before n (frames_of_form x ++ fs) ≡ frames_from some (begun (closed before) (task_of x) 0 0) (n + length (frames_of_form x)) fs
  form_run (plain k) n fs few s =
      task_run ts k₀ n k fs
      ∙ rw (lt-leb most_tasks (length (closed before)) few, task-kept n k s)
      (ap (λ (l : ℕ). frames_from some (begun (closed before) k 0 0) (n + l) fs) (sym (task-frames k)))
  form_run (ring xs) n fs few s =
      let l = length-map xs link_vertex in
      ring_run ts k₀ few xs n fs (omega (arith, s.some_vertex)) (omega (arith, s.vertex_count)) (links_sound ring_to xs s)
  form_run (gears xs) n fs few s =
      let l = length-map xs link_vertex in
      gears_run ts k₀ few xs n fs (omega (arith, s.some_vertex)) (omega (arith, s.vertex_count)) (links_sound gear_to xs s)

forms_run : (xs : List Form) (ts : List Task) (k₀ : Task) (n : ℕ) → AllSound (map task_of xs) → 1 ≤ length (closed (before ts k₀)) + length xs
    → length (closed (before ts k₀)) + length xs ≤ most_tasks
    → frames_from some (before ts k₀) n (frames_of_forms xs) ≡ readable (closed (before ts k₀) ++ map task_of xs)
forms_run [] ts k₀ n s a b =
    end_turn ts k₀ n ∙ rw (ne_eqb (length (closed (before ts k₀))) 0 (λ e. omega arith), append-nil (closed (before ts k₀)))
forms_run (x ∷ xs) ts k₀ n s a b =
    let us = closed (before ts k₀) in
    let o : SoundTask (task_of x) = s (task_of x) (Memᴰ.head refl) in
    let c = closed_more us (task_of x) o.some_vertex in
    let l : length (closed (before us (task_of x))) ≡ length us + 1 = ap length c ∙ length_snoc us (task_of x) ∙ omega arith in
    ap (frames_from some (before ts k₀) n) (append_assoc (frames_of_form x) (gather frames_of_form xs) (frame_of_end ∷ []))
    ∙ form_run ts k₀ x n (frames_of_forms xs) (omega arith) o
    ∙ forms_run xs us (task_of x) (n + length (frames_of_form x)) (λ k m. s k (Memᴰ.tail m)) (omega (arith, l)) (omega (arith, l))
    ∙ rw (c, append_assoc us (task_of x ∷ []) (map task_of xs))

pub forms_ruled : (fs : List Form) → SoundTable (map task_of fs) → frames_from some nothing 1 (frames_of_forms fs) ≡ readable (map task_of fs)
forms_ruled fs s =
    let l = length-map fs task_of in
    forms_run fs [] no_task 1 s.each_task (omega (arith, s.some_task)) (omega (arith, s.task_count))

pub forms_read : (fs : List Form) → SoundTable (map task_of fs) → read (text_of_forms fs) ≡ readable (map task_of fs)
forms_read fs s = read_lines (frames_of_forms fs) (forms_framed fs s) ∙ forms_ruled fs s
