-- The descent by task reads a text as it means.
use mathlib.Core.Path.{◌≡◌, refl, sym, ap, ◌∙◌}
use Prim.Native.Nat.{ℕ, zero, suc, ◌+◌, ◌≤◌, ◌<◌}
use native.Mathlib.Omega.{arith}
use native.Mathlib.Numerals.{add-one}
use mathlib.Core.Bool.{Bool, true, false}
use mathlib.Core.List.{List, [], ◌∷◌, ◌++◌}
use lib.ListN.{length, length-append, drop, length-drop, drop_of_length-le}
use lib.Seq.{drop-drop}
use lib.Dec.{eqb}
use borrow.Author.Tests.{eqb-true, eqb-false}
use Rattle.meaning.specs.Bounds.{most_tasks}
use Rattle.meaning.specs.Table as Meant
use Rattle.meaning.specs.Text as Text
use Rattle.meaning.specs.Text.{Line, line_feed, lines_of, into_first, begun, closed, unreadable, at_end, read_from, read}
use Rattle.kinds.specs.declared.Refusal.TheVariants.{WrongFrame}
use Rattle.kinds.proofs.Numbers.{refusal-of_number}
use Rattle.table.specs.Record.{padded, no_task, task_record, table_record}
use Rattle.table.specs.Inner.{no_table}
use Rattle.frames.specs.declared.Head.{Head}
use Rattle.frames.specs.Frames.{head_bytes, end_bytes, end_digits, task_or_end_line}
use Rattle.lines.specs.Parts.{TaskTaken, task_lines}
use Rattle.lines.proofs.Padded.{padded-set}
use Rattle.frames.proofs.TaskOrEnd.{opened, frame_gives, task_or_end_read, task_has, end_long}
use Rattle.lines.proofs.Gives.{TaskGives, whole-task, task_stopped}
use Rattle.lines.proofs.TaskRead.{task_run}
use Rattle.std.specs.Prelude.{Option, Some, None, Result, Ok, Err}
use Rattle.kinds.specs.declared.Refusal.{Refusal}
use Rattle.kinds.specs.declared.RefusedAt.{RefusedAt}
use Rattle.table.specs.declared.Table.{Table}
use Rattle.lines.specs.declared.Stopped.{Stopped}
use Rattle.reader.specs.Inner.{refused_at}
use Rattle.reader.proofs.Descent.{put_task, lines_then, frame_then, tasks_on, whole_text, reading_record}

-- ---- after the end's line

into_some : (ts : Meant.Table) (n b : ℕ) (ls : List Line) → at_end ts n (into_first b ls) ≡ unreadable 7 n
into_some ts n b [] = refl
into_some ts n b (l ∷ ls) = refl

more_left : (ts : Meant.Table) (n : ℕ) (u : List ℕ) → 0 < length u → at_end ts n (lines_of u) ≡ unreadable 7 n
more_left ts n [] h = absurd (omega arith)
more_left ts n (b ∷ u) h = go (eqb b line_feed) refl
  where
    go : (x : Bool) → eqb b line_feed ≡ x → at_end ts n (lines_of (b ∷ u)) ≡ unreadable 7 n
    go true e = simp e
    go false e = simp e (into_some ts n b (lines_of u))

abbrev EndReads : Meant.Table → ℕ → List ℕ → Type 0
EndReads ts line t =
    frame_then (Ok None) (table_record ts) line (length t) (λ h. Err (refused_at WrongFrame line))
    ≡ reading_record (at_end ts (suc line) (lines_of (drop end_bytes t)))

end_run : (ts : Meant.Table) (line : ℕ) (t : List ℕ) → end_digits < length t → EndReads ts line t
end_run ts line t h = go (eqb (length t) end_bytes) refl
  where
    go : (x : Bool) → eqb (length t) end_bytes ≡ x → EndReads ts line t
    go true e =
        let k : length t ≤ end_bytes = omega (arith, eqb-true (length t) end_bytes e) in
        let d : drop end_bytes t ≡ [] = drop_of_length-le t k in
        simp (e, d)
    go false e =
        let k : length t ≡ end_bytes → ⊥ = eqb-false (length t) end_bytes e in
        let d : 0 < length (drop end_bytes t) = omega (arith, length-drop end_bytes t) in
        simp (e, more_left ts (suc line) (drop end_bytes t) d, add-one)

-- ---- the tasks

-- all tasks, where ts and then k are read
abbrev having : List Meant.Task → Meant.Task → List Meant.Task
having ts k = closed (begun ts k 0 0)

having_some : (ts : List Meant.Task) (m : ℕ) (vs : List Meant.Vertex) (es : List Meant.Edge) → 0 < length vs
    → having ts (Meant.task m vs es) ≡ ts ++ (Meant.task m vs es ∷ [])
having_some ts m [] es h = absurd (omega arith)
having_some ts m (x ∷ vs) es h = refl

-- the text from a task's line on is read as it means
abbrev Going : ℕ → Type 0
Going g =
    (ts : List Meant.Task) (k : Meant.Task) (line : ℕ) (t : List ℕ) → length (having ts k) + g ≡ most_tasks
    → tasks_on g (table_record (having ts k)) line t ≡ reading_record (read_from (begun ts k 0 0) line (lines_of t))

module _ (g : ℕ) (ih : Going g) (ts : List Meant.Task) (line b : ℕ) (t : List ℕ) (count : length ts + suc g ≡ most_tasks) where
  one_more_lem : (k : Meant.Task) → put_task (table_record ts) (task_record k) ≡ table_record (ts ++ (k ∷ []))
  one_more_lem k =
      let ln : length (ts ++ (k ∷ [])) ≡ length ts + 1 = length-append ts (k ∷ []) in
      simp (ln, padded-set most_tasks no_task task_record ts k (omega arith))

  -- behind the b bytes of the task's line
  with_task : (R : Text.Reading) (r : Result TaskTaken Stopped) → TaskGives R ts line (drop b t) r
      → lines_then r line (λ a. tasks_on g (put_task (table_record ts) a.task) (line + 1 + a.count) (drop (b + a.bytes) t)) ≡ reading_record R
  with_task R r (task_stopped w i q) =
      let o : suc (line + i) ≡ line + 1 + i = omega arith in
      simp (q, refusal-of_number, o)
  with_task R r (whole-task k n bytes some q) =
      let c : having ts k ≡ ts ++ (k ∷ []) = having_some ts k.m k.vertices k.edges (omega arith) in
      let ln : length (ts ++ (k ∷ [])) ≡ length ts + 1 = length-append ts (k ∷ []) in
      let o : line + 1 + n ≡ suc (line + n) = omega arith in
      let d : drop (b + bytes) t ≡ drop bytes (drop b t) = sym (drop-drop bytes b t) in
      let s : length (having ts k) + g ≡ most_tasks = omega (arith, ap length c) in
      let u : put_task (table_record ts) (task_record k) ≡ table_record (having ts k) = one_more_lem k ∙ ap table_record (sym c) in
      simp (u, o, d) (ih ts k (suc (line + n)) (drop bytes (drop b t)) s ∙ ap reading_record (sym q))

module _ (ts : List Meant.Task) (k : Meant.Task) (line : ℕ) (t : List ℕ) where
  abbrev have : List Meant.Task
  have = having ts k

  abbrev next : Result (Option Head) Refusal
  next = task_or_end_line (length have) t

  abbrev task : Head → Text.Reading
  task h = read_from (opened have h) (suc line) (lines_of (drop (head_bytes h) t))

  abbrev ending : Text.Reading
  ending = at_end have (suc line) (lines_of (drop end_bytes t))

  frame_run : (K : Head → Result Table RefusedAt) → ((h : Head) → next ≡ Ok (Some h) → K h ≡ reading_record (task h))
      → frame_then next (table_record have) line (length t) K ≡ reading_record (read_from (begun ts k 0 0) line (lines_of t))
  frame_run K run = go next refl ∙ ap reading_record (sym (task_or_end_read ts k line t))
    where
      go : (x : Result (Option Head) Refusal) → next ≡ x
          → frame_then next (table_record have) line (length t) K ≡ reading_record (frame_gives next line task ending)
      go (Err w) q = simp (q, refusal-of_number)
      go (Ok None) q = simp q (end_run have line t (end_long (length have) t q))
      go (Ok (Some h)) q = simp q (run h q)

tasks_run : (g : ℕ) → Going g
unfolding tasks_on
tasks_run zero ts k line t s =
    frame_run ts k line t (λ h. Err (refused_at WrongFrame line)) (λ h q. absurd (omega (arith, (task_has (length (having ts k)) t h q).fits)))
tasks_run (suc g) ts k line t s =
    frame_run ts k line t _
    (λ h q.
    let has = (task_has (length (having ts k)) t h q).inside in
    let b = head_bytes h in
    with_task g (λ a b c d h. tasks_run g a b c d h) (having ts k) line b t s (task ts k line t h) (task_lines h (drop b t))
    (task_run (having ts k) line h (drop b t) has.some has.v_in has.e_in))

pub no_tasks : table_record [] ≡ no_table
unfolding padded
no_tasks = refl

pub whole : (text : List ℕ) → whole_text text ≡ reading_record (read text)
unfolding read
whole text = rw (← no_tasks) (tasks_run most_tasks [] Meant.no_task 1 text (omega arith))
