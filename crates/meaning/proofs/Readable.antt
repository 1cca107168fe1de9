-- What every readable text keeps, and where a refusal of a text can stand.
use mathlib.Core.Path.{◌≡◌, refl, sym, ap, subst, ◌∙◌}
use Prim.Native.Nat.{ℕ, zero, suc, ◌≤◌, ◌<◌}
use native.Mathlib.Omega.{arith}
use mathlib.Core.Logic.{inl, inr}
use mathlib.Core.Option.{Option, none, some}
use mathlib.Core.List.Memᴰ
use mathlib.Core.List.{List, [], ◌∷◌}
use lib.ListN.{length, get_or}
use Rattle.meaning.specs.Table.{Task, Table}
use Rattle.meaning.specs.Text.{Line, lines_of, frame_of, word, Begun, begun, linked, nothing, closed, Step, on, over, wrong}
use Rattle.meaning.specs.Text.{ring_to, gear_to, framed, step_at}
use Rattle.meaning.specs.Text.{Reading, readable, unreadable, at_end, frames_from, read_from, read}
use Rattle.meaning.specs.Sound.{SoundTable}
use Rattle.meaning.specs.Texts.{last_line, ReadableSound}
use Rattle.meaning.specs.Slips.{LineRow}
use Rattle.meaning.proofs.FrameSteps.{vertex_wanted, edge_wanted, task_wanted}
use Rattle.meaning.proofs.FramesKeep.{HeldSoFar, Led, not_here, Ok, Closed, closed-held, task_ok, vertex_ok, edge_ok}
use Rattle.meaning.proofs.FramesKeep.{ring_leads, gear_leads, vendor_ok, link_ok}

-- ---- a line, and all lines

over_ok : (n : ℕ) (ts : Table) → Closed n ts → 0 < length ts → Ok n (over ts)
over_ok n ts c h = (record { some_task = h; task_count = c.count; each_task = c.sound }, omega (arith, c.line, c.count))

framed_ok : (n : ℕ) (s : Begun) (v e : ℕ) (f : List ℕ) → HeldSoFar n s → s.want_v ≡ v → s.want_e ≡ e → Ok n (framed s v e f)
framed_ok n s (suc v) e f h p q =
    vertex_wanted (Ok n) s s.leads f not_here (λ l t. vertex_ok n s (word f 1) (word f 3) h (omega arith))
    (λ to l t. link_ok n s to (word f 1) (word f 3) (word f 5) h (omega arith) (subst (Led s) l h.led))
framed_ok n s zero (suc e) f h p q =
    edge_wanted (Ok n) s e f not_here (λ t. edge_ok n s (get_or f 1 0) (get_or f 2 0) (word f 3) h p (omega arith))
framed_ok n s zero zero f h p q =
    let c = closed-held n s.tasks s.m s.edges s.want_v s.want_e s.leads s.vertices p h in
    task_wanted (Ok n) s f not_here (λ t. task_ok n s (get_or f 1 0) (get_or f 2 0) 0 0 c) (λ t. task_ok n s (get_or f 1 0) (get_or f 2 0) 1 (word f 3) c)
    (λ t. vendor_ok n s ring_to (get_or f 1 0) (ring_leads (get_or f 1 0)) c) (λ t. vendor_ok n s gear_to (get_or f 1 0) (gear_leads (get_or f 1 0)) c)
    (λ t. over_ok n (closed s) c)

step_ok : (n : ℕ) (s : Begun) (o : Option (List ℕ)) → HeldSoFar n s → Ok n (step_at s o)
step_ok n s none h = inl (omega arith, omega arith)
step_ok n s (some f) h = framed_ok n s s.want_v s.want_e f h refl refl

-- the lines behind line n, after its step
abbrev pub frames_step : {X : Type 0} → (X → Option (List ℕ)) → Step → ℕ → List X → Reading
frames_step frame (on s) n ls = frames_from frame s (suc n) ls
frames_step frame (over ts) n ls = at_end ts (suc n) ls
frames_step frame (wrong k) n ls = unreadable k n

pub step_frames : {X : Type 0} (frame : X → Option (List ℕ)) (s : Begun) (n : ℕ) (l : X) (ls : List X)
    → frames_from frame s n (l ∷ ls) ≡ frames_step frame (step_at s (frame l)) n ls
step_frames {X} frame s n l ls = go (step_at s (frame l)) refl
  where
    go : (r : Step) → step_at s (frame l) ≡ r → frames_from frame s n (l ∷ ls) ≡ frames_step frame (step_at s (frame l)) n ls
    go (on s') e = rw (e, frames_from)
    go (over ts) e = rw (e, frames_from)
    go (wrong k) e = rw (e, frames_from)

-- a ring or a gear table that was read to its end is a task like any other
pub linked-whole : {X : Type 0} (frame : X → Option (List ℕ)) (ts : List Task) (k : Task) (to : ℕ → ℕ) (n : ℕ) (ls : List X)
    → frames_from frame (linked ts k to 0) n ls ≡ frames_from frame (begun ts k 0 0) n ls
linked-whole frame ts k to n [] = refl
linked-whole {X} frame ts k to n (l ∷ ls) =
    step_frames frame (linked ts k to 0) n l ls ∙ ap (λ (r : Step). frames_step frame r n ls) (go (frame l)) ∙ sym (step_frames frame (begun ts k 0 0) n l ls)
  where
    go : (o : Option (List ℕ)) → step_at (linked ts k to 0) o ≡ step_at (begun ts k 0 0) o
    go none = refl
    go (some f) = refl

abbrev pub read_step : Step → ℕ → List Line → Reading
read_step r n ls = frames_step frame_of r n ls

pub step_read : (s : Begun) (n : ℕ) (l : Line) (ls : List Line) → read_from s n (l ∷ ls) ≡ read_step (step_at s (frame_of l)) n ls
step_read = step_frames frame_of

-- a row of the text and a line that it can name
abbrev pub InText : ℕ → ℕ → Type 0
InText k n = LineRow 1 7 k × (1 ≤ n) × (n ≤ last_line)

-- a row that refuses a line before the end
frame_row : (k : ℕ) → LineRow 1 5 k → LineRow 1 7 k
frame_row k (inl r) = inl (r.0, omega (arith, r.1))
frame_row k (inr r) = inr r

-- no row is below the least of them, nor is 13
pub row_least : {low high k : ℕ} → low ≤ 13 → LineRow low high k → low ≤ k
row_least l (inl r) = r.0
row_least l (inr r) = omega (arith, l, r)

abbrev pub Good : Reading → Type 0
Good (readable ts) = SoundTable ts
Good (unreadable k n) = InText k n

at_end_lem : {X : Type 0} (ts : Table) (n : ℕ) (ls : List X) → SoundTable ts → n < last_line → Good (at_end ts (suc n) ls)
at_end_lem ts n [] s h = s
at_end_lem ts n (l ∷ ls) s h = (inl (omega arith, omega arith), omega arith, omega arith)

-- a refusal at line n, before the end frame
here : (n k : ℕ) (s : Begun) → HeldSoFar n s → LineRow 1 7 k → InText k n
here n k s h r = (r, h.first, omega (arith, h.line, h.task_count, h.vertex_count, h.edge_count))

pub from_good : {X : Type 0} (frame : X → Option (List ℕ)) (s : Begun) (n : ℕ) (ls : List X) → HeldSoFar n s → Good (frames_from frame s n ls)
from_good frame s n [] h = here n 6 s h (inl (omega arith, omega arith))
from_good {X} frame s n (l ∷ ls) h =
    subst Good (sym (step_frames frame s n l ls)) (go (λ s' k. from_good frame s' (suc n) ls k) (step_at s (frame l)) (step_ok n s (frame l) h))
  where
    go : ((s' : Begun) → HeldSoFar (suc n) s' → Good (frames_from frame s' (suc n) ls)) → (r : Step) → Ok n r → Good (frames_step frame r n ls)
    go ih (on s') k = ih s' k
    go ih (over ts) k = at_end_lem ts n ls k.0 k.1
    go ih (wrong m) k = here n m s h (frame_row m k)

-- the lines of a text, or the frames of a table
pub frames_good : {X : Type 0} (frame : X → Option (List ℕ)) (ls : List X) → Good (frames_from frame nothing 1 ls)
frames_good frame ls =
    from_good frame nothing 1 ls
    (record {
      tasks = λ x m. absurd (Memᴰ.not-nil m);
      task_count = omega arith;
      vertex_count = omega arith;
      edge_count = omega arith;
      mask = omega arith;
      covered = λ z. omega arith;
      vertices = λ x m. absurd (Memᴰ.not-nil m);
      edges = λ x m. absurd (Memᴰ.not-nil m);
      rising = tt;
      led = tt;
      first = omega arith;
      line = omega arith;
    })

read_good : (text : List ℕ) → Good (read text)
unfolding read
read_good text = frames_good frame_of (lines_of text)

pub read_sound : ReadableSound
read_sound text ts q = subst Good q (read_good text)

pub read_refused : (text : List ℕ) (k n : ℕ) → read text ≡ unreadable k n → InText k n
read_refused text k n q = subst Good q (read_good text)
