-- A readable text has at most the bytes of its table's lines, exactly these if it is plain, and so at most as many as the longest; behind that one stands
-- the last line that a refusal can name.
use mathlib.Core.Path.{◌≡◌, refl, sym, ap, subst, ◌∙◌}
use Prim.Native.Nat.{ℕ, zero, suc, ◌+◌, ◌*◌, ◌/◌, ◌%◌, ◌≤◌, min}
use native.Mathlib.Nat.{add_assoc}
use native.Mathlib.Omega.{arith}
use mathlib.Core.Bool.{Bool, true, false, ◌&&◌}
use mathlib.Core.Logic.{inl, inr}
use mathlib.Core.Option.{Option, none, some}
use mathlib.Core.List.Memᴰ
use mathlib.Core.List.{List, [], ◌∷◌, ◌++◌, map}
use lib.ListN.{length, get_or, replicate}
use lib.Dec.{T, ltb, eqb, eqb→eq}
use Rattle.meaning.specs.Lists.{pick, sum, gather, below}
use Rattle.meaning.specs.Bounds.{most_tasks, most_vertices, most_edges, largest_m, line_length}
use Rattle.meaning.specs.Table.{Vertex, Task, Table, vertex, edge, task}
use Rattle.meaning.specs.Text.{line, Line, line_feed, into_first, lines_of, digit_of, byte_with, hex_bytes, frame_of, is_frame, word}
use Rattle.meaning.specs.Text.{Begun, nothing, closed, Step, on, over, wrong, task_frame, vertex_frame, edge_frame}
use Rattle.meaning.specs.Text.{ring_to, gear_to, vendor_frame, link_frame, framed}
use Rattle.meaning.specs.Text.{step_at, Reading, readable, unreadable, at_end, read_from, read}
use Rattle.meaning.specs.Sound.{SoundTask, AllSound}
use Rattle.meaning.specs.Texts.{task_line, vertex_line, edge_line, longest_task, longest_text, task_length, text_length, LongestText, last_line}
use Rattle.meaning.specs.Texts.{TextRefused}
use Rattle.meaning.specs.Slips.{LineRow}
use Rattle.meaning.specs.Bench.{bytes}
use Rattle.meaning.specs.Rings.{Plain}
use borrow.Author.Tests.{ne_eqb}
use Rattle.meaning.proofs.Lists.{both_right, length_snoc, map-append, sum-append}
use Rattle.meaning.proofs.Readable.{read_step, step_read, read_sound, read_refused}
use Rattle.meaning.proofs.FrameSteps.{task_each, vertex_each, edge_each, vendor_each, link_each, vertex_wanted, edge_wanted, task_wanted}
use Rattle.meaning.proofs.TextSize.{text_size}
use Rattle.meaning.proofs.FramesBack.{text_of-read}

-- ---- the bytes of a line

-- those before the line feed, and the line feed
abbrev line_bytes : Line → ℕ
line_bytes l = length l.bytes + pick l.fed 1 0

abbrev bytes_in : List Line → ℕ
bytes_in ls = sum (map line_bytes ls)

into_bytes : (b : ℕ) (ls : List Line) → bytes_in (into_first b ls) ≡ suc (bytes_in ls)
into_bytes b [] = refl
into_bytes b (l ∷ ls) = omega arith

-- the lines of a text have all its bytes
lines_bytes : (text : List ℕ) → bytes_in (lines_of text) ≡ length text
lines_bytes [] = refl
lines_bytes (b ∷ bs) = go (eqb b line_feed) (lines_bytes bs)
  where
    go : (x : Bool) → bytes_in (lines_of bs) ≡ length bs
        → bytes_in (pick x (record { bytes = []; fed = true } ∷ lines_of bs) (into_first b (lines_of bs))) ≡ suc (length bs)
    go true ih = omega (arith, ih)
    go false ih = into_bytes b (lines_of bs) ∙ ap suc ih

-- n digits spell so many bytes
abbrev Digits : ℕ → Option (List ℕ) → Type 0
Digits n none = Unit {0}
Digits n (some f) = n ≡ 2 * length f

byte_digits : (h l : Option ℕ) (r : Option (List ℕ)) (n : ℕ) → Digits n r → Digits (suc (suc n)) (byte_with h l r)
byte_digits (some h) (some l) (some f) n k = omega (arith, k)
byte_digits (some h) (some l) none n k = tt
byte_digits (some h) none r n k = tt
byte_digits none l r n k = tt

hex_digits : (ds : List ℕ) → Digits (length ds) (hex_bytes ds)
hex_digits [] = refl
hex_digits (h ∷ []) = tt
hex_digits (h ∷ l ∷ ds) = byte_digits (digit_of h) (digit_of l) (hex_bytes ds) (length ds) (hex_digits ds)

-- a line of m bytes has a frame of so many
abbrev Fits : ℕ → Option (List ℕ) → Type 0
Fits m none = Unit {0}
Fits m (some f) = m ≡ line_length (length f)

line-fits : (o : Option (List ℕ)) (n : ℕ) → Digits n o → Fits (n + 1) o
line-fits none n k = tt
line-fits (some f) n k = omega (arith, k)

frame_fits : (l : Line) → Fits (line_bytes l) (frame_of l)
frame_fits l = go l.fed (ltb 1 (length l.bytes))
  where
    go : (x y : Bool) → Fits (length l.bytes + pick x 1 0) (pick (x && y) (hex_bytes l.bytes) none)
    go true true = line-fits (hex_bytes l.bytes) (length l.bytes) (hex_digits l.bytes)
    go true false = tt
    go false y = tt

-- ---- the bytes before a line

abbrev tasks_length : List Task → ℕ
tasks_length ts = sum (map task_length ts)

line_most : (m : ℕ) → task_line m ≤ task_line largest_m
line_most m = go (eqb m 0)
  where
    go : (b : Bool) → pick b (line_length 3) (line_length 5) ≤ line_length 5
    go true = omega arith
    go false = omega arith

-- that of 04 is longer
line_04 : (m : ℕ) → 1 ≤ m → task_line m ≡ line_length 5
line_04 m h = ap (λ (b : Bool). pick b (line_length 3) (line_length 5)) (ne_eqb m 0 (λ z. absurd (omega (arith, z))))

abbrev Led : Begun → Option (ℕ → ℕ) → Type 0
Led s none = Unit {0}
Led s (some to) = s.m ≡ 0

-- at most so many bytes were read before: the whole tasks' lines, then the open task's; it has a line of its own as soon as it has or wants a vertex
record BytesSoFar (b : ℕ) (s : Begun) : Type 0 where
  bytes : b ≤ tasks_length s.tasks + min (task_line s.m) (task_line largest_m * (length s.vertices + s.want_v))
      + vertex_line * length s.vertices + edge_line * length s.edges
  -- no edge without a vertex
  edges : min 1 (length s.edges) ≤ length s.vertices
  -- no masked length in a ring or a gear table
  led : Led s s.leads

-- what a step keeps, with b bytes read when its line is
abbrev Kept : ℕ → Step → Type 0
Kept b (on s) = BytesSoFar b s
Kept b (over ts) = b ≤ text_length ts
Kept b (wrong k) = Unit {0}

tasks_snoc : (ts : List Task) (k : Task) → tasks_length (ts ++ (k ∷ [])) ≡ tasks_length ts + task_length k
tasks_snoc ts k = ap sum (map-append task_length ts (k ∷ [])) ∙ sum-append (map task_length ts) (task_length k ∷ []) ∙ omega arith

closed-bytes : (b : ℕ) (s : Begun) → s.want_v ≡ 0 → BytesSoFar b s → b ≤ tasks_length (closed s)
closed-bytes b s w h = go s.vertices refl
  where
    go : (vs : List Vertex) → s.vertices ≡ vs → b ≤ tasks_length (closed s)
    go [] q = rw q (omega (arith, h.bytes, h.edges, w, ap length q))
    go (x ∷ vs) q = rw q (omega (arith, h.bytes, w, ap length q, line_most s.m, tasks_snoc s.tasks (task s.m (x ∷ vs) s.edges)))

frame_bytes : (k n : ℕ) (f : List ℕ) → T (is_frame k n f) → length f ≡ n
frame_bytes k n f t = eqb→eq (length f) n (both_right (eqb (get_or f 0 0) k) (eqb (length f) n) t)

-- by a frame of n bytes
task-kept : (b n : ℕ) (s : Begun) (v e least m : ℕ) → (least ≤ m → task_line m ≡ line_length n) → b ≤ tasks_length (closed s)
    → Kept (b + line_length n) (task_frame s v e least m)
task-kept b n s v e least m l h =
    task_each (Kept (b + line_length n)) s v e least m tt
    (λ some v_in e_in low m_in. record { bytes = omega (arith, h, some, l low, line_most m); edges = omega arith; led = tt })

vertex-kept : (b : ℕ) (s : Begun) (e d : ℕ) → BytesSoFar b s → 1 ≤ s.want_v → Kept (b + vertex_line) (vertex_frame s e d)
vertex-kept b s e d h w =
    let more = length_snoc s.vertices (vertex e d) in
    vertex_each (Kept (b + vertex_line)) s e d (λ i. tt) (λ i. tt) (λ i. tt)
    (λ x fits. record { bytes = omega (arith, h.bytes); edges = omega (arith, h.edges); led = tt })

edge_kept : (b : ℕ) (s : Begun) (f t p : ℕ) → BytesSoFar b s → s.want_v ≡ 0 → Kept (b + edge_line) (edge_frame s f t p)
edge_kept b s f t p h w =
    let more = length_snoc s.edges (edge f t p) in
    edge_each (Kept (b + edge_line)) s f t p tt tt tt
    (λ x after. let some = x.from_in in record { bytes = omega (arith, h.bytes); edges = omega arith; led = tt })

-- of a ring or a gear table
vendor_kept : (b : ℕ) (s : Begun) (to : ℕ → ℕ → ℕ) (v : ℕ) → b ≤ tasks_length (closed s) → Kept (b + line_length 2) (vendor_frame s to v)
vendor_kept b s to v h =
    vendor_each (Kept (b + line_length 2)) s to v tt (λ some v_in. record { bytes = omega (arith, h, some); edges = omega arith; led = refl })

link-kept : (b : ℕ) (s : Begun) (to : ℕ → ℕ) (e d p : ℕ) → BytesSoFar b s → 1 ≤ s.want_v → s.m ≡ 0 → Kept (b + line_length 7) (link_frame s to e d p)
link-kept b s to e d p h w m =
    let more = length_snoc s.vertices (vertex e d) in
    let more_edges = length_snoc s.edges (edge (length s.vertices) (to (length s.vertices)) p) in
    link_each (Kept (b + line_length 7)) s to e d p (λ i. tt) (λ i q. tt) (λ i. tt)
    (λ x. record { bytes = omega (arith, h.bytes, ap task_line m); edges = omega arith; led = m })

module _ (b : ℕ) (s : Begun) (f : List ℕ) (h : BytesSoFar b s) where
  abbrev Here : Step → Type 0
  Here r = Kept (b + line_length (length f)) r

  -- a step that is taken only for a frame of n bytes
  framed_as : (k n : ℕ) → T (is_frame k n f) → (r : Step) → Kept (b + line_length n) r → Here r
  framed_as k n t r = subst (λ (m : ℕ). Kept (b + line_length m) r) (sym (frame_bytes k n f t))

  framed_kept : (v e : ℕ) → s.want_v ≡ v → Here (framed s v e f)
  framed_kept (suc v) e w =
      vertex_wanted Here s s.leads f tt
      (λ l t. framed_as 2 5 t (vertex_frame s (word f 1) (word f 3)) (vertex-kept b s (word f 1) (word f 3) h (omega arith)))
      (λ to l t. framed_as 6 7 t (link_frame s to (word f 1) (word f 3) (word f 5))
      (link-kept b s to (word f 1) (word f 3) (word f 5) h (omega arith) (subst (Led s) l h.led)))
  framed_kept zero (suc e) w =
      edge_wanted Here s e f tt
      (λ t. framed_as 3 5 t (edge_frame s (get_or f 1 0) (get_or f 2 0) (word f 3)) (edge_kept b s (get_or f 1 0) (get_or f 2 0) (word f 3) h w))
  framed_kept zero zero w =
      let all = closed-bytes b s w h in
      let nv = get_or f 1 0 in
      let ne = get_or f 2 0 in
      task_wanted Here s f tt (λ t i. framed_as 1 3 t (task_frame s nv ne 0 0) (task-kept b 3 s nv ne 0 0 (λ m. refl) all))
      (λ t i. framed_as 4 5 t (task_frame s nv ne 1 (word f 3)) (task-kept b 5 s nv ne 1 (word f 3) (line_04 (word f 3)) all))
      (λ t i. framed_as 5 2 t (vendor_frame s ring_to nv) (vendor_kept b s ring_to nv all))
      (λ t i. framed_as 7 2 t (vendor_frame s gear_to nv) (vendor_kept b s gear_to nv all)) (λ t i. framed_as 0 1 t (over (closed s)) (omega (arith, all)))

step_kept : (b m : ℕ) (s : Begun) (o : Option (List ℕ)) → Fits m o → BytesSoFar b s → Kept (b + m) (step_at s o)
step_kept b m s none q h = tt
step_kept b m s (some f) q h =
    subst (λ (n : ℕ). Kept (b + n) (step_at s (some f))) (sym q) (framed_kept b s f h s.want_v s.want_e refl)

-- ---- all lines

-- b bytes in all
abbrev Bytes : ℕ → Reading → Type 0
Bytes b (readable ts) = b ≤ text_length ts
Bytes b (unreadable k n) = Unit {0}

end_bytes_lem : (ts : Table) (b n : ℕ) (ls : List Line) → b ≤ text_length ts → Bytes (b + bytes_in ls) (at_end ts n ls)
end_bytes_lem ts b n [] h = omega (arith, h)
end_bytes_lem ts b n (l ∷ ls) h = tt

from_bytes : (b : ℕ) (s : Begun) (n : ℕ) (ls : List Line) → BytesSoFar b s → Bytes (b + bytes_in ls) (read_from s n ls)
from_bytes b s n [] h = tt
from_bytes b s n (l ∷ ls) h =
    subst (λ (m : ℕ). Bytes m (read_from s n (l ∷ ls))) (add_assoc b (line_bytes l) (bytes_in ls))
    (subst (Bytes (b + line_bytes l + bytes_in ls)) (sym (step_read s n l ls))
    (go (λ s' k. from_bytes (b + line_bytes l) s' (suc n) ls k) (step_at s (frame_of l)) (step_kept b (line_bytes l) s (frame_of l) (frame_fits l) h)))
  where
    go : ((s' : Begun) → BytesSoFar (b + line_bytes l) s' → Bytes (b + line_bytes l + bytes_in ls) (read_from s' (suc n) ls))
        → (r : Step) → Kept (b + line_bytes l) r → Bytes (b + line_bytes l + bytes_in ls) (read_step r n ls)
    go ih (on s') k = ih s' k
    go ih (over ts) k = end_bytes_lem ts (b + line_bytes l) (suc n) ls k
    go ih (wrong m) k = tt

read-bytes : (text : List ℕ) → Bytes (length text) (read text)
unfolding read
read-bytes text =
    subst (λ (m : ℕ). Bytes m (read_from nothing 1 (lines_of text))) (omega (arith, lines_bytes text))
    (from_bytes 0 nothing 1 (lines_of text) (record { bytes = omega arith; edges = omega arith; led = tt }))

pub text_length_lem : (text : List ℕ) (ts : Table) → read text ≡ readable ts → length text ≤ text_length ts
text_length_lem text ts q = subst (Bytes (length text)) q (read-bytes text)

plain_length : (text : List ℕ) (ts : Table) → Plain text → read text ≡ readable ts → length text ≡ text_length ts
plain_length text ts p q = ap length (sym (text_of-read text ts p q)) ∙ text_size ts

-- ---- no longer than the longest

task_short : (k : Task) → SoundTask k → task_length k ≤ longest_task
task_short k s = omega (arith, s.vertex_count, s.edge_count, line_most k.m)

tasks_short : (ts : List Task) → AllSound ts → tasks_length ts ≤ longest_task * length ts
tasks_short [] s = omega arith
tasks_short (k ∷ ts) s = omega (arith, task_short k (s k (Memᴰ.head refl)), tasks_short ts (λ x m. s x (Memᴰ.tail m)))

pub none_longer : (text : List ℕ) (ts : Table) → read text ≡ readable ts → length text ≤ longest_text
none_longer text ts q =
    let s = read_sound text ts q in
    omega (arith, text_length_lem text ts q, tasks_short ts s.each_task, s.task_count)

-- ---- one so long: as many tasks, vertices and edges as there may be

abbrev full_frames : List (List ℕ)
full_frames =
    (4 ∷ most_vertices ∷ most_edges ∷ 0 ∷ 1 ∷ []) ∷ replicate most_vertices (2 ∷ 0 ∷ 1 ∷ 0 ∷ 1 ∷ [])
    ++ map (λ (i : ℕ). 3 ∷ i / most_vertices ∷ i % most_vertices ∷ 0 ∷ 1 ∷ []) (below most_edges)

abbrev full_text : List ℕ
full_text = gather (gather line) (replicate most_tasks full_frames) ++ line (0 ∷ [])

abbrev full_table : Table
full_table =
    replicate most_tasks
    (task 1 (replicate most_vertices (vertex 1 1)) (map (λ (i : ℕ). edge (i / most_vertices) (i % most_vertices) 1) (below most_edges)))

full_read : read full_text ≡ readable full_table
unfolding read
full_read = refl

pub longest_text_lem : LongestText
longest_text_lem =
    record {
      number = refl;
      of_table = text_size;
      exactly = plain_length;
      at_most = text_length_lem;
      none_longer = none_longer;
      reached = (full_text, full_table, full_read, refl);
    }

-- ---- one more byte behind it

full_refused : read (full_text ++ (line_feed ∷ [])) ≡ unreadable 7 last_line
unfolding read
full_refused = refl

-- ---- a text for each row

-- in the order of their numbers, 13 behind them
each_row : (k : ℕ) → LineRow 1 7 k → (text : List ℕ) × (n : ℕ) × (read text ≡ unreadable k n)
unfolding read
each_row zero (inl r) = absurd (omega (arith, r.0))
each_row (suc zero) (inl r) = (bytes "0", 1, refl)
each_row (suc (suc zero)) (inl r) = (bytes "00\n", 1, refl)
each_row (suc (suc (suc zero))) (inl r) = (bytes "010000\n", 1, refl)
each_row (suc (suc (suc (suc zero)))) (inl r) = (bytes "010101\n0200020002\n0300000001\n", 3, refl)
each_row (suc (suc (suc (suc (suc zero))))) (inl r) = (bytes "010102\n0200010001\n0300000001\n0300000001\n", 4, refl)
each_row (suc (suc (suc (suc (suc (suc zero)))))) (inl r) = ([], 1, refl)
each_row (suc (suc (suc (suc (suc (suc (suc zero))))))) (inl r) = (bytes "010100\n0200010001\n00\n\n", 4, refl)
each_row (suc (suc (suc (suc (suc (suc (suc (suc k)))))))) (inl r) = absurd (omega (arith, r.1))
each_row k (inr r) = (bytes "010100\n0200020001\n", 2, ap (λ (j : ℕ). unreadable j 2) (sym r))

pub text_refused_at : TextRefused
text_refused_at = record { number = refl; within = read_refused; each = each_row; reached = (full_text ++ (line_feed ∷ []), 7, full_refused) }
