-- Frames on paper, and the refusal sheet's rows 1 to 7 and 13: from the bytes of a text to its table, or to the number and the line of its refusal.
use Rattle.std.specs.Prelude.{ℕ, zero, suc, ◌+◌, ◌-◌, ◌*◌, ◌/◌, ◌%◌, Bool, true, false, ◌&&◌, ◌||◌, List, [], ◌∷◌, ◌++◌, length, get_or, leb, ltb, eqb}
use Rattle.std.proofs.Math.Option.{Option, none, some}
use Rattle.meaning.specs.Lists.{pick, gather}
use Rattle.meaning.specs.Bounds.{most_tasks, most_vertices, most_edges, largest_e, largest_d, largest_p, largest_m}
use Rattle.meaning.specs.Table.{Vertex, Edge, Task, Table, vertex, edge, task, no_vertex, no_task, largest_e_in}

-- ---- lines

-- the bytes before the line feed, and whether there is one; a last stretch without a line feed is a line
pub record Line : Type 0 where
  pub bytes : List ℕ
  pub fed : Bool

-- one more byte at the front of the first line
abbrev pub into_first : ℕ → List Line → List Line
into_first b [] = record { bytes = b ∷ []; fed = false } ∷ []
into_first b (l ∷ ls) = record { bytes = b ∷ l.bytes; fed = l.fed } ∷ ls

abbrev pub line_feed : ℕ
line_feed = 10

abbrev pub lines_of : List ℕ → List Line
lines_of [] = []
lines_of (b ∷ bs) = pick (eqb b line_feed) (record { bytes = []; fed = true } ∷ lines_of bs) (into_first b (lines_of bs))

-- ---- the frame of a line: an even number of digits 0-9a-f, at least two, then a line feed

abbrev pub digit_of : ℕ → Option ℕ
digit_of b =
    pick (leb 48 b && leb b 57) (some (b - 48))
    (pick (leb 97 b && leb b 102) (some (b - 87)) none)

abbrev pub byte_with : Option ℕ → Option ℕ → Option (List ℕ) → Option (List ℕ)
byte_with (some h) (some l) (some bs) = some ((h * 16 + l) ∷ bs)
byte_with (some h) (some l) none = none
byte_with (some h) none r = none
byte_with none l r = none

abbrev pub hex_bytes : List ℕ → Option (List ℕ)
hex_bytes [] = some []
hex_bytes (h ∷ []) = none
hex_bytes (h ∷ l ∷ ds) = byte_with (digit_of h) (digit_of l) (hex_bytes ds)

abbrev pub frame_of : Line → Option (List ℕ)
frame_of l = pick (l.fed && ltb 1 (length l.bytes)) (hex_bytes l.bytes) none

-- a frame of kind k that is n bytes long
abbrev pub is_frame : ℕ → ℕ → List ℕ → Bool
is_frame k n f = eqb (get_or f 0 0) k && eqb (length f) n

-- the number in the two bytes at i, the high byte first
abbrev pub word : List ℕ → ℕ → ℕ
word f i = get_or f i 0 * 256 + get_or f (suc i) 0

-- ---- a frame as its line

-- the digit 0-9a-f of a number below 16
abbrev pub digit : ℕ → ℕ
digit n = pick (ltb n 10) (48 + n) (87 + n)

-- a byte as its two digits
abbrev pub digits : ℕ → List ℕ
digits b = digit (b / 16) ∷ digit (b % 16) ∷ []

abbrev pub line : List ℕ → List ℕ
line f = gather digits f ++ (line_feed ∷ [])

-- ---- what a frame does to what was read before it

-- What was read before a line: whole tasks, then the task that is being read, and how many vertices and edges it still wants. Of a ring or a gear table
-- also where each of its vertices leads; its edges come with its vertices.
pub record Begun : Type 0 where
  pub tasks : List Task
  pub m : ℕ
  pub vertices : List Vertex
  pub edges : List Edge
  pub want_v : ℕ
  pub want_e : ℕ
  pub leads : Option (ℕ → ℕ)

-- the tasks ts, then as much of the task k, and its wants
abbrev pub begun : List Task → Task → ℕ → ℕ → Begun
begun ts k v e = record { tasks = ts; m = k.m; vertices = k.vertices; edges = k.edges; want_v = v; want_e = e; leads = none }

-- the same of a ring or a gear table that wants v vertices
abbrev pub linked : List Task → Task → (ℕ → ℕ) → ℕ → Begun
linked ts k to v = record { tasks = ts; m = k.m; vertices = k.vertices; edges = k.edges; want_v = v; want_e = 0; leads = some to }

abbrev pub nothing : Begun
nothing = begun [] no_task 0 0

-- all tasks, with the one that was just read to its end
abbrev pub closed : Begun → List Task
closed s = elim s.vertices [ [] ↦ s.tasks | v ∷ vs ↦ s.tasks ++ (task s.m s.vertices s.edges ∷ []) ]

-- a line is read and the text goes on, or it was the end frame, or it is refused with a number
pub data Step : Type 0 where
  on : Begun → Step
  over : Table → Step
  wrong : ℕ → Step

-- refused with number n unless the test holds
abbrev pub gate : Bool → ℕ → Step → Step
gate true n s = s
gate false n s = wrong n

abbrev pub within : ℕ → ℕ → ℕ → Bool
within low high n = leb low n && leb n high

-- of a task with the masked length m, which is at least `least`
abbrev pub task_frame : Begun → ℕ → ℕ → ℕ → ℕ → Step
task_frame s nv ne least m =
    gate (within 1 most_vertices nv && leb ne most_edges && within least largest_m m) 3
    (on (begun (closed s) (task m [] []) nv ne))

-- "m may not exceed its task's largest e: refusal 3 at the last vertex's line": as long as another is wanted behind it, it isn't the last
abbrev pub mask_fits : Begun → List Vertex → Bool
mask_fits s vs = ltb 1 s.want_v || leb s.m (largest_e_in vs)

-- "A job longer than its own deadline is a typing slip. Refuse it [..]: number 13, at the vertex's line, when e exceeds d, after 3, before 4 and before wish
-- 3's test of m."
abbrev pub vertex_frame : Begun → ℕ → ℕ → Step
vertex_frame s e d =
    let vs = s.vertices ++ (vertex e d ∷ []) in
    gate (within 1 largest_e e && within 1 largest_d d) 3
    (gate (leb e d) 13 (gate (mask_fits s vs) 3
    (on (begun s.tasks (task s.m vs s.edges) (s.want_v - 1) s.want_e))))

-- strictly rising order of (from, to): an edge stands after the one before it in its task
abbrev pub after_last : List Edge → Edge → Bool
after_last [] x = true
after_last (y ∷ []) x = ltb y.from x.from || (eqb y.from x.from && ltb y.to x.to)
after_last (y ∷ z ∷ zs) x = after_last (z ∷ zs) x

abbrev pub edge_frame : Begun → ℕ → ℕ → ℕ → Step
edge_frame s from to p =
    gate (ltb from (length s.vertices) && ltb to (length s.vertices) && within 1 largest_p p) 3
    (gate (leb (get_or s.vertices from no_vertex).d p) 4
    (gate (after_last s.edges (edge from to p)) 5
    (on (begun s.tasks (task s.m s.vertices (s.edges ++ (edge from to p ∷ []))) 0 (s.want_e - 1)))))

-- ---- rings and gear tables

-- where vertex i of n leads: "a cycle in which each vertex leads to the next and the last to the first"
abbrev pub ring_to : ℕ → ℕ → ℕ
ring_to n i = pick (ltb (suc i) n) (suc i) 0

-- "each vertex leads only to itself"
abbrev pub gear_to : ℕ → ℕ → ℕ
gear_to n i = i

-- "A ring is frame 05 with a count (1 to 12)", "A gear table is frame 07 with a count": a count of 1 byte. "Both are read as the plain task they stand for,
-- m = 0", which `stands_for` of `Rings` says of the whole task.
abbrev pub vendor_frame : Begun → (ℕ → ℕ → ℕ) → ℕ → Step
vendor_frame s to n = gate (within 1 most_vertices n) 3 (on (linked (closed s) (task 0 [] []) (to n) n))

-- "and that many frames 06 e d p", of 2 bytes each: the next vertex, and the only edge out of it, with its own p. So 3 for all three, wish 6's 13, then 4;
-- the edges come in order of their start, so that 5 can't occur.
abbrev pub link_frame : Begun → (ℕ → ℕ) → ℕ → ℕ → ℕ → Step
link_frame s to e d p =
    let i = length s.vertices in
    gate (within 1 largest_e e && within 1 largest_d d && within 1 largest_p p) 3
    (gate (leb e d) 13
    (gate (leb d p) 4
    (on (linked s.tasks (task s.m (s.vertices ++ (vertex e d ∷ [])) (s.edges ++ (edge i (to i) p ∷ []))) to (s.want_v - 1)))))

-- ---- which frame may stand there

-- a vertex's: of a plain task, or of a ring or a gear table
abbrev pub wanted_vertex : Begun → Option (ℕ → ℕ) → List ℕ → Step
wanted_vertex s none f = pick (is_frame 2 5 f) (vertex_frame s (word f 1) (word f 3)) (wrong 2)
wanted_vertex s (some to) f = pick (is_frame 6 7 f) (link_frame s to (word f 1) (word f 3) (word f 5)) (wrong 2)

-- a task frame is followed by its vertices, then its edges, that of a ring or a gear table by its frames 06 alone; then another task or the end: by how many
-- vertices and edges are still wanted.
-- "New task frame: 04, vertices, edges, m (2 bytes, 1 to 1,000). Frame 01 means m = 0; 04 with 0 is refusal 3."
abbrev pub framed : Begun → ℕ → ℕ → List ℕ → Step
framed s (suc v) e f = wanted_vertex s s.leads f
framed s zero (suc e) f = pick (is_frame 3 5 f) (edge_frame s (get_or f 1 0) (get_or f 2 0) (word f 3)) (wrong 2)
framed s zero zero f =
    pick (is_frame 1 3 f && ltb (length (closed s)) most_tasks) (task_frame s (get_or f 1 0) (get_or f 2 0) 0 0)
    (pick (is_frame 4 5 f && ltb (length (closed s)) most_tasks) (task_frame s (get_or f 1 0) (get_or f 2 0) 1 (word f 3))
    (pick (is_frame 5 2 f && ltb (length (closed s)) most_tasks) (vendor_frame s ring_to (get_or f 1 0))
    (pick (is_frame 7 2 f && ltb (length (closed s)) most_tasks) (vendor_frame s gear_to (get_or f 1 0))
    (pick (is_frame 0 1 f && ltb 0 (length (closed s))) (over (closed s)) (wrong 2)))))

abbrev pub step_at : Begun → Option (List ℕ) → Step
step_at s none = wrong 1
step_at s (some f) = framed s s.want_v s.want_e f

-- ---- the whole text: the first faulty line decides

pub data Reading : Type 0 where
  readable : Table → Reading
  unreadable : ℕ → ℕ → Reading

-- after the end frame nothing is read: any byte there is 7
abbrev pub at_end : {X : Type 0} → Table → ℕ → List X → Reading
at_end ts n [] = readable ts
at_end ts n (l ∷ ls) = unreadable 7 n

-- the lines from line n on, after what was read before; `frame` gives the frame of a line
abbrev pub frames_from : {X : Type 0} → (X → Option (List ℕ)) → Begun → ℕ → List X → Reading
frames_from frame s n [] = unreadable 6 n
frames_from frame s n (l ∷ ls) =
    elim (step_at s (frame l)) [
      | on s' ↦ frames_from frame s' (suc n) ls
      | over ts ↦ at_end ts (suc n) ls
      | wrong k ↦ unreadable k n
    ]

abbrev pub read_from : Begun → ℕ → List Line → Reading
read_from s n ls = frames_from frame_of s n ls

unfoldable pub read : List ℕ → Reading
read text = read_from nothing 1 (lines_of text)

-- the table that a text means, without a task where it is refused
abbrev pub tasks_of : Reading → Table
tasks_of (readable ts) = ts
tasks_of (unreadable k n) = []

-- "refusal number and line, both 0 for a readable text"
abbrev pub checked : Reading → List ℕ
checked (readable ts) = 0 ∷ 0 ∷ []
checked (unreadable k n) = k ∷ n ∷ []

-- and packed in one number
abbrev pub packed : Reading → ℕ
packed r = get_or (checked r) 0 0 * 65536 + get_or (checked r) 1 0
