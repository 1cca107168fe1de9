-- Each line by the frame that must stand there: only where that fails is the line looked through for the reason.
use Rattle.std.specs.Prelude.{ℕ, ◌+◌, Bool, false, List, length, get_or, leb, eqb, Option, Some, None, Result, Ok, Err}
use Rattle.meaning.specs.Lists.{pick}
use Rattle.meaning.specs.Bounds.{most_tasks}
use Rattle.meaning.specs.Text.{line_feed, ring_to, gear_to}
use Rattle.kinds.specs.declared.Refusal.{Refusal}
use Rattle.kinds.specs.declared.Refusal.TheVariants.{BadLine, WrongFrame, OutOfBounds, DeadlineOverSeparation, EdgeNotAfter, NoEnd, JobOverDeadline}
use Rattle.table.specs.declared.Vertex.{Vertex}
use Rattle.table.specs.Record.{no_vertex}
use Rattle.table.specs.Inner.{ticks, vertex_cells, edge_cells}
use Rattle.table.specs.declared.Edge.{Edge}
use Rattle.frames.specs.declared.Frame.{Frame}
use Rattle.frames.specs.declared.Frame.TheVariants as Kind
use Rattle.frames.specs.declared.Form.{Form}
use Rattle.frames.specs.declared.Form.TheVariants.{Plain, Ring, Gears}
use Rattle.frames.specs.declared.Head.{Head}
use Rattle.frames.specs.declared.Link.{Link}
use Rattle.rules.specs.Rules.{task_in, vertex_in, edge_in, link_in, job_in_time, edge_spaced, edge_after}
use Rattle.digits.specs.Digits.{pair_at, word_at, frame_at, digit_count}

-- ---- the digits of each frame's line, and the bytes of the line

abbrev pub task_digits : ℕ
task_digits = 6

-- a vertex's, an edge's, and those of a task with a masked length
abbrev pub part_digits : ℕ
part_digits = 10

abbrev pub part_bytes : ℕ
part_bytes = part_digits + 1

-- those of a ring and a gear table, and of their vertices
abbrev pub linked_digits : ℕ
linked_digits = 4

abbrev pub linked_bytes : ℕ
linked_bytes = linked_digits + 1

abbrev pub link_digits : ℕ
link_digits = 14

abbrev pub link_bytes : ℕ
link_bytes = link_digits + 1

-- of a plain task with the masked length m
unfoldable pub task_bytes : ℕ → ℕ
task_bytes m = pick (eqb m 0) (task_digits + 1) part_bytes

abbrev pub form_bytes : Form → ℕ → ℕ
form_bytes Plain m = task_bytes m
form_bytes Ring m = linked_bytes
form_bytes Gears m = linked_bytes

abbrev pub head_bytes : Head → ℕ
head_bytes h = form_bytes h.form h.m.0

abbrev pub end_digits : ℕ
end_digits = 2

abbrev pub end_bytes : ℕ
end_bytes = end_digits + 1

-- the second byte of a frame's line, and its digits
abbrev pub kind_of : Frame → ℕ
kind_of Kind.End = 48
kind_of Kind.Task = 49
kind_of Kind.Vertex = 50
kind_of Kind.Edge = 51
kind_of Kind.MaskedTask = 52
kind_of Kind.Ring = 53
kind_of Kind.Link = 54
kind_of Kind.Gears = 55

abbrev pub digits_of : Frame → ℕ
digits_of Kind.End = end_digits
digits_of Kind.Task = task_digits
digits_of Kind.Vertex = part_digits
digits_of Kind.Edge = part_digits
digits_of Kind.MaskedTask = part_digits
digits_of Kind.Ring = linked_digits
digits_of Kind.Link = link_digits
digits_of Kind.Gears = linked_digits

-- where vertex i of n leads in a ring, and in a gear table; a plain task has its edges' lines
abbrev pub form_to : Form → ℕ → ℕ → ℕ
form_to Plain n i = i
form_to Ring n i = ring_to n i
form_to Gears n i = gear_to n i

-- ---- what is asked of a line

-- how the first line of t is refused: 6, 1, 2 where it has not n digits, else w
unfoldable pub fault_of : List ℕ → ℕ → Refusal → Refusal
fault_of t n w =
    pick (eqb (length t) 0) NoEnd
    (pick (eqb (digit_count 0 (frame_at t)) 0) BadLine
    (pick (eqb (digit_count 0 (frame_at t)) n) w WrongFrame))

-- t starts with the digits 0 and k (as bytes), and has a line feed behind n bytes
unfoldable pub starts_with : List ℕ → ℕ → ℕ → Bool
starts_with t k n =
    pick (leb (length t) n) false
    (pick (eqb (get_or t 0 0) 48)
    (pick (eqb (get_or t 1 0) k) (eqb (get_or t n 0) line_feed) false) false)

-- ---- a vertex's line

abbrev pub vertex_e : List ℕ → ℕ
vertex_e t = word_at t 2

abbrev pub vertex_d : List ℕ → ℕ
vertex_d t = word_at t 6

unfoldable pub vertex_line : List ℕ → Result Vertex Refusal
vertex_line t =
    pick (starts_with t 50 part_digits)
    (pick (vertex_in (vertex_e t) (vertex_d t))
    (pick (job_in_time (vertex_e t) (vertex_d t))
    (Ok (vertex_cells (vertex_e t) (vertex_d t)))
    (Err JobOverDeadline))
    (Err (fault_of t part_digits OutOfBounds)))
    (Err (fault_of t part_digits WrongFrame))

-- ---- an edge's line

abbrev pub edge_from : List ℕ → ℕ
edge_from t = pair_at t 2

abbrev pub edge_to : List ℕ → ℕ
edge_to t = pair_at t 4

abbrev pub edge_p : List ℕ → ℕ
edge_p t = word_at t 6

-- in a task of n vertices, vs, where `least` is the first place after the edge before
unfoldable pub edge_line : ℕ → List Vertex → ℕ → List ℕ → Result Edge Refusal
edge_line n vs least t =
    pick (starts_with t 51 part_digits)
    (pick (edge_in n (edge_from t) (edge_to t) (edge_p t))
    (pick (edge_spaced (get_or vs (edge_from t) no_vertex).d.0 (edge_p t))
    (pick (edge_after least (edge_from t) (edge_to t))
    (Ok (edge_cells (edge_from t) (edge_to t) (edge_p t)))
    (Err EdgeNotAfter))
    (Err DeadlineOverSeparation))
    (Err (fault_of t part_digits OutOfBounds)))
    (Err (fault_of t part_digits WrongFrame))

-- ---- the line of a vertex of a ring or a gear table

abbrev pub link_p : List ℕ → ℕ
link_p t = word_at t 10

abbrev pub link_cells : ℕ → ℕ → ℕ → Link
link_cells e d p = record { vertex = vertex_cells e d; p = ticks p }

unfoldable pub link_line : List ℕ → Result Link Refusal
link_line t =
    pick (starts_with t 54 link_digits)
    (pick (link_in (vertex_e t) (vertex_d t) (link_p t))
    (pick (job_in_time (vertex_e t) (vertex_d t))
    (pick (edge_spaced (vertex_d t) (link_p t))
    (Ok (link_cells (vertex_e t) (vertex_d t) (link_p t)))
    (Err DeadlineOverSeparation))
    (Err JobOverDeadline))
    (Err (fault_of t link_digits OutOfBounds)))
    (Err (fault_of t link_digits WrongFrame))

-- ---- the line after k whole tasks

unfoldable pub end_line : ℕ → List ℕ → Result (Option Head) Refusal
end_line k t =
    pick (starts_with t 48 end_digits)
    (pick (eqb k 0) (Err WrongFrame) (Ok None))
    (Err (fault_of t end_digits WrongFrame))

abbrev pub task_vertices : List ℕ → ℕ
task_vertices t = pair_at t 2

abbrev pub task_edges : List ℕ → ℕ
task_edges t = pair_at t 4

abbrev pub task_mask : List ℕ → ℕ
task_mask t = word_at t 6

abbrev pub head_with : Form → ℕ → ℕ → ℕ → Head
head_with o v e m = record { form = o; v = v; e = e; m = ticks m }

-- a task's, of n digits, which says h if its numbers are within their bounds
abbrev pub head_line : ℕ → ℕ → Bool → Head → List ℕ → Result (Option Head) Refusal
head_line k n inside h t =
    pick (leb most_tasks k) (Err (fault_of t n WrongFrame)) (pick inside (Ok (Some h)) (Err (fault_of t n OutOfBounds)))

-- of a plain task, with the masked length m, from `least` on
unfoldable pub task_line : ℕ → ℕ → ℕ → ℕ → List ℕ → Result (Option Head) Refusal
task_line k n least m t =
    head_line k n (task_in (task_vertices t) (task_edges t) least m) (head_with Plain (task_vertices t) (task_edges t) m) t

-- of a ring or a gear table: as many edges as vertices
unfoldable pub linked_line : Form → ℕ → List ℕ → Result (Option Head) Refusal
linked_line o k t =
    head_line k linked_digits (task_in (task_vertices t) (task_vertices t) 0 0) (head_with o (task_vertices t) (task_vertices t) 0) t

unfoldable pub task_or_end_line : ℕ → List ℕ → Result (Option Head) Refusal
task_or_end_line k t =
    pick (starts_with t 49 task_digits) (task_line k task_digits 0 0 t)
    (pick (starts_with t 52 part_digits) (task_line k part_digits 1 (task_mask t) t)
    (pick (starts_with t 53 linked_digits) (linked_line Ring k t)
    (pick (starts_with t 55 linked_digits) (linked_line Gears k t)
    (end_line k t))))
