-- Write what we read: from a table to the bytes of its text, or to the number and the place of its refusal.
use Rattle.std.specs.Prelude.{ℕ, ◌/◌, ◌%◌, List, [], ◌∷◌, ◌++◌, map, length, ltb, eqb}
use Rattle.std.proofs.Math.Option.{some}
use Rattle.meaning.specs.Lists.{pick, gather}
use Rattle.meaning.specs.Table.{Vertex, Edge, Task, Table}
use Rattle.meaning.specs.Text.{line, nothing, Reading, readable, unreadable, frames_from}
use Rattle.meaning.specs.Areas.{written}

-- ---- the frames of a table, as lists of numbers: one that its bytes can't hold is there all the same, so that none is taken for another

-- a number in two, the high byte first; what is above them stays in the high one
abbrev pub in_two : ℕ → List ℕ
in_two n = n / 256 ∷ n % 256 ∷ []

-- "Frame 01 is written for m = 0, 04 otherwise", of a task with v vertices and e edges
abbrev pub frame_of_task : ℕ → ℕ → ℕ → List ℕ
frame_of_task m v e = pick (eqb m 0) (1 ∷ v ∷ e ∷ []) (4 ∷ v ∷ e ∷ in_two m)

abbrev pub frame_of_vertex : Vertex → List ℕ
frame_of_vertex x = 2 ∷ in_two x.e ++ in_two x.d

abbrev pub frame_of_edge : Edge → List ℕ
frame_of_edge x = 3 ∷ x.from ∷ x.to ∷ in_two x.p

abbrev pub frame_of_end : List ℕ
frame_of_end = 0 ∷ []

-- a task's own, then its vertices' and its edges'
abbrev pub frames_of_task : Task → List (List ℕ)
frames_of_task k = frame_of_task k.m (length k.vertices) (length k.edges) ∷ map frame_of_vertex k.vertices ++ map frame_of_edge k.edges

abbrev pub frames_of : Table → List (List ℕ)
frames_of ts = gather frames_of_task ts ++ (frame_of_end ∷ [])

-- the text of a table, in frames 00 to 04: "one frame a line"; no text where a number has more digits than its bytes, and then `ruled` refuses it
unfoldable pub text_of : Table → List ℕ
text_of ts = gather line (frames_of ts)

-- ---- the answer

-- written, with the bytes of the text; or refused, with a number and its place
pub data Writing : Type 0 where
  writable : List ℕ → Writing
  unwritable : ℕ → ℕ → Writing

-- "A table that breaks a rule gets 2 to 5 with the line its frame would have, first line first", and 13 "read or written": its frames, tested in turn by the
-- reader's own rules
unfoldable pub ruled : Table → Reading
ruled ts = frames_from some nothing 1 (frames_of ts)

-- "then 10 with the bytes needed", for an area of so many
abbrev pub fitted : List ℕ → ℕ → Writing
fitted text room = pick (ltb room (length text)) (unwritable 10 (length text)) (writable text)

abbrev pub writing_by : Reading → List ℕ → ℕ → Writing
writing_by (readable ts) text room = fitted text room
writing_by (unreadable k n) text room = unwritable k n

unfoldable pub writing : Table → ℕ → Writing
writing ts room = writing_by (ruled ts) (text_of ts) room

-- 0 and the bytes written; the refusal's number and what is returned with it
abbrev pub writing_numbers : Writing → List ℕ
writing_numbers (writable text) = 0 ∷ length text ∷ []
writing_numbers (unwritable k n) = k ∷ n ∷ []

-- what comes to stand at the area's front: nothing by a refusal
abbrev pub front_of : Writing → List ℕ
front_of (writable text) = text
front_of (unwritable k n) = []

-- "A refusal changes nothing; else the rest of the area is unchanged."
abbrev pub area_after : Writing → List ℕ → List ℕ
area_after w area = written (front_of w) area
