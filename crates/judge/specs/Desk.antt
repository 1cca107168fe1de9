-- The desk's whole output, in a lent area.
use Rattle.std.specs.Prelude.{ℕ, ◌+◌, ◌*◌, true, false, List, [], map, length, replicate, ltb}
use Rattle.meaning.specs.Lists.{pick, sum}
use Rattle.meaning.specs.Bounds.{longest_input, verdict_line, counts_line, refusal_line, path_line, longest_output}
use Rattle.meaning.specs.Table.{Table}
use Rattle.meaning.specs.Text.{Reading, readable, unreadable, read}
use Rattle.meaning.specs.Verdict.{deadline}
use Rattle.meaning.specs.Whole.{Place, places}
use Rattle.meaning.specs.Desk.{output}

-- room for any output
unfoldable pub no_output : List ℕ
no_output = replicate longest_output 0

-- the bytes that a vertex's lines can have: its verdict's line, and for each higher task that of a path of d vertices
abbrev pub vertex_room : Table → Place → ℕ
vertex_room ts q = verdict_line + q.task * path_line (deadline ts q.task q.vertex)

abbrev pub table_room : Table → ℕ
table_room ts = sum (map (vertex_room ts) (places ts)) + counts_line

-- the bytes that the output can have
abbrev pub reading_room : Reading → ℕ
reading_room (readable ts) = table_room ts
reading_room (unreadable k n) = refusal_line

abbrev pub output_room : List ℕ → ℕ
output_room text = elim (ltb longest_input (length text)) [ true ↦ refusal_line | false ↦ reading_room (read text) ]

-- what is written into an area of n bytes: the output, or nothing where it might not fit
unfoldable pub output_into : List ℕ → ℕ → List ℕ
unfolding output
output_into text n = pick (ltb n (output_room text)) [] (output text)
