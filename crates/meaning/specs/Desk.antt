-- The desk program: from the bytes that it reads to the bytes that it writes.
use Rattle.std.specs.Prelude.{ℕ, suc, ◌/◌, ◌%◌, true, false, List, [], ◌∷◌, ◌++◌, map, length, get_or, ltb}
use Rattle.meaning.specs.Lists.{gather}
use Rattle.meaning.specs.Bounds.{longest_input, desk_work, desk_witness, desk_budget}
use Rattle.meaning.specs.Table.{Table}
use Rattle.meaning.specs.Text.{Reading, readable, unreadable, read, line}
use Rattle.meaning.specs.Paths.{Path}
use Rattle.meaning.specs.Verdict.{Verdict, numbers, kind_of, miss_paths, plain}
use Rattle.meaning.specs.Judge.{judged}
use Rattle.meaning.specs.Whole.{Place, places, Counts, counts_of}

-- ---- numbers

-- in two bytes and in four, the high byte first
abbrev pub two : ℕ → List ℕ
two n = n / 256 % 256 ∷ n % 256 ∷ []

abbrev pub four : ℕ → List ℕ
four n = two (n / 65536) ++ two n

-- ---- frames

-- 10, task, vertex, verdict, 4 bytes count (or refusal number)
abbrev pub verdict_frame : Place → ℕ → ℕ → List ℕ
verdict_frame q kind n = 16 ∷ q.task ∷ q.vertex ∷ kind ∷ four n

-- 12, task, length in 2 bytes, vertices: "the program's path frame becomes 12 with a two-byte length" (wish 7)
abbrev pub path_frame : ℕ → Path → List ℕ
path_frame i w = 18 ∷ i ∷ two (length w) ++ w

-- one a higher task, from task i on
abbrev pub path_frames : ℕ → List Path → List (List ℕ)
path_frames i [] = []
path_frames i (w ∷ ws) = path_frame i w ∷ path_frames (suc i) ws

-- a verdict's frame has its kind, and its count, budget or refusal number
abbrev pub vertex_frames : Place → Verdict → List (List ℕ)
vertex_frames q x = verdict_frame q (kind_of x) (get_or (numbers x) 1 0) ∷ path_frames 0 (miss_paths x)

-- 1f and the four counts
abbrev pub counts_frame : Counts → List ℕ
counts_frame n = 31 ∷ n.meeting ∷ n.missing ∷ n.unfinishing ∷ n.refusing ∷ []

-- 1e, number, line in 2 bytes
abbrev pub refusal_frame : ℕ → ℕ → List ℕ
refusal_frame k n = 30 ∷ k ∷ two n

-- ---- the output

abbrev pub desk_verdict : Table → Place → Verdict
desk_verdict ts q = judged plain ts q.task q.vertex desk_budget desk_work desk_witness

abbrev pub table_frames : Table → List (List ℕ)
table_frames ts =
    gather (λ (q : Place). vertex_frames q (desk_verdict ts q)) (places ts)
    ++ (counts_frame (counts_of (map (desk_verdict ts) (places ts))) ∷ [])

abbrev pub reading_frames : Reading → List (List ℕ)
reading_frames (readable ts) = table_frames ts
reading_frames (unreadable k n) = refusal_frame k n ∷ []

-- refusal 12 is checked before all
abbrev pub frames : List ℕ → List (List ℕ)
frames text = elim (ltb longest_input (length text)) [ true ↦ refusal_frame 12 0 ∷ [] | false ↦ reading_frames (read text) ]

unfoldable pub output : List ℕ → List ℕ
unfolding judged read
output text = gather line (frames text)
