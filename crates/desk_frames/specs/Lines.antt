-- The paths that cells hold, and the lines of a vertex: what the functions here promise the judge. No promise of a call rests on it.
use Rattle.std.specs.Prelude.{ℕ, zero, suc, ◌≤◌, ◌<◌, List, [], ◌∷◌, ◌++◌, length, take, drop, get_or}
use Rattle.meaning.specs.Paths.{Path}
use Rattle.meaning.specs.Lists.{gather}
use Rattle.meaning.specs.Text.{line}
use Rattle.meaning.specs.Desk.{verdict_frame, path_frames}
use Rattle.meaning.specs.Whole.{Place}
use Rattle.kinds.specs.declared.TaskNumber.{TaskNumber}
use Rattle.kinds.specs.declared.VertexNumber.{VertexNumber}
use Rattle.kinds.specs.declared.Verdict.{Verdict}
use Rattle.kinds.specs.declared.Verdict.TheVariants.{Meets, Misses, Unfinished, Refused}
use Rattle.kinds.specs.Numbers.{verdict_numbers}

-- ---- cells that hold paths, each with its length before it

-- a number fits a byte, and each of a list does
abbrev pub FitsByte : ℕ → Type 0
FitsByte n = n < 256

abbrev pub Bytes : List ℕ → Type 0
Bytes xs = (i : ℕ) → FitsByte (get_or xs i 0)

-- the first h paths
abbrev pub cell_paths : ℕ → List ℕ → List Path
cell_paths zero cs = []
cell_paths (suc h) [] = []
cell_paths (suc h) (m ∷ cs) = take m cs ∷ cell_paths h (drop m cs)

-- the lines of paths, from task i on
abbrev pub path_lines : ℕ → List Path → List ℕ
path_lines i ws = gather line (path_frames i ws)

-- there are h of them, with vertices that fit a byte
abbrev pub WholePaths : ℕ → List ℕ → Type 0
WholePaths zero cs = Unit {0}
WholePaths (suc h) [] = ⊥
WholePaths (suc h) (m ∷ cs) = ((m ≤ length cs) × Bytes (take m cs)) × WholePaths h (drop m cs)

-- ---- a vertex's lines, from its verdict and the witness area

-- the paths that the area holds after a miss; none after any other verdict
abbrev pub shown_paths : Verdict → ℕ → List ℕ → List Path
shown_paths (Meets count) h cs = []
shown_paths (Misses count cells) h cs = cell_paths h cs
shown_paths (Unfinished budget) h cs = []
shown_paths (Refused at) h cs = []

-- after a miss the area holds one path a higher task
abbrev pub WholeShown : Verdict → ℕ → List ℕ → Type 0
WholeShown (Meets count) h cs = Unit {0}
WholeShown (Misses count cells) h cs = WholePaths h cs
WholeShown (Unfinished budget) h cs = Unit {0}
WholeShown (Refused at) h cs = Unit {0}

-- the numbers of a task and a vertex as the desk's place
abbrev pub place_of : TaskNumber → VertexNumber → Place
place_of task vertex = record { task = task.0; vertex = vertex.0 }

-- the line of a verdict: its number, and its count, budget or refusal number
abbrev pub shown_verdict : Place → Verdict → List ℕ
shown_verdict q r = line (verdict_frame q (get_or (verdict_numbers r) 0 0) (get_or (verdict_numbers r) 1 0))

unfoldable pub shown_lines : Place → Verdict → List ℕ → List ℕ
shown_lines q r cs = shown_verdict q r ++ path_lines 0 (shown_paths r q.task cs)
