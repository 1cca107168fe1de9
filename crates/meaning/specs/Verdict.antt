-- The verdict on a vertex under the tasks of higher priority, and held up by those of lower priority, with a budget.
use Rattle.std.specs.Prelude.{ℕ, ◌+◌, List, [], ◌∷◌, ◌++◌, map, length, get_or, ltb, eqb}
use Rattle.std.proofs.Math.Option.{Option, none, some}
use Rattle.meaning.specs.Lists.{pick, gather, or_given}
use Rattle.meaning.specs.Table.{Task, Table, vertex_at, task_at, higher, lower, largest_m_in, unmasked}
use Rattle.meaning.specs.Paths.{Path, load, paths_of}
use Rattle.meaning.specs.Groups.{count, witness, late_count, worst, worst_choice}

-- meets with C; misses with C and the paths that cause it; unfinished with the budget; refused with the refusal's number and its place
pub data Verdict : Type 0 where
  meets : ℕ → Verdict
  misses : ℕ → List Path → Verdict
  unfinished : ℕ → Verdict
  refused : ℕ → ℕ → Verdict

-- per higher task in order, the path's length and vertices
abbrev pub cells_of : List Path → List ℕ
cells_of ws = gather (λ (w : Path). length w ∷ w) ws

-- a verdict in numbers: the desk's 0 to 3, then its values; a miss counts the cells written
abbrev pub numbers : Verdict → List ℕ
numbers (meets c) = 0 ∷ c ∷ []
numbers (misses c ws) = 1 ∷ c ∷ length (cells_of ws) ∷ []
numbers (unfinished b) = 2 ∷ b ∷ []
numbers (refused k place) = 3 ∷ k ∷ place ∷ []

-- the desk's number: 0 meets, 1 misses, 2 unfinished, 3 refused
abbrev pub kind_of : Verdict → ℕ
kind_of x = get_or (numbers x) 0 0

-- where the latest finish is asked for, a meets also counts the cells of the paths us, as a miss does its own, and has "a figure beside" it, t
abbrev pub late_numbers : ℕ → List Path → Verdict → List ℕ
late_numbers t us x = numbers x ++ pick (eqb (kind_of x) 0) (length (cells_of us) ∷ t ∷ []) []

-- the paths that cause a miss; these with a meets; none with any other verdict
abbrev pub shown_paths : List Path → Verdict → List Path
shown_paths us (meets c) = us
shown_paths us (misses c ws) = ws
shown_paths us (unfinished b) = []
shown_paths us (refused k place) = []

abbrev pub miss_paths : Verdict → List Path
miss_paths x = shown_paths [] x

-- ---- the walk of a vertex

-- a path with the task that it is a path of
pub record Listed : Type 0 where
  pub task : Task
  pub path : Path

abbrev pub load_of : Listed → ℕ → ℕ
load_of x t = load x.task x.path t

-- kept without its masked length, so that the same jobs have the same paths
abbrev pub listed : ℕ → Task → List Listed
listed d k = map (λ (w : Path). record { task = unmasked k; path = w }) (paths_of k d)

-- the top group takes all
abbrev pub top_of : List Task → ℕ → List (List Listed)
top_of ks d = map (listed d) ks

abbrev pub paths_in : List Listed → List Path
paths_in c = map (λ (x : Listed). x.path) c

abbrev pub decided : ℕ → Option (List Listed) → Verdict
decided c none = meets c
decided c (some w) = misses c (paths_in w)

-- what a judging call asks for: document 01's verdict, or also "how late is the latest?"
pub data Asked : Type 0 where
  plain : Asked
  latest : Asked

-- its C
abbrev pub count_of : Asked → ℕ → ℕ → List (List Listed) → ℕ
count_of plain e d top = count load_of e d top
count_of latest e d top = late_count load_of e d top

-- a job of e ticks, B among them, and deadline d under the tasks ks, with budget b: unfinished exactly if it is below C
unfoldable pub walked : Asked → ℕ → List Task → ℕ → ℕ → Verdict
unfolding load paths_of count late_count witness
walked a b ks e d = let c = count_of a e d (top_of ks d) in pick (ltb b c) (unfinished b) (decided c (witness load_of e d (top_of ks d)))

-- ---- a vertex of a table

-- "the largest m among lower tasks, 0 if none". "It is our house rule: a task's own masked end pushing its next job (source document 001, section 7) isn't
-- covered."
abbrev pub B : Table → ℕ → ℕ
B ts i = largest_m_in (lower ts i)

-- "a vertex's e in the overload rule becomes e + B"
abbrev pub own_e : Table → ℕ → ℕ → ℕ
own_e ts i v = (vertex_at (task_at ts i) v).e + B ts i

abbrev pub deadline : Table → ℕ → ℕ → ℕ
deadline ts i v = (vertex_at (task_at ts i) v).d

abbrev pub top_at : Table → ℕ → ℕ → List (List Listed)
top_at ts i v = top_of (higher ts i) (deadline ts i v)

-- the number of groups that the call's rule has to examine
abbrev pub C : Asked → Table → ℕ → ℕ → ℕ
C a ts i v = count_of a (own_e ts i v) (deadline ts i v) (top_at ts i v)

-- the worst finish, and the first paths that reach it
abbrev pub worst_at : Table → ℕ → ℕ → ℕ
worst_at ts i v = worst load_of (own_e ts i v) (deadline ts i v) (top_at ts i v)

abbrev pub latest_paths : Table → ℕ → ℕ → List Path
latest_paths ts i v = paths_in (or_given [] (worst_choice load_of (own_e ts i v) (deadline ts i v) (top_at ts i v)))

-- the paths that a meets writes: "in this call a meets writes there too"
abbrev pub meets_paths : Asked → Table → ℕ → ℕ → List Path
meets_paths plain ts i v = []
meets_paths latest ts i v = latest_paths ts i v
