-- The bounds that document 01 and wishes 3 and 7 set on tables, judging and the desk program, each once, and what follows from them. The numbers of frames
-- and refusals stand where these are defined.
use Rattle.std.specs.Prelude.{ℕ, ◌+◌, ◌-◌, ◌*◌}

-- ---- a table

abbrev pub most_tasks : ℕ
most_tasks = 8

abbrev pub most_vertices : ℕ
most_vertices = 12

abbrev pub most_edges : ℕ
most_edges = 32

-- the largest e, d, p and m; the least of each is 1, and a task without a masked length has m = 0. "Raise d to 1,000 and p to 60,000; e and m keep their
-- bounds." (wish 7)
abbrev pub largest_e : ℕ
largest_e = 1000

abbrev pub largest_d : ℕ
largest_d = 1000

abbrev pub largest_p : ℕ
largest_p = 60000

abbrev pub largest_m : ℕ
largest_m = 1000

-- ---- judging

-- a vertex has at most so many higher tasks
abbrev pub most_higher : ℕ
most_higher = most_tasks - 1

-- a higher task may have so many complete paths
abbrev pub most_paths : ℕ
most_paths = 64

-- ---- the desk program

abbrev pub longest_input : ℕ
longest_input = 8191

abbrev pub desk_work : ℕ
desk_work = 8192

-- as many as any vertex needs
abbrev pub desk_witness : ℕ
desk_witness = most_higher * (1 + largest_d)

abbrev pub desk_budget : ℕ
desk_budget = 100000

-- ---- the desk's output, in bytes

-- the line of a frame of n bytes: two digits each, and the line feed
abbrev pub line_length : ℕ → ℕ
line_length n = 2 * n + 1

-- 10, task, vertex, verdict, 4 bytes count
abbrev pub verdict_line : ℕ
verdict_line = line_length 8

-- 1f and the four counts
abbrev pub counts_line : ℕ
counts_line = line_length 5

-- 1e, number, line in 2 bytes
abbrev pub refusal_line : ℕ
refusal_line = line_length 4

-- 12, task, length in 2 bytes and n vertices
abbrev pub path_line : ℕ → ℕ
path_line n = line_length (4 + n)

-- a vertex's verdict, and for each higher task the longest path
abbrev pub longest_vertex : ℕ
longest_vertex = verdict_line + most_higher * path_line largest_d

-- room for any output: as if every vertex had all the tasks above it, then the counts
abbrev pub longest_output : ℕ
longest_output = most_tasks * most_vertices * longest_vertex + counts_line
