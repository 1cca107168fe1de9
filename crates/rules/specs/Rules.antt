-- The bounds and orders that the numbers of a frame keep.
use Rattle.std.specs.Prelude.{ℕ, ◌+◌, ◌*◌, Bool, ◌&&◌, leb, ltb}
use Rattle.meaning.specs.Bounds.{most_vertices, most_edges, largest_e, largest_d, largest_p, largest_m}
use Rattle.meaning.specs.Text.{within}

-- ---- bounds

-- the counts of a task's vertices and edges, and its masked length, from `least` on
unfoldable pub task_in : ℕ → ℕ → ℕ → ℕ → Bool
task_in v e least m = within 1 most_vertices v && leb e most_edges && within least largest_m m

unfoldable pub vertex_in : ℕ → ℕ → Bool
vertex_in e d = within 1 largest_e e && within 1 largest_d d

abbrev pub separation_in : ℕ → Bool
separation_in p = within 1 largest_p p

-- in a task of n vertices
unfoldable pub edge_in : ℕ → ℕ → ℕ → ℕ → Bool
edge_in n from to p = ltb from n && ltb to n && within 1 largest_p p

-- a vertex of a ring or a gear table, with its only edge
unfoldable pub link_in : ℕ → ℕ → ℕ → Bool
link_in e d p = within 1 largest_e e && within 1 largest_d d && within 1 largest_p p

-- ---- orders

-- a job's e is at most its own d
abbrev pub job_in_time : ℕ → ℕ → Bool
job_in_time e d = leb e d

-- m is at most its task's largest e
abbrev pub mask_covered : ℕ → ℕ → Bool
mask_covered m largest = leb m largest

-- d of the starting vertex is at most p
abbrev pub edge_spaced : ℕ → ℕ → Bool
edge_spaced d p = leb d p

-- the place of (from, to) in the order of edges
abbrev pub edge_place : ℕ → ℕ → ℕ
edge_place from to = from * 256 + to

-- an edge stands after the one before it, which leaves the places from `least` on
abbrev pub edge_after : ℕ → ℕ → ℕ → Bool
edge_after least from to = leb least (edge_place from to)

abbrev pub least_after : ℕ → ℕ → ℕ
least_after from to = edge_place from to + 1
