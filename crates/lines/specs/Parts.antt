-- The lines of a task, by their count: its vertices, then its edges; or the vertices of a ring or a gear table.
use Rattle.std.specs.Prelude.{ℕ, zero, suc, ◌+◌, ◌-◌, ◌*◌, Bool, List, drop, set, replicate, Result, Ok, Err}
use Rattle.meaning.specs.Lists.{pick}
use Rattle.meaning.specs.Bounds.{most_vertices, most_edges}
use Rattle.meaning.specs.Text.{ring_to, gear_to}
use Rattle.kinds.specs.declared.Refusal.{Refusal}
use Rattle.kinds.specs.declared.Refusal.TheVariants.{OutOfBounds}
use Rattle.kinds.specs.declared.Ticks.{Ticks}
use Rattle.table.specs.declared.Vertex.{Vertex}
use Rattle.table.specs.declared.Edge.{Edge}
use Rattle.table.specs.declared.Task.{Task}
use Rattle.table.specs.Record.{task_cells, no_vertex, no_edge}
use Rattle.table.specs.Inner.{ticks, edge_cells, largest_of}
use Rattle.frames.specs.declared.Form.{Form}
use Rattle.frames.specs.declared.Form.TheVariants.{Plain, Ring, Gears}
use Rattle.frames.specs.declared.Head.{Head}
use Rattle.lines.specs.declared.Stopped.{Stopped}
use Rattle.lines.specs.declared.TaskLines.{TaskLines}
use Rattle.frames.specs.Frames.{part_bytes, link_bytes, vertex_line, edge_line, link_line}
use Rattle.rules.specs.Rules.{mask_covered, least_after}

-- ---- what was taken, or after how many lines which row stops them

abbrev pub stopped : Refusal → ℕ → Stopped
stopped w i = record { refusal = w; count = i }

-- the lines after a task's own, their bytes, and the task
pub record TaskTaken : Type 0 where
  pub count : ℕ
  pub bytes : ℕ
  pub task : Task

abbrev pub took_task : ℕ → ℕ → Task → TaskTaken
took_task i b k = record { count = i; bytes = b; task = k }

-- what was filled, where no line stops it
abbrev pub filled : {A B : Type 0} → Result A Stopped → B → Result B Stopped
filled (Ok a) x = Ok x
filled (Err s) x = Err s

abbrev pub taken_with : Result TaskLines Stopped → Task → Result TaskTaken Stopped
taken_with (Ok a) k = Ok (took_task a.count a.bytes k)
taken_with (Err s) k = Err s

-- what a line gives behind i of the task's
abbrev pub behind : {A : Type 0} → ℕ → Result A Refusal → Result A Stopped
behind i (Ok x) = Ok x
behind i (Err w) = Err (stopped w i)

-- with what a line, or the lines of a part, give
abbrev pub part_then : {A B : Type 0} → Result A Stopped → (A → Result B Stopped) → Result B Stopped
part_then (Ok x) go = go x
part_then (Err s) go = Err s

-- ---- vertices

-- k lines, after i
unfoldable pub vertices_on : ℕ → List Vertex → ℕ → List ℕ → Result (List Vertex) Stopped
vertices_on i vs zero t = Ok vs
vertices_on i vs (suc k) t = part_then (behind i (vertex_line t)) (λ x. vertices_on (i + 1) (set vs i x) k (drop part_bytes t))

abbrev pub vertex_lines : ℕ → List ℕ → Result (List Vertex) Stopped
vertex_lines k t = vertices_on 0 (replicate most_vertices no_vertex) k t

-- ---- edges

-- k lines, after i, in a task of n vertices, vs
unfoldable pub edges_on : ℕ → List Vertex → ℕ → List Edge → ℕ → ℕ → List ℕ → Result (List Edge) Stopped
edges_on n vs i es least zero t = Ok es
edges_on n vs i es least (suc k) t =
    part_then (behind (n + i) (edge_line n vs least t)) (λ x. edges_on n vs (i + 1) (set es i x) (least_after x.from.0 x.to.0) k (drop part_bytes t))

abbrev pub edge_lines : ℕ → List Vertex → ℕ → List ℕ → Result (List Edge) Stopped
edge_lines n vs k t = edges_on n vs 0 (replicate most_edges no_edge) 0 k t

-- ---- a plain task's

-- the first v have the largest e that m is held to, at the last one's line
abbrev pub covers : ℕ → Ticks → List Vertex → Bool
covers v m vs = mask_covered m.0 (largest_of v vs)

-- behind the vertices vs, with what the lines of the edges give
abbrev pub task_with : ℕ → ℕ → Ticks → List Vertex → Result (List Edge) Stopped → Result TaskTaken Stopped
task_with v e m vs b =
    pick (covers v m vs)
    (part_then b (λ es. Ok (took_task (v + e) ((v + e) * part_bytes) (task_cells m v e vs es))))
    (Err (stopped OutOfBounds (v - 1)))

-- the lines of v vertices and e edges, in a task with the masked length m
unfoldable pub plain_lines : ℕ → ℕ → Ticks → List ℕ → Result TaskTaken Stopped
plain_lines v e m t = part_then (vertex_lines v t) (λ vs. task_with v e m vs (edge_lines v vs e (drop (v * part_bytes) t)))

-- ---- a ring's and a gear table's, where vertex i leads to `to i`

-- k lines, after i
unfoldable pub links_on : (ℕ → ℕ) → ℕ → List Vertex → List Edge → ℕ → List ℕ → Result TaskTaken Stopped
links_on to i vs es zero t = Ok (took_task i (i * link_bytes) (task_cells (ticks 0) i i vs es))
links_on to i vs es (suc k) t =
    part_then (behind i (link_line t)) (λ x. links_on to (i + 1) (set vs i x.vertex) (set es i (edge_cells i (to i) x.p.0)) k (drop link_bytes t))

abbrev pub link_lines : (ℕ → ℕ) → ℕ → List ℕ → Result TaskTaken Stopped
link_lines to n t = links_on to 0 (replicate most_vertices no_vertex) (replicate most_edges no_edge) n t

-- ---- by the task's own line

abbrev pub form_lines : Form → ℕ → ℕ → Ticks → List ℕ → Result TaskTaken Stopped
form_lines Plain v e m t = plain_lines v e m t
form_lines Ring v e m t = link_lines (ring_to v) v t
form_lines Gears v e m t = link_lines (gear_to v) v t

abbrev pub task_lines : Head → List ℕ → Result TaskTaken Stopped
task_lines h t = form_lines h.form h.v h.e h.m t
