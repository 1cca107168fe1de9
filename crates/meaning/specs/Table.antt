-- What the tool judges: a table of tasks in priority order, task 0 highest; times in ticks.
use Rattle.std.specs.Prelude.{ℕ, suc, List, [], map, get_or, take, drop}
use Rattle.meaning.specs.Lists.{largest}

-- a job type: its execution time e and its deadline d
pub record Vertex : Type 0 where
  pub e : ℕ
  pub d : ℕ

-- from a vertex to a vertex, with the separation p: the least time from a release of the one to the next release, of the other
pub record Edge : Type 0 where
  pub from : ℕ
  pub to : ℕ
  pub p : ℕ

-- "A task may have a masked length m", for which it lets no other task run; 0 if it has none
pub record Task : Type 0 where
  pub m : ℕ
  pub vertices : List Vertex
  pub edges : List Edge

abbrev pub Table : Type 0
Table = List Task

-- ---- each from its parts

abbrev pub vertex : ℕ → ℕ → Vertex
vertex e d = record { e = e; d = d }

abbrev pub edge : ℕ → ℕ → ℕ → Edge
edge from to p = record { from = from; to = to; p = p }

abbrev pub task : ℕ → List Vertex → List Edge → Task
task m vs es = record { m = m; vertices = vs; edges = es }

-- ---- by number

abbrev pub no_vertex : Vertex
no_vertex = vertex 0 0

abbrev pub no_task : Task
no_task = task 0 [] []

abbrev pub vertex_at : Task → ℕ → Vertex
vertex_at k v = get_or k.vertices v no_vertex

abbrev pub task_at : Table → ℕ → Task
task_at ts i = get_or ts i no_task

-- the tasks of higher priority than task i
abbrev pub higher : Table → ℕ → List Task
higher ts i = take i ts

-- and those of lower priority
abbrev pub lower : Table → ℕ → List Task
lower ts i = drop (suc i) ts

-- ---- masked lengths

-- "its task's largest e", of the vertices vs
abbrev pub largest_e_in : List Vertex → ℕ
largest_e_in vs = largest (map (λ (x : Vertex). x.e) vs)

-- the largest m of tasks, "0 if none"
abbrev pub largest_m_in : List Task → ℕ
largest_m_in ks = largest (map (λ (k : Task). k.m) ks)

-- the same task without a masked length
abbrev pub unmasked : Task → Task
unmasked k = task 0 k.vertices k.edges
