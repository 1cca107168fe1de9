-- The record of a task that the lister asks for, and its columns of numbers.
use Rattle.std.specs.Prelude.{◌≡◌, ℕ, ◌+◌, ◌-◌, ◌≤◌, ◌<◌, List, map, length, get_or}
use Rattle.meaning.specs.Lists.{count_from, Rising}
use Rattle.meaning.specs.Bounds.{most_vertices, most_edges}
use Rattle.meaning.specs.Table as Meant
use Rattle.meaning.specs.Paths.{out_of, execution}
use Rattle.table.specs.declared.Vertex.{Vertex}
use Rattle.table.specs.declared.Edge.{Edge}
use Rattle.table.specs.declared.Task.{Task}
use Rattle.table.specs.Record.{no_edge}

-- ---- a task's record

abbrev pub execution_in : Vertex → ℕ
execution_in x = x.e.0

abbrev pub edge_cell : Task → ℕ → Edge
edge_cell t j = get_or t.edges j no_edge

-- what the reader sees to
pub record Ready (t : Task) : Type 0 where
  pub few : t.nv ≤ most_vertices
  pub links : t.ne ≤ most_edges
  pub cells_v : length t.vertices ≡ most_vertices
  pub cells_e : length t.edges ≡ most_edges
  pub from : (j : ℕ) → j < t.ne → (edge_cell t j).from.0 < t.nv
  pub to : (j : ℕ) → j < t.ne → (edge_cell t j).to.0 < t.nv
  pub apart : (j : ℕ) → j < t.ne → 1 ≤ (edge_cell t j).p.0
  pub sorted : (i j : ℕ) → i ≤ j → j < t.ne → (edge_cell t i).from.0 ≤ (edge_cell t j).from.0
  pub fanned : (i j : ℕ) → i < j → j < t.ne → (edge_cell t i).from.0 ≡ (edge_cell t j).from.0 → (edge_cell t i).to.0 < (edge_cell t j).to.0

-- ---- its columns

-- the largest number of 16 bits, and so in the columns
abbrev pub widest : ℕ
widest = 65535

-- the edges out of v are those from start v up to start (v + 1)
abbrev pub edges_of : List ℕ → ℕ → List ℕ
edges_of start v = count_from (get_or start v 0) (get_or start (v + 1) 0 - get_or start v 0)

pub record SoundColumns (start to p : List ℕ) : Type 0 where
  pub rise : (v : ℕ) → v < most_vertices → get_or start v 0 ≤ get_or start (v + 1) 0
  pub ends : (v : ℕ) → v < most_vertices → get_or start (v + 1) 0 ≤ get_or start most_vertices 0
  pub few : get_or start most_vertices 0 ≤ most_edges
  pub apart : (k : ℕ) → k < get_or start most_vertices 0 → 1 ≤ get_or p k 0
  pub within : (k : ℕ) → k < get_or start most_vertices 0 → get_or to k 0 < most_vertices

-- the edge at place j of the columns, which leaves v
abbrev pub edge_at : List ℕ → List ℕ → ℕ → ℕ → Meant.Edge
edge_at to p v j = Meant.edge v (get_or to j 0) (get_or p j 0)

-- what the columns say of a task
pub record ColumnsOf (k : Meant.Task) (e start to p : List ℕ) : Type 0 where
  pub sound : SoundColumns start to p
  pub size : length k.vertices ≤ most_vertices
  pub fanned : (v : ℕ) → Rising (λ (x y : Meant.Edge). x.to < y.to) (out_of k v)
  pub executions : (v : ℕ) → v < most_vertices → get_or e v 0 ≡ execution k v
  pub outs : (v : ℕ) → v < most_vertices → out_of k v ≡ map (edge_at to p v) (edges_of start v)

-- ---- where each vertex's edges start

-- the edges from k up to r leave v, and the one at r does not
pub record EdgesEnd (from : List ℕ) (k m v r : ℕ) : Type 0 where
  pub low : k ≤ r
  pub high : r ≤ m
  pub own : (j : ℕ) → k ≤ j → j < r → get_or from j 0 ≡ v
  pub next : r < m → get_or from r 0 ≡ v → ⊥

abbrev pub Sorted : List ℕ → ℕ → Type 0
Sorted from m = (i j : ℕ) → i ≤ j → j < m → get_or from i 0 ≤ get_or from j 0

-- a is the first place of an edge out of u or a later vertex
pub record Cut (from : List ℕ) (m a u : ℕ) : Type 0 where
  pub high : a ≤ m
  pub below : (j : ℕ) → j < a → get_or from j 0 < u
  pub above : (j : ℕ) → a ≤ j → j < m → u ≤ get_or from j 0

abbrev pub Cuts : List ℕ → ℕ → List ℕ → Type 0
Cuts from m r = (u : ℕ) → u ≤ most_vertices → Cut from m (get_or r u 0) u
