-- The rules that a table keeps: the bounds, e at most d, m at most the task's largest e, d at most p, edges strictly rising with their ends in the task. Every
-- readable table keeps them (`ReadableSound` of `Texts`).
use Rattle.std.specs.Prelude.{◌≡◌, ◌⊎◌, ◌≤◌, ◌<◌, length, get_or}
use mathlib.Core.List.{List, Memᴰ}
use Rattle.meaning.specs.Lists.{Rising}
use Rattle.meaning.specs.Bounds.{most_tasks, most_vertices, most_edges, largest_e, largest_d, largest_p, largest_m}
use Rattle.meaning.specs.Table.{Vertex, Edge, Task, Table, no_vertex, largest_e_in}

pub record SoundVertex (x : Vertex) : Type 0 where
  pub some_e : 1 ≤ x.e
  pub most_e : x.e ≤ largest_e
  pub some_d : 1 ≤ x.d
  pub most_d : x.d ≤ largest_d
  pub in_time : x.e ≤ x.d

-- an edge between two of the task's vertices
pub record SoundEdge (vs : List Vertex) (x : Edge) : Type 0 where
  pub from_in : x.from < length vs
  pub to_in : x.to < length vs
  pub some_p : 1 ≤ x.p
  pub most_p : x.p ≤ largest_p
  pub spaced : (get_or vs x.from no_vertex).d ≤ x.p

-- the order of (from, to)
abbrev pub EdgeBefore : Edge → Edge → Type 0
EdgeBefore x y = (x.from < y.from) ⊎ ((x.from ≡ y.from) × (x.to < y.to))

pub record SoundTask (k : Task) : Type 0 where
  pub some_vertex : 1 ≤ length k.vertices
  pub vertex_count : length k.vertices ≤ most_vertices
  pub edge_count : length k.edges ≤ most_edges
  pub most_m : k.m ≤ largest_m
  pub covered : k.m ≤ largest_e_in k.vertices
  pub each_vertex : (x : Vertex) → Memᴰ x k.vertices → SoundVertex x
  pub each_edge : (x : Edge) → Memᴰ x k.edges → SoundEdge k.vertices x
  pub rising : Rising EdgeBefore k.edges

abbrev pub AllSound : List Task → Type 0
AllSound ks = (k : Task) → Memᴰ k ks → SoundTask k

pub record SoundTable (ts : Table) : Type 0 where
  pub some_task : 1 ≤ length ts
  pub task_count : length ts ≤ most_tasks
  pub each_task : AllSound ts
