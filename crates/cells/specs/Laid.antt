-- The layout the other way round: the cells of a table. Any table is read from its cells, and a list that holds a table that keeps every rule
-- is just that table's cells: it ends where the last task ends. `proofs/Laid` proves it.
use Rattle.std.specs.Prelude.{◌≡◌, ℕ, List, [], ◌∷◌, ◌++◌, length}
use Rattle.meaning.specs.Lists.{gather}
use Rattle.meaning.specs.Table.{Vertex, Edge, Task, Table}
use Rattle.meaning.specs.Sound.{SoundTable}
use Rattle.cells.specs.Cells.{cells_table}

-- a task's counts and m, then its vertices, then its edges
abbrev pub cells_of_task : Task → List ℕ
cells_of_task k =
    length k.vertices ∷ length k.edges ∷ k.m ∷ gather (λ (x : Vertex). x.e ∷ x.d ∷ []) k.vertices
    ++ gather (λ (x : Edge). x.from ∷ x.to ∷ x.p ∷ []) k.edges

abbrev pub cells_of_table : Table → List ℕ
cells_of_table ts = gather cells_of_task ts

pub record Laid : Type 0 where
  pub any : (ts : Table) → cells_table (cells_of_table ts) ≡ ts
  pub exactly : (cs : List ℕ) → SoundTable (cells_table cs) → cells_of_table (cells_table cs) ≡ cs
