-- Rings and gear tables: the plain task that each stands for, the texts that have them, and those that don't. `Text` defines how they are read;
-- `proofs/Rings` proves the expansion's facts, and the writer's page of demands says that texts are read as the tasks they stand for.
use Rattle.std.specs.Prelude.{◌≡◌, ℕ, suc, ◌≤◌, ◌<◌, false, length, get_or}
use Rattle.std.proofs.Math.Option.{Option, none, some}
use mathlib.Core.List.{List, [], ◌∷◌, ◌++◌, map, Memᴰ}
use Rattle.meaning.specs.Lists.{gather}
use Rattle.meaning.specs.Bounds.{most_vertices, largest_p}
use Rattle.meaning.specs.Table.{Vertex, Edge, Task, vertex, edge, task}
use Rattle.meaning.specs.Text.{Line, lines_of, frame_of, line, within, ring_to, gear_to}
use Rattle.meaning.specs.Sound.{SoundVertex, SoundTask}
use Rattle.meaning.specs.Writing.{in_two, frames_of_task, frame_of_end}

-- ---- the plain task that they stand for

-- a frame 06: a vertex, and the separation from it to the one that it leads to
pub record Link : Type 0 where
  pub e : ℕ
  pub d : ℕ
  pub p : ℕ

abbrev pub link_vertex : Link → Vertex
link_vertex x = vertex x.e x.d

-- from vertex i on, each leads to `to` of it, and only there
abbrev pub edges_from : (ℕ → ℕ) → ℕ → List Link → List Edge
edges_from to i [] = []
edges_from to i (x ∷ xs) = edge i (to i) x.p ∷ edges_from to (suc i) xs

-- where `to n` says for n vertices where each leads
abbrev pub stands_for : (ℕ → ℕ → ℕ) → List Link → Task
stands_for to xs = task 0 (map link_vertex xs) (edges_from (to (length xs)) 0 xs)

-- ---- "Prove the expansion's facts once for both"

pub record SoundLink (x : Link) : Type 0 where
  pub vertex : SoundVertex (link_vertex x)
  pub some_p : 1 ≤ x.p
  pub most_p : x.p ≤ largest_p
  pub spaced : x.d ≤ x.p

-- each of the vertices leads to one of them
abbrev pub Inward : (ℕ → ℕ → ℕ) → Type 0
Inward to = (n i : ℕ) → i < n → to n i < n

-- wherever the vertices lead, the edges are strictly rising, their ends in the task, and d at most p; and there are as many as vertices
abbrev pub Expands : (ℕ → ℕ → ℕ) → Type 0
Expands to = (xs : List Link) → 1 ≤ length xs → length xs ≤ most_vertices → ((x : Link) → Memᴰ x xs → SoundLink x)
    → SoundTask (stands_for to xs) × (length (stands_for to xs).edges ≡ length (stands_for to xs).vertices)

pub record Expansion : Type 0 where
  pub once : (to : ℕ → ℕ → ℕ) → Inward to → Expands to
  pub ring : Expands ring_to
  pub gears : Expands gear_to
  -- "each vertex leads to the next and the last to the first"; "only to itself"
  pub next : (n i : ℕ) → suc i < n → ring_to n i ≡ suc i
  pub first : (n : ℕ) → ring_to (suc n) n ≡ 0
  pub itself : (n i : ℕ) → gear_to n i ≡ i

-- ---- texts with rings and gear tables

-- how a task is described
pub data Form : Type 0 where
  plain : Task → Form
  ring : List Link → Form
  gears : List Link → Form

abbrev pub task_of : Form → Task
task_of (plain k) = k
task_of (ring xs) = stands_for ring_to xs
task_of (gears xs) = stands_for gear_to xs

abbrev pub frame_of_link : Link → List ℕ
frame_of_link x = 6 ∷ in_two x.e ++ in_two x.d ++ in_two x.p

abbrev pub frames_of_form : Form → List (List ℕ)
frames_of_form (plain k) = frames_of_task k
frames_of_form (ring xs) = (5 ∷ length xs ∷ []) ∷ map frame_of_link xs
frames_of_form (gears xs) = (7 ∷ length xs ∷ []) ∷ map frame_of_link xs

abbrev pub frames_of_forms : List Form → List (List ℕ)
frames_of_forms fs = gather frames_of_form fs ++ (frame_of_end ∷ [])

abbrev pub text_of_forms : List Form → List ℕ
text_of_forms fs = gather line (frames_of_forms fs)

-- ---- texts without them

-- a frame, if there is one, of none of the kinds 05 to 07
abbrev pub PlainFrame : Option (List ℕ) → Type 0
PlainFrame none = Unit {0}
PlainFrame (some f) = within 5 7 (get_or f 0 0) ≡ false

-- "those without 05 to 07"
abbrev pub Plain : List ℕ → Type 0
Plain text = (l : Line) → Memᴰ l (lines_of text) → PlainFrame (frame_of l)
