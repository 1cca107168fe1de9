-- How many bytes a line has, and the text of a table.
use mathlib.Core.Path.{◌≡◌, refl, ap, ap₂, ◌∙◌}
use Prim.Native.Nat.{ℕ, suc, ◌+◌, ◌*◌}
use native.Mathlib.Omega.{arith}
use mathlib.Core.Bool.{Bool, true, false}
use mathlib.Core.List.{List, [], ◌∷◌, ◌++◌, map}
use lib.ListN.{length, length-append}
use lib.Dec.{eqb}
use Rattle.meaning.specs.Lists.{pick, gather, sum}
use Rattle.meaning.specs.Bounds.{line_length}
use Rattle.meaning.specs.Table.{Vertex, Edge, Task, Table}
use Rattle.meaning.specs.Text.{digits, line}
use Rattle.meaning.specs.Texts.{task_line, vertex_line, edge_line, task_length, text_length}
use Rattle.meaning.specs.Writing.{in_two, frame_of_task, frame_of_vertex, frame_of_edge, frame_of_end, frames_of_task, text_of}
use Rattle.meaning.proofs.Lists.{gather_append}

-- ---- a line

pub digits-length : (xs : List ℕ) → length (gather digits xs) ≡ 2 * length xs
digits-length [] = refl
digits-length (x ∷ xs) = omega (arith, digits-length xs)

pub line-length : (f : List ℕ) → length (line f) ≡ line_length (length f)
line-length f = rw length-append (omega (arith, digits-length f))

-- ---- a task's lines

-- 01 or 04
pub task-line : (m v e : ℕ) → length (line (frame_of_task m v e)) ≡ task_line m
task-line m v e = line-length (frame_of_task m v e) ∙ go (eqb m 0)
  where
    go : (b : Bool) → line_length (length (pick b (1 ∷ v ∷ e ∷ []) (4 ∷ v ∷ e ∷ in_two m))) ≡ pick b (line_length 3) (line_length 5)
    go true = refl
    go false = refl

-- frames of n bytes each
pub lines_size : {X : Type 0} (n : ℕ) (f : X → List ℕ) → ((x : X) → length (f x) ≡ n)
    → (xs : List X) → length (gather line (map f xs)) ≡ line_length n * length xs
lines_size n f h [] = omega arith
lines_size n f h (x ∷ xs) =
    let o : line_length n * suc (length xs) ≡ line_length n + line_length n * length xs = omega arith in
    length-append (line (f x)) (gather line (map f xs)) ∙ omega (arith, line-length (f x), h x, o, lines_size n f h xs)

pub vertices-size : (xs : List Vertex) → length (gather line (map frame_of_vertex xs)) ≡ vertex_line * length xs
vertices-size xs = lines_size 5 frame_of_vertex (λ x. refl) xs

pub edges_size : (xs : List Edge) → length (gather line (map frame_of_edge xs)) ≡ edge_line * length xs
edges_size xs = lines_size 5 frame_of_edge (λ x. refl) xs

pub task-size : (k : Task) → length (gather line (frames_of_task k)) ≡ task_length k
task-size k =
    let head = frame_of_task k.m (length k.vertices) (length k.edges) in
    let vertices = map frame_of_vertex k.vertices in
    let edges = map frame_of_edge k.edges in
    length-append (line head) (gather line (vertices ++ edges))
    ∙ ap (λ (l : List ℕ). length (line head) + length l) (gather_append line vertices edges)
    ∙ ap (λ (n : ℕ). length (line head) + n) (length-append (gather line vertices) (gather line edges))
    ∙ omega (arith, task-line k.m (length k.vertices) (length k.edges), vertices-size k.vertices, edges_size k.edges)

-- ---- a table's

pub tasks_size : (ts : Table) → length (gather line (gather frames_of_task ts)) ≡ sum (map task_length ts)
tasks_size [] = refl
tasks_size (k ∷ ks) =
    ap length (gather_append line (frames_of_task k) (gather frames_of_task ks))
    ∙ length-append (gather line (frames_of_task k)) (gather line (gather frames_of_task ks))
    ∙ ap₂ (λ (a b : ℕ). a + b) (task-size k) (tasks_size ks)

pub text_size : (ts : Table) → length (text_of ts) ≡ text_length ts
unfolding text_of
text_size ts =
    ap length (gather_append line (gather frames_of_task ts) (frame_of_end ∷ []))
    ∙ length-append (gather line (gather frames_of_task ts)) (gather line (frame_of_end ∷ []))
    ∙ omega (arith, tasks_size ts)
