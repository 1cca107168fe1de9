-- A record stands for the table that it is the record of.
use mathlib.Core.Path.{◌≡◌, refl, sym, ap, ap₂, ◌∙◌}
use Prim.Native.Nat.{ℕ, ◌+◌, ◌-◌, ◌<◌, suc, ◌≤◌}
use mathlib.Core.List.{List, [], ◌∷◌, ◌++◌, map, append_assoc}
use native.Mathlib.Omega.{arith}
use lib.ListN.{length-append, length-replicate, length-map, length, take, set, replicate, get_or, get_or-append}
use lib.Seq.{take_at, set-append_seam}
use Rattle.meaning.specs.Lists.{below}
use Rattle.meaning.specs.Bounds.{most_tasks, most_vertices, most_edges}
use Rattle.meaning.specs.Table as Meant
use Rattle.meaning.proofs.Lists.{cells_front}
use Rattle.table.specs.Record.{padded, no_task, no_vertex, no_edge, vertex_record, edge_record, task_record, table_record, vertex_of, edge_of}
use Rattle.table.specs.Record.{vertices_held, edges_held, task_held, blank_task, table_held}
use Rattle.table.specs.Inner.{task_of, table_of}

-- the front of a padded list, and an element of it
pub take-padded : {X : Type 0} (n : ℕ) (z : X) (xs : List X) → take (length xs) (padded n z xs) ≡ xs
unfolding padded
take-padded n z xs = take_at xs (replicate (n - length xs) z) (length xs) refl

pub get_or-padded : {X : Type 0} (n : ℕ) (z w : X) (xs : List X) (i : ℕ) → i < length xs → get_or (padded n z xs) i w ≡ get_or xs i w
unfolding padded
get_or-padded n z w xs i h = get_or-append xs (replicate (n - length xs) z) w i h

pub length-padded : {X : Type 0} (n : ℕ) (z : X) (xs : List X) → length xs ≤ n → length (padded n z xs) ≡ n
unfolding padded
length-padded n z xs h = omega (arith, length-append xs (replicate (n - length xs) z), length-replicate (n - length xs) z)

-- one more, at the first free place
pub padded_more : {X : Type 0} (n : ℕ) (z : X) (xs : List X) (x : X) → length xs < n → set (padded n z xs) (length xs) x ≡ padded n z (xs ++ (x ∷ []))
unfolding padded
padded_more n z xs x h =
    let e : n - length xs ≡ suc (n - (length xs + 1)) = omega arith in
    rw (e, set-append_seam, length-append, append_assoc)

-- what f makes of each element, undone by g
undone : {X Y : Type 0} (f : X → Y) (g : Y → X) → ((x : X) → g (f x) ≡ x) → (xs : List X) → map g (map f xs) ≡ xs
undone f g h [] = refl
undone {X} f g h (x ∷ xs) = ap₂ {C = List X} (λ (y : X) (ys : List X). y ∷ ys) (h x) (undone f g h xs)

unpadded : {X Y : Type 0} (f : X → Y) (g : Y → X) → ((x : X) → g (f x) ≡ x)
    → (n : ℕ) (z : Y) (xs : List X) → map g (take (length xs) (padded n z (map f xs))) ≡ xs
unpadded {X} {Y} f g h n z xs = ap (λ (k : ℕ). map g (take k (padded n z (map f xs)))) (same xs) ∙ ap (map g) (take-padded n z (map f xs)) ∙ undone f g h xs
  where
    same : (ys : List X) → length ys ≡ length (map f ys)
    same [] = refl
    same (y ∷ ys) = ap suc (same ys)

pub task-of_record : (k : Meant.Task) → task_of (task_record k) ≡ k
task-of_record k =
    ap₂ (Meant.task k.m)
    (unpadded vertex_record vertex_of (λ x. refl) most_vertices no_vertex k.vertices) (unpadded edge_record edge_of (λ x. refl) most_edges no_edge k.edges)

pub table_of_record : (ts : Meant.Table) → table_of (table_record ts) ≡ ts
table_of_record ts = unpadded task_record task_of task-of_record most_tasks no_task ts

-- and the table that it holds, as its counts say, is that one too
held_cells : {X Y : Type 0} (f : X → Y) (g : Y → X) → ((x : X) → g (f x) ≡ x)
    → (n : ℕ) (z w : Y) (xs : List X) → map (λ (i : ℕ). g (get_or (padded n z (map f xs)) i w)) (below (length xs)) ≡ xs
unfolding padded
held_cells f g h n z w xs =
    ap (λ (k : ℕ). map (λ (i : ℕ). g (get_or (map f xs ++ replicate (n - length (map f xs)) z) i w)) (below k)) (sym (length-map xs f))
    ∙ cells_front g w (map f xs) (replicate (n - length (map f xs)) z)
    ∙ undone f g h xs

pub task-held_record : (k : Meant.Task) → task_held (task_record k) ≡ k
unfolding task_held vertices_held edges_held
task-held_record k =
    ap₂ (Meant.task k.m)
    (held_cells vertex_record vertex_of (λ x. refl) most_vertices no_vertex no_vertex k.vertices)
    (held_cells edge_record edge_of (λ x. refl) most_edges no_edge no_edge k.edges)

pub table_held_record : (ts : Meant.Table) → table_held (table_record ts) ≡ ts
unfolding table_held
table_held_record ts = held_cells task_record task_held task-held_record most_tasks no_task blank_task ts
