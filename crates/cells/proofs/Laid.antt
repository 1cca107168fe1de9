-- Any table is read from its cells, and a list whose table is sound is just that table's cells. Both are told of the list from a place on.
use mathlib.Core.Path.{◌≡◌, refl, sym, ap, ap₂, subst, ◌∙◌}
use Prim.Native.Nat.{ℕ, zero, suc, ◌+◌, ◌*◌, ◌≤◌, ◌<◌}
use native.Mathlib.Nat.{add-zero, mul-zero, mul-suc}
use native.Mathlib.Numerals.{add-one, add-two, add-three}
use native.Mathlib.Omega.{arith}
use mathlib.Core.Bool.{Bool, true, false}
use mathlib.Core.List.Memᴰ
use mathlib.Core.List.{List, [], ◌∷◌, ◌++◌, map, append_assoc, Memᴰ}
use lib.ListN.{length, get_or, drop, length-append, length-drop, drop_of_length-le}
use lib.Seq.{drop-cons, drop-drop, drop-append_seam, get_or-drop}
use lib.Dec.{ltb}
use borrow.Author.Tests.{ltb-true, ltb-false, lt-ltb, le-ltb}
use Rattle.meaning.specs.Lists.{gather, count_from, below}
use Rattle.meaning.specs.Table.{Vertex, Edge, Task, Table, vertex, edge, task}
use Rattle.meaning.specs.Sound.{SoundTask, AllSound}
use Rattle.meaning.proofs.Lists.{mem_count_from, count_length_lem}
use Rattle.cells.specs.Cells.{cell_at, vertices_from, edges_from, task_from, cells_taken, tasks_from, cells_table}
use Rattle.cells.specs.Laid.{cells_of_task, cells_of_table, Laid}

-- ---- places

-- a cell, by the list from a place on
cell_from : (cs ds : List ℕ) (at i : ℕ) → drop at cs ≡ ds → cell_at cs (at + i) ≡ get_or ds i 0
cell_from cs ds at i e = sym (get_or-drop at cs i 0) ∙ ap (λ (l : List ℕ). get_or l i 0) e

cell-first : (cs ds : List ℕ) (at : ℕ) → drop at cs ≡ ds → cell_at cs at ≡ get_or ds 0 0
cell-first cs ds at e = ap (λ (i : ℕ). cell_at cs i) (sym (add-zero at)) ∙ cell_from cs ds at 0 e

-- a cell that isn't 0 is in the list
cell_there : (cs : List ℕ) (i : ℕ) → 1 ≤ cell_at cs i → i < length cs
cell_there [] i h = absurd (omega arith)
cell_there (c ∷ cs) zero h = omega arith
cell_there (c ∷ cs) (suc i) h = omega (arith, cell_there cs i h)

-- the list from behind a front xs on
drop-behind : (cs xs ys : List ℕ) (at n : ℕ) → length xs ≡ n → drop at cs ≡ xs ++ ys → drop (at + n) cs ≡ ys
drop-behind cs xs ys at n e h = sym (drop-drop n at cs) ∙ rw (h, ← e) (drop-append_seam xs ys)

drop-two : (cs : List ℕ) (at : ℕ) → at + 2 ≤ length cs → drop at cs ≡ cell_at cs at ∷ cell_at cs (at + 1) ∷ drop (at + 2) cs
drop-two cs at h =
    rw (add-one at, add-two at)
    (drop-cons cs at 0 (omega arith) ∙ ap (λ (l : List ℕ). cell_at cs at ∷ l) (drop-cons cs (suc at) 0 (omega arith)))

drop-three : (cs : List ℕ) (at : ℕ) → at + 3 ≤ length cs
    → drop at cs ≡ cell_at cs at ∷ cell_at cs (at + 1) ∷ cell_at cs (at + 2) ∷ drop (at + 3) cs
drop-three cs at h =
    drop-two cs at (omega arith)
    ∙ rw (add-three at, add-two at) (ap (λ (l : List ℕ). cell_at cs at ∷ cell_at cs (at + 1) ∷ l) (drop-cons cs (suc (suc at)) 0 (omega arith)))

-- what f gives at each number, from the second on
map-shift : {Y : Type 0} (f g : ℕ → Y) → ((i : ℕ) → f (suc i) ≡ g i) → (k n : ℕ) → map f (count_from (suc k) n) ≡ map g (count_from k n)
map-shift f g h k zero = refl
map-shift {Y} f g h k (suc n) = ap₂ (λ (y : Y) (ys : List Y). y ∷ ys) (h k) (map-shift f g h (suc k) n)

-- ---- n items of w cells each, one after the other: a task's vertices, its edges

module _ {X : Type 0} (w : ℕ) (get : List ℕ → ℕ → X) where
  abbrev items : List ℕ → ℕ → ℕ → List X
  items cs at n = map (λ (i : ℕ). get cs (at + w * i)) (below n)

  items_more : (cs : List ℕ) (at n : ℕ) → items cs at (suc n) ≡ get cs at ∷ items cs (at + w) n
  items_more cs at n =
      ap₂ (λ (x : X) (xs : List X). x ∷ xs) (rw (mul-zero w, add-zero at))
      (map-shift (λ (i : ℕ). get cs (at + w * i)) (λ (i : ℕ). get cs (at + w + w * i)) (λ i. ap (get cs) (omega (arith, mul-suc w i))) 0 n)

  items_mem : (cs : List ℕ) (at n i : ℕ) → i < n → Memᴰ (get cs (at + w * i)) (items cs at n)
  items_mem cs at n i h = Memᴰ.map (λ (j : ℕ). get cs (at + w * j)) (mem_count_from 0 n i (omega arith) (omega arith))

  module _ (put : X → List ℕ) (wide : (x : X) → length (put x) ≡ w) where
    put-length : (xs : List X) → length (gather put xs) ≡ w * length xs
    put-length [] = sym (mul-zero w)
    put-length (x ∷ xs) = omega (arith, length-append (put x) (gather put xs), wide x, put-length xs, mul-suc w (length xs))

    -- items are read from their cells
    items_read : ((cs ys : List ℕ) (at : ℕ) (x : X) → drop at cs ≡ put x ++ ys → get cs at ≡ x) → (xs : List X) (cs ys : List ℕ) (at : ℕ)
        → drop at cs ≡ gather put xs ++ ys → items cs at (length xs) ≡ xs
    items_read got [] cs ys at h = refl
    items_read got (x ∷ xs) cs ys at h =
        let front : drop at cs ≡ put x ++ (gather put xs ++ ys) = h ∙ append_assoc (put x) (gather put xs) ys in
        items_more cs at (length xs)
        ∙ ap₂ (λ (z : X) (zs : List X). z ∷ zs) (got cs (gather put xs ++ ys) at x front)
        (items_read got xs cs ys (at + w) (drop-behind cs (put x) (gather put xs ++ ys) at w (wide x) front))

    -- and cells that are all in the list are those of their items
    items_back : ((cs : List ℕ) (at : ℕ) → at + w ≤ length cs → drop at cs ≡ put (get cs at) ++ drop (at + w) cs) → (n : ℕ) (cs : List ℕ) (at : ℕ)
        → at + w * n ≤ length cs → drop at cs ≡ gather put (items cs at n) ++ drop (at + w * n) cs
    items_back back zero cs at h = rw (mul-zero w, add-zero at)
    items_back back (suc n) cs at h =
        let more : at + w * suc n ≡ at + w + w * n = omega (arith, mul-suc w n) in
        back cs at (omega arith)
        ∙ ap (λ (l : List ℕ). put (get cs at) ++ l) (items_back back n cs (at + w) (omega arith))
        ∙ sym (append_assoc (put (get cs at)) (gather put (items cs (at + w) n)) (drop (at + w + w * n) cs))
        ∙ ap₂ (λ (xs : List X) (i : ℕ). gather put xs ++ drop i cs) (sym (items_more cs at n)) (sym more)

-- ---- vertices and edges from their cells

abbrev vertex_here : List ℕ → ℕ → Vertex
vertex_here cs at = vertex (cell_at cs at) (cell_at cs (at + 1))

abbrev vertex_cells : Vertex → List ℕ
vertex_cells x = x.e ∷ x.d ∷ []

vertex-read : (cs ys : List ℕ) (at : ℕ) (x : Vertex) → drop at cs ≡ vertex_cells x ++ ys → vertex_here cs at ≡ x
vertex-read cs ys at x h = ap₂ vertex (cell-first cs (vertex_cells x ++ ys) at h) (cell_from cs (vertex_cells x ++ ys) at 1 h)

vertices-read : (xs : List Vertex) (cs ys : List ℕ) (at : ℕ) → drop at cs ≡ gather vertex_cells xs ++ ys → vertices_from cs at (length xs) ≡ xs
vertices-read xs cs ys at h = items_read 2 vertex_here vertex_cells (λ x. refl) vertex-read xs cs ys at h

abbrev edge_here : List ℕ → ℕ → Edge
edge_here cs at = edge (cell_at cs at) (cell_at cs (at + 1)) (cell_at cs (at + 2))

abbrev edge_cells : Edge → List ℕ
edge_cells x = x.from ∷ x.to ∷ x.p ∷ []

edge-read : (cs ys : List ℕ) (at : ℕ) (x : Edge) → drop at cs ≡ edge_cells x ++ ys → edge_here cs at ≡ x
edge-read cs ys at x h =
    let from = cell-first cs (edge_cells x ++ ys) at h in
    let to = cell_from cs (edge_cells x ++ ys) at 1 h in
    let p = cell_from cs (edge_cells x ++ ys) at 2 h in
    rw (from, to, p)

edges_read : (xs : List Edge) (cs ys : List ℕ) (at : ℕ) → drop at cs ≡ gather edge_cells xs ++ ys → edges_from cs at (length xs) ≡ xs
edges_read xs cs ys at h = items_read 3 edge_here edge_cells (λ x. refl) edge-read xs cs ys at h

-- ---- a task from its cells

abbrev next_task : List ℕ → ℕ → ℕ
next_task cs at = at + cells_taken (cell_at cs at) (cell_at cs (at + 1))

-- its own three, then the rest
abbrev own_cells : Task → List ℕ
own_cells k = length k.vertices ∷ length k.edges ∷ k.m ∷ []

task-length : (k : Task) → length (cells_of_task k) ≡ cells_taken (length k.vertices) (length k.edges)
task-length k =
    let parts = length-append (gather vertex_cells k.vertices) (gather edge_cells k.edges) in
    let vs = put-length 2 vertex_here vertex_cells (λ x. refl) k.vertices in
    let es = put-length 3 edge_here edge_cells (λ x. refl) k.edges in
    omega arith

module _ (cs ys : List ℕ) (at : ℕ) (k : Task) (h : drop at cs ≡ cells_of_task k ++ ys) where
  vertices_are : cell_at cs at ≡ length k.vertices
  vertices_are = cell-first cs (cells_of_task k ++ ys) at h

  edges_are : cell_at cs (at + 1) ≡ length k.edges
  edges_are = cell_from cs (cells_of_task k ++ ys) at 1 h

  task-read : task_from cs at ≡ k
  task-read =
      let m : cell_at cs (at + 2) ≡ k.m = cell_from cs (cells_of_task k ++ ys) at 2 h in
      let vs = gather vertex_cells k.vertices in
      let es = gather edge_cells k.edges in
      let own : drop (at + 3) cs ≡ vs ++ (es ++ ys)
      = drop-behind cs (own_cells k) (vs ++ (es ++ ys)) at 3 refl (h ∙ ap (λ (l : List ℕ). own_cells k ++ l) (append_assoc vs es ys)) in
      let past : drop (at + 3 + 2 * length k.vertices) cs ≡ es ++ ys
      = drop-behind cs vs (es ++ ys) (at + 3) (2 * length k.vertices) (put-length 2 vertex_here vertex_cells (λ x. refl) k.vertices) own in
      rw (vertices_are, edges_are, m)
      (ap₂ (task k.m) (vertices-read k.vertices cs (es ++ ys) (at + 3) own)
      (edges_read k.edges cs ys (at + 3 + 2 * length k.vertices) past))

  task-behind : drop (next_task cs at) cs ≡ ys
  task-behind = rw (vertices_are, edges_are) (drop-behind cs (cells_of_task k) ys at _ (task-length k) h)

-- ---- the tasks from their cells

tasks_on_lem : (n : ℕ) (cs : List ℕ) (at : ℕ) → at < length cs
    → tasks_from (suc n) cs at ≡ task_from cs at ∷ tasks_from n cs (next_task cs at)
tasks_on_lem n cs at h = rw (lt-ltb at (length cs) h, tasks_from)

tasks_over : (n : ℕ) (cs : List ℕ) (at : ℕ) → length cs ≤ at → tasks_from n cs at ≡ []
tasks_over zero cs at h = refl
tasks_over (suc n) cs at h = rw (le-ltb at (length cs) h, tasks_from)

tasks_read : (ts : Table) (n : ℕ) (cs : List ℕ) (at : ℕ) → length ts ≤ n → drop at cs ≡ cells_of_table ts → tasks_from n cs at ≡ ts
tasks_read [] n cs at l h = tasks_over n cs at (omega (arith, length-drop at cs, ap length h))
tasks_read (k ∷ ks) zero cs at l h = absurd (omega arith)
tasks_read (k ∷ ks) (suc n) cs at l h =
    tasks_on_lem n cs at (omega (arith, length-drop at cs, ap length h))
    ∙ ap₂ (λ (x : Task) (xs : Table). x ∷ xs) (task-read cs (cells_of_table ks) at k h)
    (tasks_read ks n cs (next_task cs at) (omega arith) (task-behind cs (cells_of_table ks) at k h))

-- no task without a cell
tasks_few : (ts : Table) → length ts ≤ length (cells_of_table ts)
tasks_few [] = omega arith
tasks_few (k ∷ ks) = omega (arith, length-append (cells_of_task k) (cells_of_table ks), tasks_few ks)

-- ---- the cells of a sound task are all in the list

-- its last cell is a p or, where it has no edge, a d
parts_there : (cs : List ℕ) (at v n : ℕ) → 1 ≤ v → ((x : Vertex) → Memᴰ x (vertices_from cs at v) → 1 ≤ x.d)
    → ((x : Edge) → Memᴰ x (edges_from cs (at + 2 * v) n) → 1 ≤ x.p) → at + 2 * v + 3 * n ≤ length cs
parts_there cs at zero n a ds ps = absurd (omega arith)
parts_there cs at (suc v) zero a ds ps =
    omega (arith, cell_there cs (at + 2 * v + 1) (ds (vertex_here cs (at + 2 * v)) (items_mem 2 vertex_here cs at (suc v) v (omega arith))))
parts_there cs at (suc v) (suc n) a ds ps =
    let from = at + 2 * suc v in
    omega (arith, cell_there cs (from + 3 * n + 2) (ps (edge_here cs (from + 3 * n)) (items_mem 3 edge_here cs from (suc n) n (omega arith))))

module _ (cs : List ℕ) (at : ℕ) where
  vertices_counted : length (task_from cs at).vertices ≡ cell_at cs at
  vertices_counted = count_length_lem (λ (i : ℕ). vertex_here cs (at + 3 + 2 * i)) 0 (cell_at cs at)

  edges_counted : length (task_from cs at).edges ≡ cell_at cs (at + 1)
  edges_counted = count_length_lem (λ (i : ℕ). edge_here cs (at + 3 + 2 * cell_at cs at + 3 * i)) 0 (cell_at cs (at + 1))

  task_there : SoundTask (task_from cs at) → at + 3 + 2 * cell_at cs at + 3 * cell_at cs (at + 1) ≤ length cs
  task_there s =
      parts_there cs (at + 3) (cell_at cs at) (cell_at cs (at + 1)) (omega (arith, s.some_vertex, vertices_counted)) (λ x m. (s.each_vertex x m).some_d)
      (λ x m. (s.each_edge x m).some_p)

  task_back : SoundTask (task_from cs at) → cells_of_task (task_from cs at) ++ drop (next_task cs at) cs ≡ drop at cs
  task_back s =
      let v = cell_at cs at in
      let n = cell_at cs (at + 1) in
      let end : at + 3 + 2 * v + 3 * n ≤ length cs = task_there s in
      let past : next_task cs at ≡ at + 3 + 2 * v + 3 * n = omega arith in
      let vs = gather vertex_cells (vertices_from cs (at + 3) v) in
      let es = gather edge_cells (edges_from cs (at + 3 + 2 * v) n) in
      let behind = drop (at + 3 + 2 * v + 3 * n) cs in
      let fromEdges : drop (at + 3 + 2 * v) cs ≡ es ++ behind
      = items_back 3 edge_here edge_cells (λ x. refl) drop-three n cs (at + 3 + 2 * v) end in
      let fromVertices : drop (at + 3) cs ≡ vs ++ es ++ behind
      = items_back 2 vertex_here vertex_cells (λ x. refl) drop-two v cs (at + 3) (omega arith)
      ∙ ap (λ (l : List ℕ). vs ++ l) fromEdges ∙ sym (append_assoc vs es behind) in
      ap₂ (λ (a b : ℕ). a ∷ b ∷ cell_at cs (at + 2) ∷ (vs ++ es ++ drop (next_task cs at) cs)) vertices_counted edges_counted
      ∙ ap (λ (i : ℕ). v ∷ n ∷ cell_at cs (at + 2) ∷ (vs ++ es ++ drop i cs)) past
      ∙ ap (λ (l : List ℕ). v ∷ n ∷ cell_at cs (at + 2) ∷ l) (sym fromVertices)
      ∙ sym (drop-three cs at (omega arith))

-- with n the cells from there on or more
tasks_back : (n : ℕ) (cs : List ℕ) (at : ℕ) → length cs ≤ at + n → AllSound (tasks_from n cs at) → cells_of_table (tasks_from n cs at) ≡ drop at cs
tasks_back zero cs at l s = sym (drop_of_length-le cs {i = at} (omega arith))
tasks_back (suc n) cs at l s = go (ltb at (length cs)) refl (λ j. tasks_back n cs j)
  where
    go : (b : Bool) → ltb at (length cs) ≡ b
        → ((j : ℕ) → length cs ≤ j + n → AllSound (tasks_from n cs j) → cells_of_table (tasks_from n cs j) ≡ drop j cs)
        → cells_of_table (tasks_from (suc n) cs at) ≡ drop at cs
    go true e ih =
        let on = tasks_on_lem n cs at (ltb-true at (length cs) e) in
        let sound : AllSound (task_from cs at ∷ tasks_from n cs (next_task cs at)) = subst AllSound on s in
        ap cells_of_table on
        ∙ ap (λ (l : List ℕ). cells_of_task (task_from cs at) ++ l) (ih (next_task cs at) (omega arith) (λ k m. sound k (Memᴰ.tail m)))
        ∙ task_back cs at (sound (task_from cs at) (Memᴰ.head refl))
    go false e ih =
        let over : length cs ≤ at = ltb-false at (length cs) e in
        ap cells_of_table (tasks_over (suc n) cs at over) ∙ sym (drop_of_length-le cs {i = at} over)

pub laid : Laid
unfolding cells_table
laid = record {
  any = λ ts. tasks_read ts (length (cells_of_table ts)) (cells_of_table ts) 0 (tasks_few ts) refl;
  exactly = λ cs s. tasks_back (length cs) cs 0 (omega arith) s.each_task;
}
