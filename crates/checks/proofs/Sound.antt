-- A table keeps every rule exactly if it is sound; where one is broken, it is by one of rows 2 to 5 or by 13.
use mathlib.Core.Path.{◌≡◌, refl, sym, ap, ap₂, subst, ◌∙◌}
use Prim.Native.Nat.{ℕ, zero, suc, ◌+◌, ◌≤◌, ◌<◌}
use native.Mathlib.Omega.{arith}
use mathlib.Core.Bool.{Bool, true, false}
use mathlib.Core.Logic.{inl, inr}
use mathlib.Core.Option.{some}
use mathlib.Core.List.{List, [], ◌∷◌, ◌++◌, map, Memᴰ}
use lib.ListN.{length, get_or, take, drop, length-append, length-map}
use lib.Seq.{drop-cons}
use lib.Dec.{leb, eqb}
use borrow.Author.Tests.{le-leb, lt-leb, lt-ltb, ne_eqb}
use Rattle.meaning.specs.Lists.{pick, gather, Rising}
use Rattle.meaning.specs.Bounds.{most_tasks, most_vertices, most_edges, largest_e, largest_d, largest_p, largest_m}
use Rattle.meaning.specs.Table.{Vertex, Edge, Task, Table, no_vertex, no_task, vertex_at, task_at, largest_e_in}
use Rattle.meaning.specs.Text.{nothing, readable, unreadable}
use Rattle.meaning.specs.Texts.{last_line}
use Rattle.meaning.specs.Slips.{LineRow, TooLong}
use Rattle.meaning.specs.Sound.{SoundVertex, SoundEdge, EdgeBefore, SoundTask, AllSound, SoundTable}
use Rattle.meaning.specs.Writing.{frame_of_vertex, frame_of_edge, frames_of_task, frames_of, ruled}
use Rattle.meaning.proofs.FramesKeep.{within_true}
use Rattle.meaning.proofs.Readable.{InText, Good, frames_good}
use Rattle.meaning.proofs.FaultyLine.{frame_line}
use Rattle.kinds.specs.declared.Refusal.{Refusal}
use Rattle.kinds.specs.declared.Refusal.TheVariants.{WrongFrame, OutOfBounds, DeadlineOverSeparation, EdgeNotAfter, JobOverDeadline}
use Rattle.kinds.specs.Numbers.{refusal_number}
use Rattle.rules.specs.Rules.{task_in, vertex_in, edge_in, job_in_time, edge_spaced, edge_place, edge_after, least_after}
use Rattle.meaning.proofs.Lists.{is_true, is_false}
use Rattle.rules.proofs.Within.{task_bounds}
use Rattle.std.specs.Prelude.{Ok, Err}
use Rattle.checks.specs.Checks.{Check, kept, broken_by, and_then, vertex_check, vertices_check, mask_check, edge_check, edges_check, own_check, task_check, lines_of_task}
use Rattle.checks.specs.Checks.{ninth_check, table_check}
use Rattle.checks.proofs.Ruled.{unless, ruled_is}

-- ---- sound, so no rule is broken

vertex-kept : (n : ℕ) (x : Vertex) → SoundVertex x → vertex_check n x ≡ kept
unfolding vertex_check vertex_in
vertex-kept n x s =
    rw (
      within_true 1 largest_e x.e s.some_e s.most_e,
      within_true 1 largest_d x.d s.some_d s.most_d,
      le-leb x.e x.d s.in_time,
    )

vertices-kept : (n : ℕ) (xs : List Vertex) → ((x : Vertex) → Memᴰ x xs → SoundVertex x) → vertices_check n xs ≡ kept
vertices-kept n [] h = refl
vertices-kept n (x ∷ xs) h =
    rw (vertex-kept n x (h x (Memᴰ.head refl))) (vertices-kept (suc n) xs (λ y m. h y (Memᴰ.tail m)))

module _ (vs : List Vertex) (room : length vs ≤ most_vertices) where
  edge_kept : (least n : ℕ) (x : Edge) → SoundEdge vs x → least ≤ edge_place x.from x.to → edge_check vs least n x ≡ kept
  unfolding edge_check edge_in
  edge_kept least n x s h =
      rw (
        lt-ltb x.from (length vs) s.from_in,
        lt-ltb x.to (length vs) s.to_in,
        within_true 1 largest_p x.p s.some_p s.most_p,
        le-leb (get_or vs x.from no_vertex).d x.p s.spaced,
        le-leb least (edge_place x.from x.to) h,
      )

  place_before : (x y : Edge) → SoundEdge vs x → EdgeBefore x y → least_after x.from x.to ≤ edge_place y.from y.to
  place_before x y s (inl a) = omega (arith, s.to_in)
  place_before x y s (inr a) = omega (arith, a.0, a.1)

  edges_kept : (least n : ℕ) (xs : List Edge) → ((x : Edge) → Memᴰ x xs → SoundEdge vs x) → Rising EdgeBefore xs
      → ((x : Edge) → Memᴰ x xs → least ≤ edge_place x.from x.to) → edges_check vs least n xs ≡ kept
  edges_kept least n [] s r h = refl
  edges_kept least n (x ∷ xs) s r h =
      let m : SoundEdge vs x = s x (Memᴰ.head refl) in
      rw (edge_kept least n x m (h x (Memᴰ.head refl)))
      (edges_kept (least_after x.from x.to) (suc n) xs (λ y k. s y (Memᴰ.tail k)) r.1 (λ y k. place_before x y m (r.0 y k)))

own_kept : (n : ℕ) (k : Task) → 1 ≤ length k.vertices → length k.vertices ≤ most_vertices → length k.edges ≤ most_edges → k.m ≤ largest_m
    → own_check n k ≡ kept
unfolding own_check task_in
own_kept n k a b c d =
    rw (
      within_true 1 most_vertices (length k.vertices) a b,
      le-leb (length k.edges) most_edges c,
      within_true 0 largest_m k.m (omega arith) d,
    )

pub task-kept : (n : ℕ) (k : Task) → SoundTask k → task_check n k ≡ kept
unfolding task_check mask_check
task-kept n k s =
    rw (
      own_kept n k s.some_vertex s.vertex_count s.edge_count s.most_m,
      vertices-kept (n + 1) k.vertices s.each_vertex,
      le-leb k.m (largest_e_in k.vertices) s.covered,
    )
    (edges_kept k.vertices s.vertex_count 0 (n + length k.vertices + 1) k.edges s.each_edge s.rising (λ x m. omega arith))

tasks_kept : (i n : ℕ) (ks : Table) → AllSound ks → 1 ≤ i + length ks → i + length ks ≤ most_tasks → table_check i n ks ≡ kept
unfolding table_check
tasks_kept i n [] s a b = rw (ne_eqb i 0 (λ e. omega arith))
tasks_kept i n (k ∷ ks) s a b =
    rw (lt-leb most_tasks i (omega arith), task-kept n k (s k (Memᴰ.head refl)))
    (tasks_kept (i + 1) (n + lines_of_task k) ks (λ x m. s x (Memᴰ.tail m)) (omega arith) (omega arith))

pub sound_kept : (ts : Table) → SoundTable ts → table_check 0 1 ts ≡ kept
sound_kept ts s = tasks_kept 0 1 ts s.each_task (omega (arith, s.some_task)) (omega (arith, s.task_count))

pub sound_ruled : (ts : Table) → SoundTable ts → ruled ts ≡ readable ts
sound_ruled ts s = ruled_is ts ∙ rw (sound_kept ts s)

-- ---- the first task that breaks a rule, behind those that keep them

pub task-frames : (k : Task) → length (frames_of_task k) ≡ lines_of_task k
task-frames k =
    let parts = length-append (map frame_of_vertex k.vertices) (map frame_of_edge k.edges) in
    omega (arith, parts, length-map k.vertices frame_of_vertex, length-map k.edges frame_of_edge)

-- behind j sound tasks, at the line behind their frames
sound_prefix : (j i n : ℕ) (ks : Table) → j ≤ length ks → i + j ≤ most_tasks → AllSound (take j ks)
    → table_check i n ks ≡ table_check (i + j) (n + length (gather frames_of_task (take j ks))) (drop j ks)
unfolding table_check
sound_prefix zero i n ks a b s =
    let x : i + 0 ≡ i = omega arith in
    let y : n + 0 ≡ n = omega arith in
    rw (x, y)
sound_prefix (suc j) i n [] a b s = absurd (omega arith)
sound_prefix (suc j) i n (k ∷ ks) a b s =
    let rest = gather frames_of_task (take j ks) in
    let place : i + 1 + j ≡ i + suc j = omega arith in
    let line : n + lines_of_task k + length rest ≡ n + length (frames_of_task k ++ rest) = omega (arith, length-append (frames_of_task k) rest, task-frames k) in
    rw (lt-leb most_tasks i (omega arith), task-kept n k (s k (Memᴰ.head refl)))
    (sound_prefix j (i + 1) (n + lines_of_task k) ks (omega arith) (omega arith) (λ x m. s x (Memᴰ.tail m))
    ∙ ap₂ (λ (x y : ℕ). table_check x y (drop j ks)) place line)

-- the line of task i
abbrev line_of : Table → ℕ → ℕ
line_of ts i = 1 + length (gather frames_of_task (take i ts))

at-task : (ts : Table) (i : ℕ) → i < length ts → i ≤ most_tasks → AllSound (take i ts)
    → table_check 0 1 ts ≡ table_check i (line_of ts i) (task_at ts i ∷ drop (suc i) ts)
at-task ts i h l s =
    let x : 0 + i ≡ i = omega arith in
    sound_prefix i 0 1 ts (omega arith) (omega arith) s ∙ ap₂ (λ (j : ℕ) (ks : Table). table_check j (line_of ts i) ks) x (drop-cons ts i no_task h)

pub ninth_ruled : (ts : Table) → most_tasks < length ts → AllSound (take most_tasks ts) → ruled ts ≡ unreadable 2 (line_of ts most_tasks)
unfolding table_check
ninth_ruled ts h s = ruled_is ts ∙ ap (λ (c : Check). unless c (readable ts)) (at-task ts most_tasks h (omega arith) s)

-- task i's lines decide where they break a rule
task-ruled : (ts : Table) (i n : ℕ) (w : Refusal) → i < length ts → i < most_tasks → AllSound (take i ts) → task_check (line_of ts i) (task_at ts i) ≡ broken_by w n
    → ruled ts ≡ unreadable (refusal_number w) n
unfolding table_check
task-ruled ts i n w h l s e =
    let found : table_check 0 1 ts ≡ broken_by w n = at-task ts i h (omega arith) s ∙ rw (lt-leb most_tasks i l, e) in
    ruled_is ts ∙ ap (λ (c : Check). unless c (readable ts)) found

-- vertex j's line, behind those of j sound vertices
vertices_found : (j n : ℕ) (xs : List Vertex) (w : Refusal) (l : ℕ) → j < length xs → ((y : Vertex) → Memᴰ y (take j xs) → SoundVertex y)
    → vertex_check (n + j) (get_or xs j no_vertex) ≡ broken_by w l → vertices_check n xs ≡ broken_by w l
vertices_found j n [] w l h s e = absurd (omega arith)
vertices_found zero n (x ∷ xs) w l h s e =
    let o : n + 0 ≡ n = omega arith in
    rw (subst (λ (m : ℕ). vertex_check m x ≡ broken_by w l) o e)
vertices_found (suc j) n (x ∷ xs) w l h s e =
    let o : n + suc j ≡ suc n + j = omega arith in
    rw (vertex-kept n x (s x (Memᴰ.head refl)))
    (vertices_found j (suc n) xs w l (omega arith) (λ y m. s y (Memᴰ.tail m)) (subst (λ (m : ℕ). vertex_check m (get_or xs j no_vertex) ≡ broken_by w l) o e))

slip_found : (n : ℕ) (x : Vertex) → TooLong x.e x.d → vertex_check n x ≡ broken_by JobOverDeadline n
unfolding vertex_check vertex_in
slip_found n x l =
    rw (
      within_true 1 largest_e x.e (omega (arith, l.over)) l.most_e,
      within_true 1 largest_d x.d l.some_d l.most_d,
      lt-leb x.e x.d l.over,
    )

not_in : (v e m : ℕ) → ((1 ≤ v) × (v ≤ most_vertices) × (e ≤ most_edges) × (m ≤ largest_m) → ⊥) → task_in v e 0 m ≡ false
not_in v e m o =
    is_false (task_in v e 0 m) (λ t. let b = task_bounds v e 0 m (is_true (task_in v e 0 m) t) in o (b.some, b.v_in, b.e_in, b.m_in))

module _ (ts : Table) (i : ℕ) (h : i < length ts) (l : i < most_tasks) (s : AllSound (take i ts)) where
  abbrev own : Task
  own = task_at ts i

  pub counts_ruled : ((1 ≤ length own.vertices) × (length own.vertices ≤ most_vertices) × (length own.edges ≤ most_edges) × (own.m ≤ largest_m) → ⊥)
      → ruled ts ≡ unreadable 3 (line_of ts i)
  unfolding task_check own_check
  counts_ruled o = task-ruled ts i (line_of ts i) OutOfBounds h l s (rw (not_in (length own.vertices) (length own.edges) own.m o))

  pub mask_ruled : 1 ≤ length own.vertices → length own.vertices ≤ most_vertices → length own.edges ≤ most_edges → own.m ≤ largest_m
      → ((x : Vertex) → Memᴰ x own.vertices → SoundVertex x) → largest_e_in own.vertices < own.m
      → ruled ts ≡ unreadable 3 (line_of ts i + length own.vertices)
  unfolding task_check mask_check
  mask_ruled a b c d each m =
      task-ruled ts i (line_of ts i + length own.vertices) OutOfBounds h l s
      (rw (
        own_kept (line_of ts i) own a b c d,
        vertices-kept (line_of ts i + 1) own.vertices each,
        lt-leb own.m (largest_e_in own.vertices) m,
      ))

  pub slip_ruled : (j : ℕ) → let x = vertex_at own j in j < length own.vertices → length own.vertices ≤ most_vertices
      → length own.edges ≤ most_edges → own.m ≤ largest_m → ((y : Vertex) → Memᴰ y (take j own.vertices) → SoundVertex y)
      → TooLong x.e x.d → ruled ts ≡ unreadable 13 (line_of ts i + 1 + j)
  unfolding task_check
  slip_ruled j a b c d each long =
      let line = line_of ts i + 1 in
      let found = slip_found (line + j) (vertex_at own j) long in
      task-ruled ts i (line + j) JobOverDeadline h l s
      (rw (own_kept (line_of ts i) own (omega arith) b c d, vertices_found j line own.vertices JobOverDeadline (line + j) a each found))

pub none-ruled : ruled [] ≡ unreadable 2 1
unfolding ruled
none-ruled = refl

-- ---- no rule is broken, so sound

ruled_good : (ts : Table) → Good (ruled ts)
unfolding ruled
ruled_good ts = frames_good some (frames_of ts)

-- nothing but the table itself is found readable
pub ruled-same : (ts us : Table) → ruled ts ≡ readable us → us ≡ ts
ruled-same ts us e = go (table_check 0 1 ts) (sym (ruled_is ts) ∙ e)
  where
    go : (c : Check) → unless c (readable ts) ≡ readable us → us ≡ ts
    go (Ok u) q = cc
    go (Err at) q = absurd (let z : ◌≡◌ {A = ℕ} 0 1 = cc in omega arith)

pub ruled_sound : (ts us : Table) → ruled ts ≡ readable us → SoundTable ts
ruled_sound ts us e = subst SoundTable (ruled-same ts us e) (subst Good e (ruled_good ts))

pub kept_sound : (ts : Table) → table_check 0 1 ts ≡ kept → SoundTable ts
kept_sound ts e = ruled_sound ts ts (ruled_is ts ∙ rw e)

-- ---- the rows that a table can get

abbrev pub Row : ℕ → Type 0
Row k = LineRow 2 5 k

abbrev InRows : Check → Type 0
InRows (Ok u) = Unit {0}
InRows (Err at) = Row (refusal_number at.refusal)

then_rows : (a b : Check) → InRows a → InRows b → InRows (and_then a b)
then_rows (Ok u) b x y = y
then_rows (Err at) b x y = x

pick_rows : (c : Bool) (a b : Check) → InRows a → InRows b → InRows (pick c a b)
pick_rows true a b x y = x
pick_rows false a b x y = y

vertices_rows : (n : ℕ) (xs : List Vertex) → InRows (vertices_check n xs)
unfolding vertex_check
vertices_rows n [] = tt
vertices_rows n (x ∷ xs) =
    then_rows (vertex_check n x) (vertices_check (suc n) xs)
    (pick_rows (vertex_in x.e x.d) _ (broken_by OutOfBounds n)
    (pick_rows (job_in_time x.e x.d) kept (broken_by JobOverDeadline n) tt (inr refl))
    (inl (omega arith, omega arith)))
    (vertices_rows (suc n) xs)

edges_rows : (vs : List Vertex) (least n : ℕ) (xs : List Edge) → InRows (edges_check vs least n xs)
unfolding edge_check
edges_rows vs least n [] = tt
edges_rows vs least n (x ∷ xs) =
    then_rows (edge_check vs least n x) (edges_check vs (least_after x.from x.to) (suc n) xs)
    (pick_rows (edge_in (length vs) x.from x.to x.p) _ (broken_by OutOfBounds n)
    (pick_rows (edge_spaced (get_or vs x.from no_vertex).d x.p) _ (broken_by DeadlineOverSeparation n)
    (pick_rows (edge_after least x.from x.to) kept (broken_by EdgeNotAfter n) tt (inl (omega arith, omega arith)))
    (inl (omega arith, omega arith)))
    (inl (omega arith, omega arith)))
    (edges_rows vs (least_after x.from x.to) (suc n) xs)

task_rows : (n : ℕ) (k : Task) → InRows (task_check n k)
unfolding task_check own_check mask_check
task_rows n k =
    then_rows (own_check n k) _
    (pick_rows (task_in (length k.vertices) (length k.edges) 0 k.m) kept (broken_by OutOfBounds n) tt (inl (omega arith, omega arith)))
    (then_rows (vertices_check (n + 1) k.vertices) _ (vertices_rows (n + 1) k.vertices)
    (then_rows (mask_check (n + length k.vertices) k.m k.vertices) _
    (pick_rows (leb k.m (largest_e_in k.vertices)) kept (broken_by OutOfBounds (n + length k.vertices)) tt (inl (omega arith, omega arith)))
    (edges_rows k.vertices 0 (n + length k.vertices + 1) k.edges)))

table_rows : (i n : ℕ) (ks : Table) → InRows (table_check i n ks)
unfolding table_check
table_rows i n [] = pick_rows (eqb i 0) (broken_by WrongFrame n) kept (inl (omega arith, omega arith)) tt
table_rows i n (k ∷ ks) =
    then_rows (ninth_check i n) _ (pick_rows (leb most_tasks i) (broken_by WrongFrame n) kept (inl (omega arith, omega arith)) tt)
    (then_rows (task_check n k) (table_check (i + 1) (n + lines_of_task k) ks) (task_rows n k) (table_rows (i + 1) (n + lines_of_task k) ks))

frame_row : {k : ℕ} → Row k → 6 ≤ k → k ≤ 7 → ⊥
frame_row (inl r) a b = omega (arith, r.1)
frame_row (inr r) a b = omega arith

-- by 2 to 5 or 13, at the line of one of its frames
pub ruled_refused : (ts : Table) (k n : ℕ) → ruled ts ≡ unreadable k n → Row k × (1 ≤ n) × (n ≤ length (frames_of ts)) × (n ≤ last_line)
unfolding ruled
ruled_refused ts k n e =
    let row : Row k = go (table_check 0 1 ts) (table_rows 0 1 ts) (sym (ruled_is ts) ∙ e) in
    let i : InText k n = subst Good e (ruled_good ts) in
    let l : n < 1 + length (frames_of ts) = frame_line some nothing 1 (frames_of ts) k n e (frame_row row) in
    (row, i.1, omega (arith, l), i.2)
  where
    go : (c : Check) → InRows c → unless c (readable ts) ≡ unreadable k n → Row k
    go (Ok u) r q = absurd (let z : ◌≡◌ {A = ℕ} 0 1 = cc in omega arith)
    go (Err at) r q = subst Row (let z : refusal_number at.refusal ≡ k = cc in z) r
