-- The first line that the checks find broken is the one that the definition finds: a table's frames, tested in turn by the reader's own rules.
use mathlib.Core.Path.{◌≡◌, refl, sym, ap, ◌∙◌}
use Prim.Native.Nat.{ℕ, suc, ◌+◌, ◌-◌, ◌/◌, ◌%◌, ◌≤◌, ◌<◌}
use native.Mathlib.Omega.{arith}
use mathlib.Core.Bool.{Bool, true, false, ◌&&◌, ◌||◌}
use mathlib.Core.Option.{some}
use mathlib.Core.List.{List, [], ◌∷◌, ◌++◌, map, append_assoc, append-nil}
use lib.ListN.{length, get_or, length-append}
use lib.Dec.{leb, ltb, eqb}
use borrow.Author.Tests.{leb-true, leb-false, eqb-true, eqb-false, le-leb, lt-ltb, le-ltb, ne_eqb}
use Rattle.meaning.specs.Lists.{pick, gather}
use Rattle.meaning.specs.Bounds.{most_tasks, most_vertices, largest_e, largest_d, largest_p}
use Rattle.meaning.specs.Table.{Vertex, Edge, Task, Table, task, no_vertex, no_task, largest_e_in}
use Rattle.meaning.specs.Text.{Begun, begun, closed, Step, on, over, wrong, gate, within, after_last, step_at}
use Rattle.meaning.specs.Text.{Reading, readable, unreadable, frames_from}
use Rattle.meaning.specs.Writing.{frame_of_task, frame_of_vertex, frame_of_edge, frame_of_end, frames_of_task, ruled}
use Rattle.meaning.proofs.Readable.{frames_step, step_frames}
use Rattle.meaning.proofs.FramesBack.{two-word}
use Rattle.kinds.specs.declared.Refusal.TheVariants.{WrongFrame, OutOfBounds, DeadlineOverSeparation, EdgeNotAfter, JobOverDeadline}
use Rattle.kinds.specs.Numbers.{refusal_number}
use Rattle.rules.specs.Rules.{task_in, vertex_in, job_in_time, edge_in, edge_spaced, edge_after, least_after}
use Rattle.rules.proofs.Within.{TaskBounds, task_bounds, EdgeBounds, edge_bounds}
use Rattle.rules.proofs.Order.{Follows, follows_none, follows_more}
use Rattle.std.specs.Prelude.{Ok, Err}
use Rattle.checks.specs.Checks.{Check, kept, broken_by, and_then, vertex_check, vertices_check, mask_check, edge_check, edges_check, own_check, task_check, lines_of_task}
use Rattle.checks.specs.Checks.{ninth_check, end_check, table_check}
use Rattle.checks.proofs.InOrder.{broken_apart}

-- ---- one frame

abbrev in_turn : Begun → ℕ → List (List ℕ) → Reading
in_turn s n fs = frames_from some s n fs

-- a reading that goes on where no rule is broken
abbrev pub unless : Check → Reading → Reading
unless (Ok u) r = r
unless (Err at) r = unreadable (refusal_number at.refusal) at.place

unless_then : (a b : Check) (r : Reading) → unless (and_then a b) r ≡ unless a (unless b r)
unless_then (Ok u) b r = refl
unless_then (Err at) b r = refl

-- ---- vertices

module _ (ts : List Task) (m e : ℕ) where
  abbrev after_vertices : List Vertex → ℕ → Begun
  after_vertices vs v = begun ts (task m vs []) v e

  vertex_turn : (vs : List Vertex) (v n : ℕ) (x : Vertex) (fs : List (List ℕ))
      → in_turn (after_vertices vs (suc v)) n (frame_of_vertex x ∷ fs)
      ≡ unless (vertex_check n x) (frames_step some
      (gate (ltb 1 (suc v) || leb m (largest_e_in (vs ++ (x ∷ [])))) 3 (on (after_vertices (vs ++ (x ∷ [])) v))) n fs)
  unfolding vertex_check vertex_in
  vertex_turn vs v n x fs =
      let o : suc v - 1 ≡ v = omega arith in
      step_frames some (after_vertices vs (suc v)) n (frame_of_vertex x) fs
      ∙ rw (two-word x.e, two-word x.d, o)
      (go (within 1 largest_e x.e && within 1 largest_d x.d) (job_in_time x.e x.d)
      (gate (ltb 1 (suc v) || leb m (largest_e_in (vs ++ (x ∷ [])))) 3 (on (after_vertices (vs ++ (x ∷ [])) v))))
    where
      go : (b c : Bool) (s : Step) → frames_step some (gate b 3 (gate c 13 s)) n fs
          ≡ unless (pick b (pick c kept (broken_by JobOverDeadline n)) (broken_by OutOfBounds n)) (frames_step some s n fs)
      go true true s = refl
      go true false s = refl
      go false c s = refl

  last_turn : (vs : List Vertex) (n : ℕ) (fs : List (List ℕ))
      → frames_step some (gate (leb m (largest_e_in vs)) 3 (on (after_vertices vs 0))) n fs ≡ unless (mask_check n m vs) (in_turn (after_vertices vs 0) (suc n) fs)
  unfolding mask_check
  last_turn vs n fs = go (leb m (largest_e_in vs))
    where
      go : (b : Bool)
          → frames_step some (gate b 3 (on (after_vertices vs 0))) n fs ≡ unless (pick b kept (broken_by OutOfBounds n)) (in_turn (after_vertices vs 0) (suc n) fs)
      go true = refl
      go false = refl

  vertices_run : (fs : List (List ℕ)) (xs : List Vertex) (x : Vertex) (vs : List Vertex) (n : ℕ)
      → in_turn (after_vertices vs (suc (length xs))) n (map frame_of_vertex (x ∷ xs) ++ fs)
      ≡ unless (vertices_check n (x ∷ xs)) (unless (mask_check (n + length xs) m (vs ++ (x ∷ xs)))
      (in_turn (after_vertices (vs ++ (x ∷ xs)) 0) (n + suc (length xs)) fs))
  vertices_run fs [] x vs n =
      let a : n + 0 ≡ n = omega arith in
      let b : n + 1 ≡ suc n = omega arith in
      vertex_turn vs 0 n x fs
      ∙ ap (unless (vertex_check n x)) (last_turn (vs ++ (x ∷ [])) n fs)
      ∙ rw (a, b) (sym (unless_then (vertex_check n x) kept (unless (mask_check n m (vs ++ (x ∷ []))) (in_turn (after_vertices (vs ++ (x ∷ [])) 0) (suc n) fs))))
  vertices_run fs (y ∷ ys) x vs n =
      let a : suc n + length ys ≡ n + suc (length ys) = omega arith in
      let b : suc n + suc (length ys) ≡ n + suc (suc (length ys)) = omega arith in
      vertex_turn vs (suc (length ys)) n x (map frame_of_vertex (y ∷ ys) ++ fs)
      ∙ rw (lt-ltb 1 (suc (suc (length ys))) (omega arith))
      (ap (unless (vertex_check n x)) (vertices_run fs ys y (vs ++ (x ∷ [])) (suc n) ∙ rw (append_assoc vs (x ∷ []) (y ∷ ys), a, b))
      ∙ sym (unless_then (vertex_check n x) (vertices_check (suc n) (y ∷ ys))
      (unless (mask_check (n + suc (length ys)) m (vs ++ (x ∷ y ∷ ys))) (in_turn (after_vertices (vs ++ (x ∷ y ∷ ys)) 0) (n + suc (suc (length ys))) fs))))

-- ---- edges

module _ (ts : List Task) (m : ℕ) (vs : List Vertex) (room : length vs ≤ most_vertices) where
  abbrev after_edges : List Edge → ℕ → Begun
  after_edges es e = begun ts (task m vs es) 0 e

  edge_turn : (es : List Edge) (least e n : ℕ) (x : Edge) (fs : List (List ℕ)) → Follows es least
      → in_turn (after_edges es (suc e)) n (frame_of_edge x ∷ fs) ≡ unless (edge_check vs least n x) (in_turn (after_edges (es ++ (x ∷ [])) e) (suc n) fs)
  unfolding edge_check edge_in
  edge_turn es least e n x fs h =
      let o : suc e - 1 ≡ e = omega arith in
      step_frames some (after_edges es (suc e)) n (frame_of_edge x) fs
      ∙ rw (two-word x.p, o)
      (go (edge_in (length vs) x.from x.to x.p) refl (edge_spaced (get_or vs x.from no_vertex).d x.p) (edge_after least x.from x.to) refl)
    where
      done : Step
      done = on (after_edges (es ++ (x ∷ [])) e)

      last : (c : Bool) → frames_step some (gate c 5 (on (after_edges (es ++ (x ∷ [])) e))) n fs
          ≡ unless (pick c kept (broken_by EdgeNotAfter n)) (in_turn (after_edges (es ++ (x ∷ [])) e) (suc n) fs)
      last true = refl
      last false = refl

      go : (a : Bool) → edge_in (length vs) x.from x.to x.p ≡ a → (b c : Bool) → edge_after least x.from x.to ≡ c
          → frames_step some (gate (ltb x.from (length vs) && ltb x.to (length vs) && within 1 largest_p x.p) 3
          (gate b 4 (gate (after_last es x) 5 (on (after_edges (es ++ (x ∷ [])) e))))) n fs
          ≡ unless (pick a (pick b (pick c kept (broken_by EdgeNotAfter n)) (broken_by DeadlineOverSeparation n)) (broken_by OutOfBounds n))
          (in_turn (after_edges (es ++ (x ∷ [])) e) (suc n) fs)
      go false p b c q = rw p
      go true p false c q = rw p
      go true p true c q =
          let i : EdgeBounds (length vs) x.from x.to x.p = edge_bounds (length vs) x.from x.to x.p p in
          let f : after_last es x ≡ c = h x.from x.to x.p (omega (arith, i.to_in)) ∙ q in
          rw (p, f) (last c)

  -- an edge that keeps the rules ends in the task
  edge_to_lem : (least n : ℕ) (x : Edge) → edge_check vs least n x ≡ kept → x.to < length vs
  unfolding edge_check
  edge_to_lem least n x = go (edge_in (length vs) x.from x.to x.p) refl
    where
      go : (a : Bool) → edge_in (length vs) x.from x.to x.p ≡ a
          → pick a (pick (edge_spaced (get_or vs x.from no_vertex).d x.p) (pick (edge_after least x.from x.to) kept (broken_by EdgeNotAfter n))
          (broken_by DeadlineOverSeparation n)) (broken_by OutOfBounds n) ≡ kept → x.to < length vs
      go true p q = (edge_bounds (length vs) x.from x.to x.p p).to_in
      go false p q = broken_apart q

  edges_run : (fs : List (List ℕ)) (xs es : List Edge) (least n : ℕ) → Follows es least
      → in_turn (after_edges es (length xs)) n (map frame_of_edge xs ++ fs)
      ≡ unless (edges_check vs least n xs) (in_turn (after_edges (es ++ xs) 0) (n + length xs) fs)
  edges_run fs [] es least n h = let o : n + 0 ≡ n = omega arith in rw (append-nil es, o)
  edges_run fs (x ∷ xs) es least n h =
      edge_turn es least (length xs) n x (map frame_of_edge xs ++ fs) h
      ∙ go (edge_check vs least n x) refl (λ k. edges_run fs xs (es ++ (x ∷ [])) (least_after x.from x.to) (suc n) (follows_more es x k))
    where
      o : suc n + length xs ≡ n + suc (length xs)
      o = omega arith

      go : (c : Check) → edge_check vs least n x ≡ c
          → (x.to < 256 → in_turn (after_edges (es ++ (x ∷ [])) (length xs)) (suc n) (map frame_of_edge xs ++ fs)
          ≡ unless (edges_check vs (least_after x.from x.to) (suc n) xs) (in_turn (after_edges ((es ++ (x ∷ [])) ++ xs) 0) (suc n + length xs) fs))
          → unless (edge_check vs least n x) (in_turn (after_edges (es ++ (x ∷ [])) (length xs)) (suc n) (map frame_of_edge xs ++ fs))
          ≡ unless (and_then (edge_check vs least n x) (edges_check vs (least_after x.from x.to) (suc n) xs))
          (in_turn (after_edges (es ++ (x ∷ xs)) 0) (n + suc (length xs)) fs)
      go (Err at) q ih = rw q
      go (Ok u) q ih = rw q (ih (omega (arith, edge_to_lem least n x q)) ∙ rw (append_assoc es (x ∷ []) xs, o))

-- ---- a whole task

pub own_bounds : (n : ℕ) (k : Task) → own_check n k ≡ kept → TaskBounds (length k.vertices) (length k.edges) 0 k.m
unfolding own_check
own_bounds n k = go (task_in (length k.vertices) (length k.edges) 0 k.m) refl
  where
    go : (b : Bool) → task_in (length k.vertices) (length k.edges) 0 k.m ≡ b → pick b kept (broken_by OutOfBounds n) ≡ kept
        → TaskBounds (length k.vertices) (length k.edges) 0 k.m
    go true q e = task_bounds (length k.vertices) (length k.edges) 0 k.m q
    go false q e = broken_apart e

-- a task's own frame, after whole tasks and the task k₀
module _ (ts : List Task) (k₀ : Task) where
  abbrev before : Begun
  before = begun ts k₀ 0 0

  abbrev own : ℕ → ℕ → ℕ → Step
  own m v e = pick (ltb (length (closed before)) most_tasks) (gate (task_in v e 0 m) 3 (on (begun (closed before) (task m [] []) v e))) (wrong 2)

  plain_step : (v e : ℕ) → step_at before (some (1 ∷ v ∷ e ∷ [])) ≡ own 0 v e
  unfolding task_in
  plain_step v e = refl

  masked_step : (m v e : ℕ) → 1 ≤ m → step_at before (some (4 ∷ v ∷ e ∷ m / 256 ∷ m % 256 ∷ [])) ≡ own m v e
  unfolding task_in
  masked_step m v e h = rw (two-word m, le-leb 1 m h, le-leb 0 m (omega arith))

  own_step : (m v e : ℕ) → step_at before (some (frame_of_task m v e)) ≡ own m v e
  own_step m v e = go (eqb m 0) refl
    where
      go : (b : Bool) → eqb m 0 ≡ b → step_at before (some (pick b (1 ∷ v ∷ e ∷ []) (4 ∷ v ∷ e ∷ m / 256 ∷ m % 256 ∷ []))) ≡ own m v e
      go true q = plain_step v e ∙ ap (λ (z : ℕ). own z v e) (sym (eqb-true m 0 q))
      go false q = masked_step m v e (some_of m (eqb-false m 0 q))
        where
          some_of : (z : ℕ) → (z ≡ 0 → ⊥) → 1 ≤ z
          some_of z h = omega arith

  own_turn : (n : ℕ) (k : Task) (fs : List (List ℕ))
      → in_turn before n (frame_of_task k.m (length k.vertices) (length k.edges) ∷ fs)
      ≡ unless (ninth_check (length (closed before)) n) (unless (own_check n k)
      (in_turn (begun (closed before) (task k.m [] []) (length k.vertices) (length k.edges)) (suc n) fs))
  unfolding own_check
  own_turn n k fs =
      step_frames some before n (frame_of_task k.m (length k.vertices) (length k.edges)) fs
      ∙ ap (λ (r : Step). frames_step some r n fs) (own_step k.m (length k.vertices) (length k.edges))
      ∙ go (leb most_tasks (length (closed before))) refl (task_in (length k.vertices) (length k.edges) 0 k.m)
      (begun (closed before) (task k.m [] []) (length k.vertices) (length k.edges))
    where
      go : (a : Bool) → leb most_tasks (length (closed before)) ≡ a → (b : Bool) (s : Begun)
          → frames_step some (pick (ltb (length (closed before)) most_tasks) (gate b 3 (on s)) (wrong 2)) n fs
          ≡ unless (pick a (broken_by WrongFrame n) kept) (unless (pick b kept (broken_by OutOfBounds n)) (in_turn s (suc n) fs))
      go true p b s = rw (le-ltb (length (closed before)) most_tasks (leb-true _ _ p))
      go false p true s = rw (lt-ltb (length (closed before)) most_tasks (leb-false _ _ p))
      go false p false s = rw (lt-ltb (length (closed before)) most_tasks (leb-false _ _ p))

-- its vertices and its edges
abbrev part_frames : Task → List (List ℕ)
part_frames k = map frame_of_vertex k.vertices ++ map frame_of_edge k.edges

-- before them, after the tasks ts
abbrev begins : List Task → Task → Begun
begins ts k = begun ts (task k.m [] []) (length k.vertices) (length k.edges)

module _ (k : Task) (n : ℕ) where
  abbrev edges_line : ℕ
  edges_line = n + length k.vertices + 1

  abbrev mask_checked : Check
  mask_checked = mask_check (n + length k.vertices) k.m k.vertices

  abbrev edges_checked : Check
  edges_checked = edges_check k.vertices 0 edges_line k.edges

  abbrev parts_check : Check
  parts_check = and_then (vertices_check (n + 1) k.vertices) (and_then mask_checked edges_checked)

  module _ (ts : List Task) (fs : List (List ℕ)) where
    abbrev done : Reading
    done = in_turn (begun ts k 0 0) (n + lines_of_task k) fs

    -- the vertices vs are read
    abbrev to_edges : List Vertex → Reading
    to_edges vs =
        unless (vertices_check (n + 1) vs) (unless (mask_check (n + length vs) k.m vs)
        (in_turn (begun ts (task k.m vs []) 0 (length k.edges)) (n + length vs + 1) (map frame_of_edge k.edges ++ fs)))

    vertices_done : (vs : List Vertex) → k.vertices ≡ vs → 1 ≤ length k.vertices
        → in_turn (begins ts k) (suc n) (map frame_of_vertex k.vertices ++ (map frame_of_edge k.edges ++ fs)) ≡ to_edges k.vertices
    vertices_done [] q h = absurd (omega (arith, h, ap length q))
    vertices_done (x ∷ xs) q h =
        let last : suc n + length xs ≡ n + length (x ∷ xs) = omega arith in
        let behind : suc n + suc (length xs) ≡ n + length (x ∷ xs) + 1 = omega arith in
        let first : suc n ≡ n + 1 = omega arith in
        rw q (vertices_run ts k.m (length k.edges) (map frame_of_edge k.edges ++ fs) xs x [] (suc n) ∙ rw (last, behind, first))

    edges_done : length k.vertices ≤ most_vertices
        → in_turn (begun ts (task k.m k.vertices []) 0 (length k.edges)) edges_line (map frame_of_edge k.edges ++ fs) ≡ unless edges_checked done
    edges_done few =
        let end : edges_line + length k.edges ≡ n + lines_of_task k = omega arith in
        edges_run ts k.m k.vertices few fs k.edges [] 0 edges_line follows_none ∙ ap (λ (l : ℕ). unless edges_checked (in_turn (begun ts k 0 0) l fs)) end

    parts_run : TaskBounds (length k.vertices) (length k.edges) 0 k.m → in_turn (begins ts k) (suc n) (part_frames k ++ fs) ≡ unless parts_check done
    parts_run b =
        ap (in_turn (begins ts k) (suc n)) (append_assoc (map frame_of_vertex k.vertices) (map frame_of_edge k.edges) fs)
        ∙ vertices_done k.vertices refl b.some
        ∙ ap (λ (r : Reading). unless (vertices_check (n + 1) k.vertices) (unless mask_checked r)) (edges_done b.v_in)
        ∙ sym (unless_then (vertices_check (n + 1) k.vertices) (and_then mask_checked edges_checked) done
        ∙ ap (unless (vertices_check (n + 1) k.vertices)) (unless_then mask_checked edges_checked done))

then_kept : (a b : Check) → and_then a b ≡ kept → a ≡ kept
then_kept (Ok u) b e = refl
then_kept (Err at) b e = broken_apart e

pub task_bounded : (n : ℕ) (k : Task) → task_check n k ≡ kept → TaskBounds (length k.vertices) (length k.edges) 0 k.m
unfolding task_check
task_bounded n k e = own_bounds n k (then_kept (own_check n k) (parts_check k n) e)

pub task_run : (ts : List Task) (k₀ : Task) (n : ℕ) (k : Task) (fs : List (List ℕ))
    → in_turn (before ts k₀) n (frames_of_task k ++ fs)
    ≡ unless (ninth_check (length (closed (before ts k₀))) n) (unless (task_check n k) (in_turn (begun (closed (before ts k₀)) k 0 0) (n + lines_of_task k) fs))
unfolding task_check
task_run ts k₀ n k fs =
    own_turn ts k₀ n k (part_frames k ++ fs)
    ∙ ap (unless (ninth_check (length (closed (before ts k₀))) n)) (go (closed (before ts k₀)) (own_check n k) refl)
  where
    go : (us : Table) (c : Check) → own_check n k ≡ c
        → unless (own_check n k) (in_turn (begins us k) (suc n) (part_frames k ++ fs)) ≡ unless (and_then (own_check n k) (parts_check k n)) (done k n us fs)
    go us (Err at) q = rw q
    go us (Ok u) q = rw q (parts_run k n us fs (own_bounds n k q))

-- ---- all tasks, and the end

pub closed_more : (ts : List Task) (k : Task) → 1 ≤ length k.vertices → closed (begun ts k 0 0) ≡ ts ++ (k ∷ [])
closed_more ts k h = go k.vertices refl
  where
    go : (vs : List Vertex) → k.vertices ≡ vs → closed (begun ts k 0 0) ≡ ts ++ (k ∷ [])
    go [] e = absurd (omega (arith, ap length e))
    go (x ∷ xs) e = rw e

pub end_turn : (ts : List Task) (k₀ : Task) (n : ℕ)
    → in_turn (before ts k₀) n (frame_of_end ∷ []) ≡ unless (end_check (length (closed (before ts k₀))) n) (readable (closed (before ts k₀)))
end_turn ts k₀ n = step_frames some (before ts k₀) n frame_of_end [] ∙ go (closed (before ts k₀))
  where
    go : (ks : Table) → frames_step some (pick (ltb 0 (length ks)) (over ks) (wrong 2)) n [] ≡ unless (end_check (length ks) n) (readable ks)
    go [] = refl
    go (k ∷ ks) = rw (lt-ltb 0 (length (k ∷ ks)) (omega arith), ne_eqb (length (k ∷ ks)) 0 (λ e. omega arith))

table_run : (ks : Table) (ts : List Task) (k₀ : Task) (n : ℕ)
    → in_turn (before ts k₀) n (gather frames_of_task ks ++ (frame_of_end ∷ []))
    ≡ unless (table_check (length (closed (before ts k₀))) n ks) (readable (closed (before ts k₀) ++ ks))
unfolding table_check
table_run [] ts k₀ n = end_turn ts k₀ n ∙ rw (append-nil (closed (before ts k₀)))
table_run (k ∷ ks) ts k₀ n =
    ap (in_turn (before ts k₀) n) (append_assoc (frames_of_task k) (gather frames_of_task ks) (frame_of_end ∷ []))
    ∙ task_run ts k₀ n k (gather frames_of_task ks ++ (frame_of_end ∷ []))
    ∙ ap (unless (ninth_check (length (closed (before ts k₀))) n))
    (go (closed (before ts k₀)) (task_check n k) refl (λ us. table_run ks us k (n + lines_of_task k)))
    ∙ sym (unless_then (ninth_check (length (closed (before ts k₀))) n)
    (and_then (task_check n k) (table_check (length (closed (before ts k₀)) + 1) (n + lines_of_task k) ks)) (readable (closed (before ts k₀) ++ (k ∷ ks))))
  where
    go : (us : Table) (c : Check) → task_check n k ≡ c
        → ((us : Table) → in_turn (begun us k 0 0) (n + lines_of_task k) (gather frames_of_task ks ++ (frame_of_end ∷ []))
        ≡ unless (table_check (length (closed (begun us k 0 0))) (n + lines_of_task k) ks) (readable (closed (begun us k 0 0) ++ ks)))
        → unless (task_check n k) (in_turn (begun us k 0 0) (n + lines_of_task k) (gather frames_of_task ks ++ (frame_of_end ∷ [])))
        ≡ unless (and_then (task_check n k) (table_check (length us + 1) (n + lines_of_task k) ks)) (readable (us ++ (k ∷ ks)))
    go us (Err at) q ih = rw q
    go us (Ok u) q ih =
        let c : closed (begun us k 0 0) ≡ us ++ (k ∷ []) = closed_more us k (task_bounded n k q).some in
        rw q (ih us ∙ rw (c, length-append us (k ∷ []), append_assoc us (k ∷ []) ks))

pub ruled_is : (ts : Table) → ruled ts ≡ unless (table_check 0 1 ts) (readable ts)
unfolding ruled
ruled_is ts = table_run ts [] no_task 1
