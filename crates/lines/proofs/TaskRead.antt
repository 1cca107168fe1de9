-- The lines of a plain task, its vertices and then its edges, are read as they mean; and those of any task, by its own line.
use mathlib.Core.Path.{◌≡◌, refl, sym, ap, subst, ◌∙◌}
use Prim.Native.Nat.{ℕ, zero, suc, ◌+◌, ◌-◌, ◌*◌, ◌≤◌}
use native.Mathlib.Omega.{arith}
use mathlib.Core.Bool.{Bool, true, false}
use mathlib.Core.List.{List, []}
use lib.ListN.{length, drop, replicate, length-drop}
use lib.Seq.{drop-drop}
use lib.Dec.{leb}
use Rattle.meaning.specs.Bounds.{most_vertices, most_edges}
use Rattle.meaning.specs.Table as Meant
use Rattle.meaning.specs.Table.{largest_e_in}
use Rattle.meaning.specs.Text.{lines_of, begun, ring_to, gear_to, Reading, unreadable, read_from}
use Rattle.kinds.specs.declared.Refusal.TheVariants.{OutOfBounds}
use Rattle.kinds.specs.declared.Ticks.{Ticks}
use Rattle.kinds.specs.Numbers.{refusal_number}
use Rattle.table.specs.Record.{no_vertex, no_edge, task_cells}
use Rattle.table.specs.Inner.{vertices_record, edges_record, largest_of}
use Rattle.table.proofs.Record.{task-of_record}
use Rattle.frames.specs.declared.Form.{Form}
use Rattle.frames.specs.declared.Form.TheVariants.{Plain, Ring, Gears}
use Rattle.frames.specs.declared.Head.{Head}
use Rattle.std.specs.Prelude.{Result, Ok, Err}
use Rattle.table.specs.declared.Vertex.{Vertex}
use Rattle.table.specs.declared.Edge.{Edge}
use Rattle.lines.specs.declared.Stopped.{Stopped}
use Rattle.frames.specs.Frames.{part_bytes}
use Rattle.lines.specs.Parts.{TaskTaken, took_task, part_then, vertex_lines, edges_on, edge_lines, covers, task_with, plain_lines, task_lines}
use Rattle.lines.proofs.Gives.{no_vertices, no_edges_lem, TaskGives, whole-task, task_stopped, task_begun, TaskReach, stopped_reach}
use Rattle.lines.proofs.Links.{linked_run, links_reach}
use Rattle.frames.proofs.TaskOrEnd.{opened}
use Rattle.lines.proofs.Vertices.{VerticesGive, all-vertices, vertices_stopped, vertices_run, vertices_reach}
use Rattle.lines.proofs.Edges.{EdgesGive, all_edges, edges_stopped, edges_run, edges_reach}
use Rattle.rules.proofs.Order.{follows_none}
use Rattle.lines.proofs.Reach.{Reach}

-- the vertices that a record holds have the largest e of those that it is the record of
largest-held : (Y : List Meant.Vertex) → largest_of (length Y) (vertices_record Y) ≡ largest_e_in Y
unfolding largest_of
largest-held Y = ap (λ (k : Meant.Task). largest_e_in k.vertices) (task-of_record (Meant.task 0 Y []))

module _ (ts : List Meant.Task) (l v e : ℕ) (m : Ticks) (t : List ℕ) (some : 1 ≤ v) (v_in : v ≤ most_vertices) (e_in : e ≤ most_edges) where
  abbrev rest : List ℕ
  rest = drop ((v + e) * part_bytes) t

  -- where the test of m holds, what becomes of the edges becomes of the task
  abbrev after_mask : Result (List Edge) Stopped → List Meant.Vertex → Result TaskTaken Stopped
  after_mask b Y = part_then b (λ es. Ok (took_task (v + e) ((v + e) * part_bytes) (task_cells m v e (vertices_record Y) es)))

  with_edges : (R : Reading) (Y : List Meant.Vertex) (b : Result (List Edge) Stopped) → length Y ≡ v
      → EdgesGive R ts m.0 Y (suc (l + length Y)) e (drop (e * part_bytes) (drop (v * part_bytes) t)) b
      → TaskGives R ts l t (after_mask b Y)
  with_edges R Y b ly (edges_stopped w i q) =
      let o : suc (l + length Y) + i ≡ suc (l + (v + i)) = omega arith in
      rw ly (task_stopped w (v + i) (q ∙ ap (unreadable (refusal_number w)) o))
  with_edges R Y b ly (all_edges F lf q) =
      let k : Meant.Task = Meant.task m.0 Y F in
      let o : suc (l + length Y) + length F ≡ suc (l + (v + e)) = omega arith in
      let x : v * part_bytes + e * part_bytes ≡ (v + e) * part_bytes = omega arith in
      let d : drop (e * part_bytes) (drop (v * part_bytes) t) ≡ rest = drop-drop (e * part_bytes) (v * part_bytes) t ∙ ap (λ (n : ℕ). drop n t) x in
      let r : R ≡ task_begun ts k (suc (l + (v + e))) rest = q ∙ rw (o, d) in
      rw (← lf, ← ly) (whole-task k (length Y + length F) ((length Y + length F) * part_bytes) (omega arith) (rw (ly, lf) r))

  -- behind the vertices Y, where one of them is as long as m
  with_covered : (R : Reading) (Y : List Meant.Vertex) → length Y ≡ v
      → R ≡ read_from (begun ts (Meant.task m.0 Y []) 0 e) (suc (l + length Y)) (lines_of (drop (v * part_bytes) t))
      → TaskGives R ts l t (after_mask (edge_lines v (vertices_record Y) e (drop (v * part_bytes) t)) Y)
  with_covered R Y ly q =
      let s : List ℕ = drop (v * part_bytes) t in
      let R' : Reading = read_from (begun ts (Meant.task m.0 Y []) 0 e) (suc (l + length Y) + 0) (lines_of s) in
      let b : edges_on (length Y) (vertices_record Y) 0 (edges_record []) 0 e s ≡ edge_lines v (vertices_record Y) e s = rw (ly, no_edges_lem) in
      let o : suc (l + length Y) + 0 ≡ suc (l + length Y) = omega arith in
      let r : R' ≡ R = rw o (sym q) in
      let run : EdgesGive R' ts m.0 Y (suc (l + length Y)) e (drop (e * part_bytes) s) (edge_lines v (vertices_record Y) e s) =
      rw (sym b) (edges_run ts m.0 Y (suc (l + length Y)) e (omega arith) e_in e [] 0 s follows_none (omega arith)) in
      subst (λ (x : Reading). TaskGives x ts l t (after_mask (edge_lines v (vertices_record Y) e s) Y)) r
      (with_edges R' Y (edge_lines v (vertices_record Y) e s) ly run)

  with_vertices : (R : Reading) (a : Result (List Vertex) Stopped) → VerticesGive R ts m.0 e l v (drop (v * part_bytes) t) a
      → TaskGives R ts l t (part_then a (λ vs. task_with v e m vs (edge_lines v vs e (drop (v * part_bytes) t))))
  with_vertices R a (vertices_stopped w i q) = task_stopped w i q
  with_vertices R a (all-vertices Y ly q) = go (leb m.0 (largest_e_in Y)) refl
    where
      same : covers v m (vertices_record Y) ≡ leb m.0 (largest_e_in Y)
      same = ap (λ (n : ℕ). covers n m (vertices_record Y)) (sym ly) ∙ ap (leb m.0) (largest-held Y)

      go : (x : Bool) → leb m.0 (largest_e_in Y) ≡ x → TaskGives R ts l t (task_with v e m (vertices_record Y)
          (edge_lines v (vertices_record Y) e (drop (v * part_bytes) t)))
      go true h = rw (same, h) (with_covered R Y ly (q ∙ rw h))
      go false h =
          let o : l + length Y ≡ suc (l + (v - 1)) = omega arith in
          rw (same, h) (task_stopped OutOfBounds (v - 1) (q ∙ rw (h, o)))

  pub plain_run : TaskGives (read_from (begun ts (Meant.task m.0 [] []) v e) (suc l) (lines_of t)) ts l t (plain_lines v e m t)
  unfolding plain_lines
  plain_run = go v refl
    where
      go : (n : ℕ) → v ≡ n → TaskGives (read_from (begun ts (Meant.task m.0 [] []) v e) (suc l) (lines_of t)) ts l t (plain_lines v e m t)
      go zero z = absurd (omega arith)
      go (suc n) z =
          let R : Reading = read_from (begun ts (Meant.task m.0 [] []) v e) (suc l) (lines_of t) in
          let o : l + 0 ≡ l = omega arith in
          let run : VerticesGive R ts m.0 e l v (drop (v * part_bytes) t) (vertex_lines v t) =
          rw (o, no_vertices, ← z) at (vertices_run ts m.0 e l v (suc n) [] t (omega arith) v_in) in
          with_vertices R (vertex_lines v t) run

-- ---- how far they reach

plain_reach : (v e : ℕ) (m : Ticks) (t : List ℕ) → v ≤ most_vertices → e ≤ most_edges → TaskReach t (plain_lines v e m t)
unfolding plain_lines
plain_reach v e m t v_in e_in = go (vertex_lines v t) (vertices_reach 0 (replicate most_vertices no_vertex) v t)
  where
    with_mask : (vs : List Vertex) (b : Result (List Edge) Stopped) → v * part_bytes ≤ length t → Reach (v + 0) e (drop (v * part_bytes) t) b
        → (x : Bool) → covers v m vs ≡ x → TaskReach t (task_with v e m vs b)
    with_mask vs b l r false q = rw q (stopped_reach t OutOfBounds (v - 1) (omega arith))
    with_mask vs (Err s) l r true q = rw q (stopped_reach t s.refusal s.count (omega (arith, r.few s refl)))
    with_mask vs (Ok es) l r true q =
        rw q (record {
          few = λ a z. (let c : v + e ≡ a.count = cc in omega arith);
          room = λ a z. (let c : (v + e) * part_bytes ≡ a.bytes = cc in omega (arith, r.room es refl, length-drop (v * part_bytes) t));
          stops = λ s z. absurd cc;
        })

    go : (a : Result (List Vertex) Stopped) → Reach 0 v t a → TaskReach t (part_then a (λ vs. task_with v e m vs (edge_lines v vs e (drop (v * part_bytes) t))))
    go (Err s) r = stopped_reach t s.refusal s.count (omega (arith, r.few s refl))
    go (Ok vs) r =
        let s = drop (v * part_bytes) t in
        with_mask vs (edge_lines v vs e s) (r.room vs refl) (edges_reach v vs 0 (replicate most_edges no_edge) 0 e s) (covers v m vs) refl

-- ---- by the task's own line

pub task_run : (ts : List Meant.Task) (l : ℕ) (h : Head) (t : List ℕ) → 1 ≤ h.v → h.v ≤ most_vertices → h.e ≤ most_edges
    → TaskGives (read_from (opened ts h) (suc l) (lines_of t)) ts l t (task_lines h t)
task_run ts l h t some v_in e_in = go h.form refl
  where
    go : (o : Form) → h.form ≡ o → TaskGives (read_from (opened ts h) (suc l) (lines_of t)) ts l t (task_lines h t)
    go Plain q = rw q (plain_run ts l h.v h.e h.m t some v_in e_in)
    go Ring q = rw q (linked_run ts l (ring_to h.v) h.v t some v_in)
    go Gears q = rw q (linked_run ts l (gear_to h.v) h.v t some v_in)

pub task_reach : (h : Head) (t : List ℕ) → h.v ≤ most_vertices → h.e ≤ most_edges → TaskReach t (task_lines h t)
task_reach h t v_in e_in = go h.form refl
  where
    go : (o : Form) → h.form ≡ o → TaskReach t (task_lines h t)
    go Plain q = rw q (plain_reach h.v h.e h.m t v_in e_in)
    go Ring q = rw q (links_reach (ring_to h.v) h.v t v_in)
    go Gears q = rw q (links_reach (gear_to h.v) h.v t v_in)
