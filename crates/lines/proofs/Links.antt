-- The lines of a ring's and a gear table's vertices are read as they mean.
use mathlib.Core.Path.{◌≡◌, refl, sym, ap, subst, ◌∙◌}
use Prim.Native.Nat.{ℕ, zero, suc, ◌+◌, ◌*◌, ◌≤◌, ◌<◌}
use native.Mathlib.Omega.{arith}
use mathlib.Core.List.{List, [], ◌∷◌, ◌++◌}
use lib.ListN.{length, length-append, length-drop, drop, set, replicate}
use lib.Seq.{drop-drop}
use Rattle.meaning.specs.Bounds.{most_vertices, most_edges}
use Rattle.meaning.specs.Table as Meant
use Rattle.meaning.specs.Text.{lines_of, frame_of, linked, Reading, read_from}
use Rattle.meaning.proofs.Readable.{linked-whole}
use Rattle.table.specs.declared.Vertex.{Vertex}
use Rattle.table.specs.declared.Edge.{Edge}
use Rattle.table.specs.Record.{task_cells, no_vertex, no_edge, vertex_record, edge_record, vertex_of}
use Rattle.table.specs.Inner.{ticks, vertices_record, edges_record, edge_cells}
use Rattle.std.specs.Prelude.{Result, Ok, Err}
use Rattle.kinds.specs.declared.Refusal.{Refusal}
use Rattle.frames.specs.declared.Link.{Link}
use Rattle.lines.specs.declared.Stopped.{Stopped}
use Rattle.frames.specs.Frames.{link_digits, link_bytes, link_line}
use Rattle.lines.specs.Parts.{TaskTaken, took_task, links_on, link_lines}
use Rattle.frames.proofs.LineRead.{gives}
use Rattle.frames.proofs.LinkRead.{link_more, link-read, link-long}
use Rattle.lines.proofs.Padded.{padded-set}
use Rattle.lines.proofs.Gives.{no_vertices, no_edges_lem, task_begun, TaskGives, whole-task, task_stopped, TaskReach}

-- behind the line l of a ring or a gear table of v vertices, of which the text t has the lines
module _ (ts : List Meant.Task) (l : ℕ) (to : ℕ → ℕ) (v : ℕ) (t : List ℕ) (some : 1 ≤ v) (v_in : v ≤ most_vertices) where
  abbrev at : List Meant.Vertex → List Meant.Edge → ℕ → ℕ → List ℕ → Reading
  at X E k n s = read_from (linked ts (Meant.task 0 X E) to k) n (lines_of s)

  -- s is what is left behind the lines of the vertices X
  abbrev Runs : ℕ → List Meant.Vertex → List Meant.Edge → List ℕ → Type 0
  Runs k X E s =
      length X + k ≡ v → length E ≡ length X → s ≡ drop (length X * link_bytes) t
      → TaskGives (at X E k (suc (l + length X)) s) ts l t (links_on to (length X) (vertices_record X) (edges_record E) k s)

  links_run : (k : ℕ) (X : List Meant.Vertex) (E : List Meant.Edge) (s : List ℕ) → Runs k X E s
  unfolding links_on
  links_run zero X E s c e r =
      let task : Meant.Task = Meant.task 0 X E in
      let line = suc (l + length X) in
      subst
      (λ (n : ℕ). TaskGives (at X E 0 line s) ts l t
      (Ok (took_task (length X) (length X * link_bytes) (task_cells (ticks 0) (length X) n (vertices_record X) (edges_record E))))) e
      (whole-task task (length X) (length X * link_bytes) (omega arith) (linked-whole frame_of ts task to line (lines_of s) ∙ ap (task_begun ts task line) r))
  links_run (suc k) X E s c e r = go (link_line s) refl (λ Y F u. links_run k Y F u)
    where
      read_here : at X E (suc k) (suc (l + length X)) s ≡ gives (link_line s) (suc (l + length X))
          (λ x. read_from (linked ts (link_more ts X E to k (suc (l + length X)) s x) to k) (suc (suc (l + length X))) (lines_of (drop link_bytes s)))
      read_here = link-read ts X E to k (suc (l + length X)) s

      go : (x : Result Link Refusal) → link_line s ≡ x → ((Y : List Meant.Vertex) (F : List Meant.Edge) (u : List ℕ) → Runs k Y F u)
          → TaskGives (at X E (suc k) (suc (l + length X)) s) ts l t (links_on to (length X) (vertices_record X) (edges_record E) (suc k) s)
      go (Err w) q ih = rw q (task_stopped w (length X) (read_here ∙ rw q))
      go (Ok x) q ih =
          let i = length X in
          let Y : List Meant.Vertex = X ++ (vertex_of x.vertex ∷ []) in
          let y : Meant.Edge = Meant.edge i (to i) x.p.0 in
          let F : List Meant.Edge = E ++ (y ∷ []) in
          let a : length Y ≡ i + 1 = length-append X (vertex_of x.vertex ∷ []) in
          let b : length F ≡ length E + 1 = length-append E (y ∷ []) in
          let u = drop link_bytes s in
          let vs : set (vertices_record X) i x.vertex ≡ vertices_record Y =
          padded-set most_vertices no_vertex vertex_record X (vertex_of x.vertex) (omega arith) in
          let es : set (edges_record E) i (edge_cells i (to i) x.p.0) ≡ edges_record F =
          ap (λ (j : ℕ). set (edges_record E) j (edge_record y)) (sym e) ∙ padded-set most_edges no_edge edge_record E y (omega arith) in
          let o : suc (suc (l + i)) ≡ suc (l + length Y) = omega arith in
          let z : i * link_bytes + link_bytes ≡ length Y * link_bytes = omega arith in
          let d : at X E (suc k) (suc (l + i)) s ≡ at Y F k (suc (l + length Y)) u = read_here ∙ rw q (ap (λ (n : ℕ). at Y F k n u) o) in
          rw (q, d, vs, es, ← a)
          (ih Y F u (omega arith) (omega arith) (ap (drop link_bytes) r ∙ drop-drop link_bytes (i * link_bytes) t ∙ ap (λ (n : ℕ). drop n t) z))

  pub linked_run : TaskGives (read_from (linked ts (Meant.task 0 [] []) to v) (suc l) (lines_of t)) ts l t (link_lines to v t)
  linked_run =
      let o : l + 0 ≡ l = omega arith in
      rw (o, no_vertices, no_edges_lem) at (links_run v [] [] t (omega arith) refl refl)

-- ---- how far they reach

module _ (to : ℕ → ℕ) where
  -- after i lines, k more of the text t
  record LinksReach (i k : ℕ) (t : List ℕ) (r : Result TaskTaken Stopped) : Type 0 where
    few : (a : TaskTaken) → r ≡ Ok a → (a.count ≤ i + k) × (a.bytes ≤ i * link_bytes + length t)
    stops : (s : Stopped) → r ≡ Err s → s.count ≤ i + k

  links_on_reach : (i : ℕ) (vs : List Vertex) (es : List Edge) (k : ℕ) (t : List ℕ) → LinksReach i k t (links_on to i vs es k t)
  unfolding links_on
  links_on_reach i vs es zero t =
      record {
        few = λ a e. (let c : i ≡ a.count = cc in let b : i * link_bytes ≡ a.bytes = cc in (omega arith, omega arith));
        stops = λ s e. absurd cc;
      }
  links_on_reach i vs es (suc k) t = go (link_line t) refl (λ ws fs. links_on_reach (i + 1) ws fs k (drop link_bytes t))
    where
      go : (x : Result Link Refusal) → link_line t ≡ x
          → ((ws : List Vertex) (fs : List Edge) → LinksReach (i + 1) k (drop link_bytes t) (links_on to (i + 1) ws fs k (drop link_bytes t)))
          → LinksReach i (suc k) t (links_on to i vs es (suc k) t)
      go (Err w) q ih = rw q (record { few = λ a e. absurd cc; stops = λ s e. (let c : i ≡ s.count = cc in omega arith) })
      go (Ok x) q ih =
          let r = ih (set vs i x.vertex) (set es i (edge_cells i (to i) x.p.0)) in
          let l : link_digits < length t = link-long t x q in
          rw q (record {
            few = λ a e. (let h = r.few a e in (omega (arith, h.0), omega (arith, h.1, l, length-drop link_bytes t)));
            stops = λ s e. omega (arith, r.stops s e);
          })

  pub links_reach : (n : ℕ) (t : List ℕ) → n ≤ most_vertices → TaskReach t (link_lines to n t)
  links_reach n t h =
      let r = links_on_reach 0 (replicate most_vertices no_vertex) (replicate most_edges no_edge) n t in
      record { few = λ a e. omega (arith, (r.few a e).0); room = λ a e. omega (arith, (r.few a e).1); stops = λ s e. omega (arith, r.stops s e) }
