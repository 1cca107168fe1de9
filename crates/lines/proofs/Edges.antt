-- An edge's line, and the lines of a task's edges, are read as they mean.
use mathlib.Core.Path.{◌≡◌, refl, ap, ◌∙◌}
use Prim.Native.Nat.{ℕ, zero, suc, ◌+◌, ◌*◌, ◌≤◌}
use native.Mathlib.Omega.{arith}
use mathlib.Core.List.{List, [], ◌∷◌, ◌++◌}
use lib.ListN.{length, length-append, drop, set}
use Rattle.meaning.specs.Bounds.{most_vertices, most_edges}
use Rattle.meaning.specs.Table as Meant
use Rattle.meaning.specs.Text.{lines_of, begun, Reading, unreadable, read_from}
use Rattle.kinds.specs.declared.Refusal.{Refusal}
use Rattle.kinds.specs.Numbers.{refusal_number}
use Rattle.table.specs.declared.Vertex.{Vertex}
use Rattle.table.specs.declared.Edge.{Edge}
use Rattle.table.specs.Record.{no_edge, edge_record, edge_of}
use Rattle.table.specs.Inner.{vertices_record, edges_record}
use Rattle.std.specs.Prelude.{Result, Ok, Err}
use Rattle.lines.specs.declared.Stopped.{Stopped}
use Rattle.frames.specs.Frames.{part_bytes, edge_line}
use Rattle.lines.specs.Parts.{stopped, edges_on}
use Rattle.rules.specs.Rules.{least_after}
use Rattle.rules.proofs.Order.{Follows, follows_more}
use Rattle.frames.proofs.EdgeRead.{edge-read, EdgeHas, edge_has}
use Rattle.lines.proofs.Padded.{padded-set}
use Rattle.lines.proofs.Reach.{drop-part, Reach, reach_none, reach_stopped, reach_more}

-- ---- the lines of a task's edges

-- what becomes of the reading R: it goes on with the edges F in place and `rest` to read, or it ends at line l + i
pub data EdgesGive (R : Reading) (ts : List Meant.Task) (m : ℕ) (X : List Meant.Vertex) (l ne : ℕ) (rest : List ℕ) : Result (List Edge) Stopped → Type 0 where
  all_edges : (F : List Meant.Edge) → length F ≡ ne → R ≡ read_from (begun ts (Meant.task m X F) 0 0) (l + length F) (lines_of rest)
      → EdgesGive R ts m X l ne rest (Ok (edges_record F))
  edges_stopped : (w : Refusal) (i : ℕ) → R ≡ unreadable (refusal_number w) (l + i)
      → EdgesGive R ts m X l ne rest (Err (stopped w (length X + i)))

module _ (ts : List Meant.Task) (m : ℕ) (X : List Meant.Vertex) (l ne : ℕ) (room : length X ≤ most_vertices) (top : ne ≤ most_edges) where
  abbrev at : List Meant.Edge → ℕ → ℕ → List ℕ → Reading
  at E k n t = read_from (begun ts (Meant.task m X E) 0 k) n (lines_of t)

  abbrev Runs : ℕ → List Meant.Edge → ℕ → List ℕ → Type 0
  Runs k E least t =
      EdgesGive (at E k (l + length E) t) ts m X l ne (drop (k * part_bytes) t)
      (edges_on (length X) (vertices_record X) (length E) (edges_record E) least k t)

  pub edges_run : (k : ℕ) (E : List Meant.Edge) (least : ℕ) (t : List ℕ) → Follows E least → length E + k ≡ ne → Runs k E least t
  unfolding edges_on
  edges_run zero E least t h e = all_edges E (omega arith) refl
  edges_run (suc k) E least t h e = go (edge_line (length X) (vertices_record X) least t) refl (λ F z s g q. edges_run k F z s g q)
    where
      go : (x : Result Edge Refusal) → edge_line (length X) (vertices_record X) least t ≡ x
          → ((F : List Meant.Edge) (z : ℕ) (s : List ℕ) → Follows F z → length F + k ≡ ne → Runs k F z s) → Runs (suc k) E least t
      go (Err w) q ih = rw q (edges_stopped w (length E) (edge-read ts m X E k (l + length E) least t room h ∙ rw q))
      go (Ok x) q ih =
          let F : List Meant.Edge = E ++ (edge_of x ∷ []) in
          let v : EdgeHas (length X) t x = edge_has (length X) (vertices_record X) least t x q in
          let a : length F ≡ length E + 1 = length-append E (edge_of x ∷ []) in
          let b : set (edges_record E) (length E) x ≡ edges_record F = padded-set most_edges no_edge edge_record E (edge_of x) (omega arith) in
          let c : drop (k * part_bytes) (drop part_bytes t) ≡ drop (suc k * part_bytes) t = drop-part k t in
          let s = drop part_bytes t in
          let o : suc (l + length E) ≡ l + length F = omega arith in
          let on : at E (suc k) (l + length E) t ≡ at F k (suc (l + length E)) s = edge-read ts m X E k (l + length E) least t room h ∙ rw q in
          let d : at E (suc k) (l + length E) t ≡ at F k (l + length F) s = on ∙ ap (λ (z : ℕ). at F k z s) o in
          rw (q, d, ← c, b, ← a) (ih F (least_after x.from.0 x.to.0) s (follows_more E (edge_of x) (omega arith)) (omega arith))

-- ---- how far they reach

module _ (n : ℕ) (vs : List Vertex) where
  abbrev Reaches : ℕ → List Edge → ℕ → ℕ → List ℕ → Type 0
  Reaches i es least k t = Reach (n + i) k t (edges_on n vs i es least k t)

  pub edges_reach : (i : ℕ) (es : List Edge) (least k : ℕ) (t : List ℕ) → Reaches i es least k t
  unfolding edges_on
  edges_reach i es least zero t = reach_none (n + i) t es
  edges_reach i es least (suc k) t = go (edge_line n vs least t) refl (λ x z. edges_reach (i + 1) (set es i x) z k (drop part_bytes t))
    where
      go : (x : Result Edge Refusal) → edge_line n vs least t ≡ x
          → ((y : Edge) (z : ℕ) → Reaches (i + 1) (set es i y) z k (drop part_bytes t)) → Reaches i es least (suc k) t
      go (Err w) q ih = rw q (reach_stopped (n + i) (suc k) t w)
      go (Ok x) q ih =
          let o : n + (i + 1) ≡ n + i + 1 = omega arith in
          rw q (reach_more (n + i) k t _ (edge_has n vs least t x q).long (rw o at (ih x (least_after x.from.0 x.to.0))))
