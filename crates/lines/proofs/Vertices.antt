-- A vertex's line, and the lines of a task's vertices, are read as they mean.
use mathlib.Core.Path.{◌≡◌, refl, sym, ap, ◌∙◌}
use Prim.Native.Nat.{ℕ, zero, suc, ◌+◌, ◌*◌, ◌≤◌}
use native.Mathlib.Omega.{arith}
use mathlib.Core.List.{List, [], ◌∷◌, ◌++◌}
use lib.ListN.{length, length-append, length-set, drop, set}
use Rattle.meaning.specs.Bounds.{most_vertices}
use Rattle.meaning.specs.Table as Meant
use Rattle.meaning.specs.Text.{Reading, unreadable}
use Rattle.kinds.specs.declared.Refusal.{Refusal}
use Rattle.kinds.specs.Numbers.{refusal_number}
use Rattle.table.specs.declared.Vertex.{Vertex}
use Rattle.table.specs.Record.{no_vertex, vertex_record, vertex_of}
use Rattle.table.specs.Inner.{vertices_record}
use Rattle.std.specs.Prelude.{Result, Ok, Err}
use Rattle.lines.specs.declared.Stopped.{Stopped}
use Rattle.frames.specs.Frames.{part_bytes, vertex_line}
use Rattle.lines.specs.Parts.{stopped, vertices_on}
use Rattle.frames.proofs.LineRead.{gives}
use Rattle.frames.proofs.VertexRead.{vertex_behind, vertex-read, vertex-long}
use Rattle.lines.proofs.Reach.{drop-part, Reach, reach_none, reach_stopped, reach_more}
use Rattle.lines.proofs.Padded.{padded-set}

-- ---- the lines of a task's vertices

-- what becomes of the reading R behind a task's line l: it goes on behind the last of the vertices Y, with `rest` to read, or it ends at one of their lines
pub data VerticesGive (R : Reading) (ts : List Meant.Task) (m ne l v : ℕ) (rest : List ℕ) : Result (List Vertex) Stopped → Type 0 where
  all-vertices : (Y : List Meant.Vertex) → length Y ≡ v → R ≡ vertex_behind ts m [] ne (l + length Y) 0 Y rest
      → VerticesGive R ts m ne l v rest (Ok (vertices_record Y))
  vertices_stopped : (w : Refusal) (i : ℕ) → R ≡ unreadable (refusal_number w) (suc (l + i))
      → VerticesGive R ts m ne l v rest (Err (stopped w i))

module _ (ts : List Meant.Task) (m ne l v : ℕ) where
  abbrev at : List Meant.Vertex → ℕ → ℕ → List ℕ → Reading
  at X k n t = vertex_behind ts m [] ne n k X t

  abbrev Runs : ℕ → List Meant.Vertex → List ℕ → Type 0
  Runs k X t = VerticesGive (at X k (l + length X) t) ts m ne l v (drop (k * part_bytes) t) (vertices_on (length X) (vertices_record X) k t)

  pub vertices_run : (k : ℕ) (X : List Meant.Vertex) (t : List ℕ) → length X + k ≡ v → v ≤ most_vertices → Runs k X t
  unfolding vertices_on
  vertices_run zero X t e h = all-vertices X (omega arith) refl
  vertices_run (suc k) X t e h = go (vertex_line t) refl (λ Y s q. vertices_run k Y s q h)
    where
      read_here : at X (suc k) (l + length X) t
          ≡ gives (vertex_line t) (suc (l + length X)) (λ x. at (X ++ (vertex_of x ∷ [])) k (suc (l + length X)) (drop part_bytes t))
      read_here = vertex-read ts m X [] k ne (suc (l + length X)) t

      go : (x : Result Vertex Refusal) → vertex_line t ≡ x → ((Y : List Meant.Vertex) (s : List ℕ) → length Y + k ≡ v → Runs k Y s) → Runs (suc k) X t
      go (Err w) q ih = rw q (vertices_stopped w (length X) (read_here ∙ rw q))
      go (Ok x) q ih =
          let Y : List Meant.Vertex = X ++ (vertex_of x ∷ []) in
          let a : length Y ≡ length X + 1 = length-append X (vertex_of x ∷ []) in
          let b : set (vertices_record X) (length X) x ≡ vertices_record Y = padded-set most_vertices no_vertex vertex_record X (vertex_of x) (omega arith) in
          let c : drop (k * part_bytes) (drop part_bytes t) ≡ drop (suc k * part_bytes) t = drop-part k t in
          let s = drop part_bytes t in
          let o : suc (l + length X) ≡ l + length Y = omega arith in
          let on : at X (suc k) (l + length X) t ≡ at Y k (suc (l + length X)) s = read_here ∙ rw q in
          let d : at X (suc k) (l + length X) t ≡ at Y k (l + length Y) s = on ∙ ap (λ (z : ℕ). at Y k z s) o in
          rw (q, d, ← c, b, ← a) (ih Y s (omega arith))

-- ---- how far they reach

abbrev Reaches : ℕ → List Vertex → ℕ → List ℕ → Type 0
Reaches i vs k t = Reach i k t (vertices_on i vs k t)

pub vertices_reach : (i : ℕ) (vs : List Vertex) (k : ℕ) (t : List ℕ) → Reaches i vs k t
unfolding vertices_on
vertices_reach i vs zero t = reach_none i t vs
vertices_reach i vs (suc k) t = go (vertex_line t) refl (λ x. vertices_reach (i + 1) (set vs i x) k (drop part_bytes t))
  where
    go : (x : Result Vertex Refusal) → vertex_line t ≡ x → ((y : Vertex) → Reaches (i + 1) (set vs i y) k (drop part_bytes t)) → Reaches i vs (suc k) t
    go (Err w) q ih = rw q (reach_stopped i (suc k) t w)
    go (Ok x) q ih = rw q (reach_more i k t _ (vertex-long t x q) (ih x))

-- ---- how many places they leave

pub vertices_places : (i : ℕ) (vs : List Vertex) (k : ℕ) (t : List ℕ) {us : List Vertex} → vertices_on i vs k t ≡ Ok us → length us ≡ length vs
unfolding vertices_on
vertices_places i vs zero t {us} e = let q : vs ≡ us = cc in rw q
vertices_places i vs (suc k) t {us} e = go (vertex_line t) refl (λ x. vertices_places (i + 1) (set vs i x) k (drop part_bytes t))
  where
    go : (x : Result Vertex Refusal) → vertex_line t ≡ x
        → ((y : Vertex) → vertices_on (i + 1) (set vs i y) k (drop part_bytes t) ≡ Ok us → length us ≡ length (set vs i y)) → length us ≡ length vs
    go (Err w) q ih = absurd (let z : Err (stopped w i) ≡ Ok us = sym (rw q) ∙ e in cc)
    go (Ok x) q ih = ih x (sym (rw q) ∙ e) ∙ length-set vs i x
