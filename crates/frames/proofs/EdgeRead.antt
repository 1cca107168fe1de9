-- An edge's line is read as it means.
use mathlib.Core.Path.{◌≡◌, refl, ap, subst, ◌∙◌}
use Prim.Native.Nat.{ℕ, suc, ◌-◌, ◌≤◌, ◌<◌}
use native.Mathlib.Omega.{arith}
use mathlib.Core.Bool.{Bool, true, false}
use mathlib.Core.List.{List, [], ◌∷◌, ◌++◌, map}
use lib.ListN.{length, length-map, get_or, drop}
use borrow.Author.Tests.{eq-eqb}
use Rattle.std.specs.Prelude.{Result, Ok, Err}
use Rattle.meaning.specs.Bounds.{most_vertices}
use Rattle.meaning.specs.Table as Meant
use Rattle.meaning.specs.Text.{lines_of, Begun, begun, on, wrong, is_frame, word, gate, edge_frame, after_last, Reading, read_from}
use Rattle.kinds.specs.declared.Refusal.{Refusal}
use Rattle.kinds.specs.declared.Refusal.TheVariants.{WrongFrame, OutOfBounds}
use Rattle.table.specs.declared.Vertex.{Vertex}
use Rattle.table.specs.declared.Edge.{Edge}
use Rattle.table.specs.Record.{no_vertex, vertex_record, edge_of}
use Rattle.table.specs.Inner.{edge_cells, vertices_record}
use Rattle.digits.specs.Digits.{worth_of, pair_at}
use Rattle.meaning.proofs.Lists.{get_or_mapped}
use Rattle.meaning.proofs.Readable.{read_step}
use Rattle.table.proofs.Record.{get_or-padded}
use Rattle.rules.specs.Rules.{edge_in, edge_spaced, edge_after}
use Rattle.frames.specs.Frames.{part_digits, part_bytes, starts_with, edge_from, edge_to, edge_p, edge_line}
use Rattle.digits.proofs.Spelled.{Spelled}
use Rattle.digits.proofs.Pairs.{spelled_of}
use Rattle.digits.proofs.Worths.{foreign_above}
use Rattle.rules.proofs.Order.{Follows}
use Rattle.rules.proofs.Within.{edge_bounds}
use Rattle.frames.proofs.LineRead.{gives, right-read}
use Rattle.frames.proofs.Expected.{same-pick, fault_law, Starts, starts_says, framed-bytes, not_frame, fails}

-- d of a vertex, in its cell
start_d : (X : List Meant.Vertex) (i : ℕ) → i < length X → (get_or (vertices_record X) i no_vertex).d.0 ≡ (get_or X i Meant.no_vertex).d
start_d X i h =
    ap (λ (x : Vertex). x.d.0)
    (get_or-padded most_vertices no_vertex no_vertex (map vertex_record X) i (omega (arith, length-map X vertex_record))
    ∙ get_or_mapped vertex_record no_vertex Meant.no_vertex X i h)

module _ (ts : List Meant.Task) (m : ℕ) (X : List Meant.Vertex) (E : List Meant.Edge) (k n least : ℕ) (t : List ℕ)
    (room : length X ≤ most_vertices) (follows : Follows E least)
  where
    abbrev pub before : Begun
    before = begun ts (Meant.task m X E) 0 (suc k)

    abbrev pub behind : Edge → Reading
    behind x = read_from (begun ts (Meant.task m X (E ++ (edge_of x ∷ []))) 0 k) (suc n) (lines_of (drop part_bytes t))

    abbrev inside : Bool
    inside = edge_in (length X) (edge_from t) (edge_to t) (edge_p t)

    abbrev spaced : Bool
    spaced = edge_spaced (get_or (vertices_record X) (edge_from t) no_vertex).d.0 (edge_p t)

    abbrev after : Bool
    after = edge_after least (edge_from t) (edge_to t)

    abbrev edge : Meant.Edge
    edge = Meant.edge (edge_from t) (edge_to t) (edge_p t)

    abbrev taken : Begun
    taken = begun ts (Meant.task m X (E ++ (edge ∷ []))) 0 k

    edge_wrong : {f r : List ℕ} → Spelled t f r → is_frame 3 5 f ≡ true → inside ≡ false
        → edge_frame before (get_or f 1 0) (get_or f 2 0) (word f 3) ≡ wrong 3
    unfolding edge_in
    edge_wrong z i q = rw (framed-bytes 3 5 z i) (simp q)

    edge-framed : starts_with t 51 part_digits ≡ true → inside ≡ true
        → read_from before n (lines_of t) ≡ read_step (gate spaced 4 (gate after 5 (on taken))) n (lines_of (drop part_bytes t))
    unfolding edge_in worth_of
    edge-framed p q =
        let s : Starts t 51 part_digits = starts_says t 51 part_digits p in
        let b = edge_bounds (length X) (edge_from t) (edge_to t) (edge_p t) q in
        let above = foreign_above in
        let c : pair_at t 0 ≡ 3 = simp (s.first, s.second) in
        let z = spelled_of 5 t s.long s.fed (omega arith, (omega arith, (omega arith, (omega arith, (omega arith, tt))))) in
        let o : suc k - 1 ≡ k = omega arith in
        let d = start_d X (edge_from t) b.from_in in
        let a : after_last E edge ≡ after = follows (edge_from t) (edge_to t) (edge_p t) (omega arith) in
        right-read before n z ∙ simp (eq-eqb (pair_at t 0) 3 c, q, o, d, a)

    pub edge-read : read_from before n (lines_of t) ≡ gives (edge_line (length X) (vertices_record X) least t) n behind
    unfolding edge_line
    edge-read = go (starts_with t 51 part_digits) refl inside refl spaced refl after refl
      where
        go : (x : Bool) → starts_with t 51 part_digits ≡ x → (y : Bool) → inside ≡ y → (u : Bool) → spaced ≡ u → (v : Bool) → after ≡ v
            → read_from before n (lines_of t) ≡ gives (edge_line (length X) (vertices_record X) least t) n behind
        go false p y q u g v h = simp p (fault_law before n part_digits WrongFrame t (λ b f r z. simp (not_frame 3 (omega arith) 5 z p, same-pick)))
        go true p false q u g v h =
            simp (p, q) (fault_law before n part_digits OutOfBounds t (λ b f r z.
            let step = edge_frame before (get_or (b ∷ f) 1 0) (get_or (b ∷ f) 2 0) (word (b ∷ f) 3) in
            fails 3 (omega arith) 5 OutOfBounds step z (starts_says t 51 part_digits p) (λ i. edge_wrong z i q)))
        go true p true q false g v h = edge-framed p q ∙ simp (p, q, g)
        go true p true q true g false h = edge-framed p q ∙ simp (p, q, g, h)
        go true p true q true g true h = edge-framed p q ∙ simp (p, q, g, h)

-- what a line that is taken has
pub record EdgeHas (n : ℕ) (t : List ℕ) (x : Edge) : Type 0 where
  pub long : part_digits < length t
  pub from_in : x.from.0 < n
  pub to_in : x.to.0 < n

module _ (n : ℕ) (vs : List Vertex) (least : ℕ) (t : List ℕ) (x : Edge) where
  abbrev within : Bool
  within = edge_in n (edge_from t) (edge_to t) (edge_p t)

  abbrev apart : Bool
  apart = edge_spaced (get_or vs (edge_from t) no_vertex).d.0 (edge_p t)

  abbrev next : Bool
  next = edge_after least (edge_from t) (edge_to t)

  abbrev cells : Edge
  cells = edge_cells (edge_from t) (edge_to t) (edge_p t)

  pub edge_has : edge_line n vs least t ≡ Ok x → EdgeHas n t x
  unfolding edge_line
  edge_has = go (starts_with t 51 part_digits) refl within refl apart refl next refl
    where
      refused : {A : Type 0} {w : Refusal} → ◌≡◌ {A = Result Edge Refusal} (Err w) (Ok x) → A
      refused e = absurd (let k : ◌≡◌ {A = ℕ} 0 1 = cc in omega arith)

      go : (a : Bool) → starts_with t 51 part_digits ≡ a → (b : Bool) → within ≡ b → (u : Bool) → apart ≡ u → (v : Bool) → next ≡ v
          → edge_line n vs least t ≡ Ok x → EdgeHas n t x
      go false p b q u g v h e = refused (simp p at e)
      go true p false q u g v h e = refused (simp (p, q) at e)
      go true p true q false g v h e = refused (simp (p, q, g) at e)
      go true p true q true g false h e = refused (simp (p, q, g, h) at e)
      go true p true q true g true h e =
          let m = edge_bounds n (edge_from t) (edge_to t) (edge_p t) q in
          let f : ◌≡◌ {A = Result Edge Refusal} (Ok cells) (Ok x) = simp (p, q, g, h) at e in
          let y : cells ≡ x = cc in
          record {
            long = (starts_says t 51 part_digits p).long;
            from_in = subst (λ (z : Edge). z.from.0 < n) y m.from_in;
            to_in = subst (λ (z : Edge). z.to.0 < n) y m.to_in;
          }
