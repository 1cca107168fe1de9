-- The line of a vertex of a ring or a gear table is read as it means.
use mathlib.Core.Path.{◌≡◌, refl, ◌∙◌}
use Prim.Native.Nat.{ℕ, suc, ◌-◌, ◌<◌}
use native.Mathlib.Omega.{arith}
use mathlib.Core.Bool.{Bool, true, false}
use mathlib.Core.List.{List, [], ◌∷◌, ◌++◌}
use lib.ListN.{length, drop}
use Rattle.std.specs.Prelude.{Result, Ok, Err}
use Rattle.meaning.specs.Table as Meant
use Rattle.meaning.specs.Text.{lines_of, Begun, linked, on, wrong, gate, is_frame, word, link_frame, Reading, read_from}
use Rattle.meaning.specs.Lists.{pick}
use Rattle.meaning.proofs.Readable.{read_step}
use Rattle.kinds.specs.declared.Refusal.{Refusal}
use Rattle.frames.specs.declared.Link.{Link}
use Rattle.kinds.specs.declared.Refusal.TheVariants.{WrongFrame, OutOfBounds, DeadlineOverSeparation, JobOverDeadline}
use Rattle.table.specs.Record.{vertex_of}
use Rattle.digits.specs.Digits.{worth_of, pair_at}
use Rattle.rules.specs.Rules.{link_in, job_in_time, edge_spaced}
use Rattle.frames.specs.Frames.{link_digits, link_bytes, fault_of, starts_with, vertex_e, vertex_d, link_p, link_cells, link_line}
use Rattle.digits.proofs.Spelled.{Spelled}
use Rattle.digits.proofs.Pairs.{spelled_of}
use Rattle.digits.proofs.Worths.{foreign_above}
use Rattle.rules.proofs.Within.{link_bounds}
use Rattle.frames.proofs.LineRead.{gives, right-read}
use Rattle.frames.proofs.Expected.{same-pick, fault_law, Starts, starts_says, framed-bytes, not_frame, fails}

module _ (ts : List Meant.Task) (vs : List Meant.Vertex) (es : List Meant.Edge) (to : ℕ → ℕ) (k n : ℕ) (t : List ℕ) where
  abbrev before : Begun
  before = linked ts (Meant.task 0 vs es) to (suc k)

  -- the vertex, and its only edge
  abbrev pub link_more : Link → Meant.Task
  link_more x = Meant.task 0 (vs ++ (vertex_of x.vertex ∷ [])) (es ++ (Meant.edge (length vs) (to (length vs)) x.p.0 ∷ []))

  abbrev behind : Link → Reading
  behind x = read_from (linked ts (link_more x) to k) (suc n) (lines_of (drop link_bytes t))

  link_wrong : {f r : List ℕ} → Spelled t f r → is_frame 6 7 f ≡ true → link_in (vertex_e t) (vertex_d t) (link_p t) ≡ false
      → link_frame before to (word f 1) (word f 3) (word f 5) ≡ wrong 3
  unfolding link_in
  link_wrong z i q = rw (framed-bytes 6 7 z i) (simp q)

  link-right : starts_with t 54 link_digits ≡ true → link_in (vertex_e t) (vertex_d t) (link_p t) ≡ true
      → read_from before n (lines_of t) ≡ gives (link_line t) n behind
  unfolding link_line link_in worth_of
  link-right p q =
      let s : Starts t 54 link_digits = starts_says t 54 link_digits p in
      let b = link_bounds (vertex_e t) (vertex_d t) (link_p t) q in
      let above = foreign_above in
      let c : pair_at t 0 ≡ 6 = simp (s.first, s.second) in
      let z =
      spelled_of 7 t s.long s.fed (omega arith, (omega arith, (omega arith, (omega arith, (omega arith, (omega arith, (omega arith, tt))))))) in
      let o : suc k - 1 ≡ k = omega arith in
      right-read before n z ∙ simp (c, q, o, p) (gated (job_in_time (vertex_e t) (vertex_d t)) (edge_spaced (vertex_d t) (link_p t)))
    where
      x : Link
      x = link_cells (vertex_e t) (vertex_d t) (link_p t)

      gated : (a b : Bool) → read_step (gate a 13 (gate b 4 (on (linked ts (link_more x) to k)))) n (lines_of (drop link_bytes t))
          ≡ gives (pick a (pick b (Ok x) (Err DeadlineOverSeparation)) (Err JobOverDeadline)) n behind
      gated true true = refl
      gated true false = refl
      gated false b = refl

  pub link-read : read_from before n (lines_of t) ≡ gives (link_line t) n behind
  unfolding link_line
  link-read = go (starts_with t 54 link_digits) refl (link_in (vertex_e t) (vertex_d t) (link_p t)) refl
    where
      go : (x : Bool) → starts_with t 54 link_digits ≡ x → (y : Bool) → link_in (vertex_e t) (vertex_d t) (link_p t) ≡ y
          → read_from before n (lines_of t) ≡ gives (link_line t) n behind
      go false p y q = simp p (fault_law before n link_digits WrongFrame t (λ b f r z. simp (not_frame 6 (omega arith) 7 z p, same-pick)))
      go true p true q = link-right p q
      go true p false q =
          simp (p, q) (fault_law before n link_digits OutOfBounds t (λ b f r z.
          let step = link_frame before to (word (b ∷ f) 1) (word (b ∷ f) 3) (word (b ∷ f) 5) in
          fails 6 (omega arith) 7 OutOfBounds step z (starts_says t 54 link_digits p) (λ i. link_wrong z i q)))

-- a line that is taken has fourteen digits and a line feed
pub link-long : (t : List ℕ) (x : Link) → link_line t ≡ Ok x → link_digits < length t
unfolding link_line
link-long t x = go (starts_with t 54 link_digits) refl
  where
    go : (y : Bool) → starts_with t 54 link_digits ≡ y → link_line t ≡ Ok x → link_digits < length t
    go true q e = (starts_says t 54 link_digits q).long
    go false q e = absurd (let g : ◌≡◌ {A = Result Link Refusal} (Err (fault_of t link_digits WrongFrame)) (Ok x) = simp q at e in cc)
