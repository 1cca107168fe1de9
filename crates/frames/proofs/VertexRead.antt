-- A vertex's line is read as it means.
use mathlib.Core.Path.{◌≡◌, refl, ◌∙◌}
use Prim.Native.Nat.{ℕ, zero, suc, ◌-◌, ◌<◌}
use native.Mathlib.Omega.{arith}
use mathlib.Core.Bool.{Bool, true, false, ◌||◌}
use mathlib.Core.List.{List, [], ◌∷◌, ◌++◌}
use lib.ListN.{length, drop}
use lib.Dec.{leb, ltb}
use borrow.Author.Tests.{eq-eqb, lt-ltb}
use Rattle.std.specs.Prelude.{Result, Ok, Err}
use Rattle.meaning.specs.Lists.{pick}
use Rattle.meaning.specs.Table as Meant
use Rattle.meaning.specs.Table.{largest_e_in}
use Rattle.meaning.specs.Text.{lines_of, Begun, begun, on, wrong, gate, is_frame, word, vertex_frame, Reading, read_from}
use Rattle.meaning.proofs.Readable.{read_step}
use Rattle.kinds.specs.declared.Refusal.{Refusal}
use Rattle.kinds.specs.declared.Refusal.TheVariants.{WrongFrame, OutOfBounds, JobOverDeadline}
use Rattle.table.specs.declared.Vertex.{Vertex}
use Rattle.table.specs.Record.{vertex_of}
use Rattle.table.specs.Inner.{vertex_cells}
use Rattle.digits.specs.Digits.{worth_of, pair_at}
use Rattle.rules.specs.Rules.{vertex_in, job_in_time}
use Rattle.frames.specs.Frames.{part_digits, part_bytes, fault_of, starts_with, vertex_e, vertex_d, vertex_line}
use Rattle.digits.proofs.Spelled.{Spelled}
use Rattle.digits.proofs.Pairs.{spelled_of}
use Rattle.digits.proofs.Worths.{foreign_above}
use Rattle.rules.proofs.Within.{vertex_bounds}
use Rattle.frames.proofs.LineRead.{gives, right-read}
use Rattle.frames.proofs.Expected.{same-pick, fault_law, Starts, starts_says, framed-bytes, not_frame, fails}

module _ (ts : List Meant.Task) (m : ℕ) (es : List Meant.Edge) (ne n : ℕ) where
  -- behind line n, with the vertices X read and k still wanted: behind the last one m is held to their largest e
  abbrev pub vertex_behind : ℕ → List Meant.Vertex → List ℕ → Reading
  vertex_behind zero X t = read_step (gate (leb m (largest_e_in X)) 3 (on (begun ts (Meant.task m X es) 0 ne))) n (lines_of t)
  vertex_behind (suc k) X t = read_from (begun ts (Meant.task m X es) (suc k) ne) (suc n) (lines_of t)

  mask_behind : (k : ℕ) (X : List Meant.Vertex) (t : List ℕ)
      → read_step (gate (ltb 1 (suc k) || leb m (largest_e_in X)) 3 (on (begun ts (Meant.task m X es) k ne))) n (lines_of t) ≡ vertex_behind k X t
  mask_behind zero X t = refl
  mask_behind (suc k) X t = rw (lt-ltb 1 (suc (suc k)) (omega arith))

module _ (ts : List Meant.Task) (m : ℕ) (vs : List Meant.Vertex) (es : List Meant.Edge) (k ne n : ℕ) (t : List ℕ) where
  abbrev pub before : Begun
  before = begun ts (Meant.task m vs es) (suc k) ne

  abbrev pub behind : Vertex → Reading
  behind x = vertex_behind ts m es ne n k (vs ++ (vertex_of x ∷ [])) (drop part_bytes t)

  vertex_wrong : {f r : List ℕ} → Spelled t f r → is_frame 2 5 f ≡ true → vertex_in (vertex_e t) (vertex_d t) ≡ false
      → vertex_frame before (word f 1) (word f 3) ≡ wrong 3
  unfolding vertex_in
  vertex_wrong z i q = rw (framed-bytes 2 5 z i) (simp q)

  vertex-right : starts_with t 50 part_digits ≡ true → vertex_in (vertex_e t) (vertex_d t) ≡ true
      → read_from before n (lines_of t) ≡ gives (vertex_line t) n behind
  unfolding vertex_line vertex_in worth_of
  vertex-right p q =
      let s : Starts t 50 part_digits = starts_says t 50 part_digits p in
      let b = vertex_bounds (vertex_e t) (vertex_d t) q in
      let above = foreign_above in
      let c : pair_at t 0 ≡ 2 = simp (s.first, s.second) in
      let z = spelled_of 5 t s.long s.fed (omega arith, (omega arith, (omega arith, (omega arith, (omega arith, tt))))) in
      let o : suc k - 1 ≡ k = omega arith in
      right-read before n z ∙ simp (eq-eqb (pair_at t 0) 2 c, q, o, p) (gated (job_in_time (vertex_e t) (vertex_d t)))
    where
      x : Vertex
      x = vertex_cells (vertex_e t) (vertex_d t)

      vs' : List Meant.Vertex
      vs' = vs ++ (vertex_of x ∷ [])

      gated : (b : Bool)
          → read_step (gate b 13 (gate (ltb 1 (suc k) || leb m (largest_e_in vs')) 3 (on (begun ts (Meant.task m vs' es) k ne)))) n (lines_of (drop part_bytes t))
          ≡ gives (pick b (Ok x) (Err JobOverDeadline)) n behind
      gated true = mask_behind ts m es ne n k vs' (drop part_bytes t)
      gated false = refl

  pub vertex-read : read_from before n (lines_of t) ≡ gives (vertex_line t) n behind
  unfolding vertex_line
  vertex-read = go (starts_with t 50 part_digits) refl (vertex_in (vertex_e t) (vertex_d t)) refl
    where
      go : (x : Bool) → starts_with t 50 part_digits ≡ x → (y : Bool) → vertex_in (vertex_e t) (vertex_d t) ≡ y
          → read_from before n (lines_of t) ≡ gives (vertex_line t) n behind
      go false p y q = simp p (fault_law before n part_digits WrongFrame t (λ b f r z. simp (not_frame 2 (omega arith) 5 z p, same-pick)))
      go true p true q = vertex-right p q
      go true p false q =
          simp (p, q) (fault_law before n part_digits OutOfBounds t (λ b f r z.
          let step = vertex_frame before (word (b ∷ f) 1) (word (b ∷ f) 3) in
          fails 2 (omega arith) 5 OutOfBounds step z (starts_says t 50 part_digits p) (λ i. vertex_wrong z i q)))

-- a line that is taken has ten digits and a line feed
pub vertex-long : (t : List ℕ) (x : Vertex) → vertex_line t ≡ Ok x → part_digits < length t
unfolding vertex_line
vertex-long t x = go (starts_with t 50 part_digits) refl
  where
    go : (y : Bool) → starts_with t 50 part_digits ≡ y → vertex_line t ≡ Ok x → part_digits < length t
    go true p e = (starts_says t 50 part_digits p).long
    go false p e = absurd (let g : ◌≡◌ {A = Result Vertex Refusal} (Err (fault_of t part_digits WrongFrame)) (Ok x) = simp p at e in cc)
