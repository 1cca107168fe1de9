-- A job longer than its own deadline: no text with such a line is read, 13 refuses such lines alone, and of the other rows only 2 and 7 can name one.
use mathlib.Core.Path.{◌≡◌, refl, sym, ap, ap₂, subst, ◌∙◌}
use Prim.Native.Nat.{ℕ, zero, suc, ◌+◌, ◌-◌, ◌<◌}
use native.Mathlib.Omega.{arith}
use mathlib.Core.Bool.{true, false}
use mathlib.Core.Logic.{◌⊎◌, inl, inr}
use mathlib.Core.Option.{Option, none, some}
use mathlib.Core.List.{List, [], ◌∷◌}
use lib.ListN.{get_or, take}
use lib.Dec.{T}
use Rattle.meaning.specs.Bounds.{largest_e, largest_d, largest_p}
use Rattle.meaning.specs.Table.{Table, vertex}
use Rattle.meaning.specs.Text.{lines_of, frame_of, is_frame, word, Begun, nothing, Step, on, over, wrong, within, task_frame, vertex_frame, edge_frame}
use Rattle.meaning.specs.Text.{ring_to, gear_to, vendor_frame, link_frame, framed, step_at, Reading, readable, unreadable, at_end, frames_from, read}
use Rattle.meaning.specs.Writing.{frames_of, ruled}
use Rattle.meaning.specs.Sound.{SoundVertex}
use Rattle.meaning.specs.Slips.{TooLong, IsVertex, Slip, frame_in, frame_on, SlipRefused}
use Rattle.meaning.proofs.Lists.{is_true}
use Rattle.meaning.proofs.FrameSteps.{job_in, link_in, task_each, vertex_each, edge_each, vendor_each, link_each}
use Rattle.meaning.proofs.FrameSteps.{vertex_wanted, edge_wanted, task_wanted}
use Rattle.meaning.proofs.FramesKeep.{within_true}
use Rattle.meaning.proofs.Readable.{frames_step, step_frames, read_refused}
use Rattle.meaning.proofs.FaultyLine.{From, from_line, row_is, line_is}
use Rattle.meaning.proofs.FrameLines.{apart}
use Rattle.meaning.proofs.FramesBack.{kind_is, differ}
use Rattle.meaning.proofs.WrongFrame.{two-first}

-- ---- what a step says of its frame

abbrev Fair : List ℕ → Step → Type 0
Fair f (on s) = IsVertex f → word f 3 < word f 1 → ⊥
Fair f (over ts) = IsVertex f → word f 3 < word f 1 → ⊥
Fair f (wrong k) = (k ≡ 13 → Slip f) × (Slip f → (k ≡ 13) ⊎ (k ≡ 2))

same : {x : Option (List ℕ)} {f g : List ℕ} → x ≡ some f → x ≡ some g → f ≡ g
same {x} {f} {g} q p = let i : some f ≡ some g = sym q ∙ p in cc

-- no vertex may stand here
not_here : (f : List ℕ) → Fair f (wrong 2)
not_here f = (λ e. absurd (omega arith), λ s. inr refl)

-- refused by another row, a frame that is no slip
by_other : (f : List ℕ) (k : ℕ) → (Slip f → ⊥) → (k ≡ 13 → ⊥) → Fair f (wrong k)
by_other f k right h = (λ e. absurd (h e), λ s. absurd (right s))

module _ (f : List ℕ) where
  abbrev e : ℕ
  e = word f 1

  abbrev d : ℕ
  d = word f 3

  slip_inside : Slip f → job_in e d ≡ true
  slip_inside s =
      let x = s.job in
      rw (within_true 1 largest_e e (omega (arith, x.some_d, x.over)) x.most_e, within_true 1 largest_d d x.some_d x.most_d)

  in_time : SoundVertex (vertex e d) → d < e → ⊥
  in_time x h = omega (arith, x.in_time)

  abbrev Vertex's : Type 0
  Vertex's = T (is_frame 2 5 f) ⊎ (T (is_frame 6 7 f) × T (within 1 largest_p (word f 5)))

  vertex's : Vertex's → IsVertex f
  vertex's (inl x) = inl x
  vertex's (inr x) = inr x.0

  slipped : Vertex's → TooLong e d → Fair f (wrong 13)
  slipped frame x = (λ z. record { frame = frame; job = x }, λ z. inl refl)

  vertex_fair : (s : Begun) → T (is_frame 2 5 f) → Fair f (vertex_frame s e d)
  vertex_fair s t =
      vertex_each (Fair f) s e d (λ h. by_other f 3 (λ z. differ (sym (slip_inside z) ∙ h)) (λ z. omega arith)) (slipped (inl t))
      (λ x. by_other f 3 (λ z. in_time x z.job.over) (λ z. omega arith)) (λ x fits v. in_time x)

  link_fair : (s : Begun) (to : ℕ → ℕ) → T (is_frame 6 7 f) → Fair f (link_frame s to e d (word f 5))
  link_fair s to t =
      link_each (Fair f) s to e d (word f 5) (λ h. by_other f 3 (λ z. outside z h z.frame) (λ z. omega arith)) (λ x p_in. slipped (inr (t, p_in)) x)
      (λ x. by_other f 4 (λ z. in_time x z.job.over) (λ z. omega arith)) (λ x v. in_time x.vertex)
    where
      outside : Slip f → link_in e d (word f 5) ≡ false → Vertex's → ⊥
      outside z h (inl x) = absurd (omega (arith, kind_is 2 5 f x, kind_is 6 7 f t))
      outside z h (inr x) = differ (sym (rw (slip_inside z, is_true (within 1 largest_p (word f 5)) x.1)) ∙ h)

  -- a frame of another kind may be refused by 3, 4 or 5
  module _ (κ n : ℕ) (t : T (is_frame κ n f)) (two : κ ≡ 2 → ⊥) (six : κ ≡ 6 → ⊥) where
    clean : IsVertex f → word f 3 < word f 1 → ⊥
    clean (inl x) h = two (sym (kind_is κ n f t) ∙ kind_is 2 5 f x)
    clean (inr x) h = six (sym (kind_is κ n f t) ∙ kind_is 6 7 f x)

    no_slip : Slip f → ⊥
    no_slip s = clean (vertex's s.frame) s.job.over

    by_three : Fair f (wrong 3)
    by_three = by_other f 3 no_slip (λ z. omega arith)

    task_fair : (s : Begun) (least m : ℕ) → Fair f (task_frame s (get_or f 1 0) (get_or f 2 0) least m)
    task_fair s least m = task_each (Fair f) s (get_or f 1 0) (get_or f 2 0) least m by_three (λ a b c d e. clean)

    vendor_fair : (s : Begun) (to : ℕ → ℕ → ℕ) → Fair f (vendor_frame s to (get_or f 1 0))
    vendor_fair s to = vendor_each (Fair f) s to (get_or f 1 0) by_three (λ a b. clean)

    edge_fair : (s : Begun) → Fair f (edge_frame s (get_or f 1 0) (get_or f 2 0) (word f 3))
    edge_fair s =
        edge_each (Fair f) s (get_or f 1 0) (get_or f 2 0) (word f 3) by_three (by_other f 4 no_slip (λ z. omega arith))
        (by_other f 5 no_slip (λ z. omega arith)) (λ x after. clean)

  framed_fair : (s : Begun) (v w : ℕ) → Fair f (framed s v w f)
  framed_fair s (suc v) w = vertex_wanted (Fair f) s s.leads f (not_here f) (λ l. vertex_fair s) (λ to l. link_fair s to)
  framed_fair s zero (suc w) = edge_wanted (Fair f) s w f (not_here f) (λ t. edge_fair 3 5 t (λ z. omega arith) (λ z. omega arith) s)
  framed_fair s zero zero =
      task_wanted (Fair f) s f (not_here f) (λ t i. task_fair 1 3 t (λ z. omega arith) (λ z. omega arith) s 0 0)
      (λ t i. task_fair 4 5 t (λ z. omega arith) (λ z. omega arith) s 1 (word f 3))
      (λ t i. vendor_fair 5 2 t (λ z. omega arith) (λ z. omega arith) s ring_to) (λ t i. vendor_fair 7 2 t (λ z. omega arith) (λ z. omega arith) s gear_to)
      (λ t i. clean 0 1 t (λ z. omega arith) (λ z. omega arith))

-- ---- the lines from line b on, or the frames

module _ {X : Type 0} (frame : X → Option (List ℕ)) where
  abbrev Says : ℕ → List X → Reading → Type 0
  Says b ls (readable ts) = (j : ℕ) (f : List ℕ) → frame_in frame ls j ≡ some f → IsVertex f → word f 3 < word f 1 → ⊥
  Says b ls (unreadable k n) =
      (k ≡ 13 → (f : List ℕ) × (frame_in frame ls (n - b) ≡ some f) × Slip f)
      × ((f : List ℕ) → frame_in frame ls (n - b) ≡ some f → Slip f → (k ≡ 13) ⊎ (k ≡ 2) ⊎ (k ≡ 7))

  -- a step that goes on or ends with this line says that it is no slip
  abbrev Passed : X → Type 0
  Passed l = (f : List ℕ) → frame l ≡ some f → IsVertex f → word f 3 < word f 1 → ⊥

  says_more : (b : ℕ) (l : X) (ls : List X) (r : Reading) → Passed l → From (suc b) r → Says (suc b) ls r → Says b (l ∷ ls) r
  says_more b l ls (readable ts) p h s = each
    where
      each : (j : ℕ) (f : List ℕ) → frame_in frame (l ∷ ls) j ≡ some f → IsVertex f → word f 3 < word f 1 → ⊥
      each zero f q = p f q
      each (suc j) f q = s j f q
  says_more b l ls (unreadable k n) p h s = let j : n - b ≡ suc (n - suc b) = omega (arith, h) in rw j s

  says_end : (b : ℕ) (l : X) (ls : List X) (ts : Table) → Passed l → Says b (l ∷ ls) (at_end ts (suc b) ls)
  says_end b l [] ts p = each
    where
      each : (j : ℕ) (f : List ℕ) → frame_in frame (l ∷ []) j ≡ some f → IsVertex f → word f 3 < word f 1 → ⊥
      each zero f q = p f q
      each (suc j) f q = apart q
  says_end b l (x ∷ ls) ts p = (λ e. absurd (omega arith), λ f q s. inr (inr refl))

  pub says_from : (s : Begun) (b : ℕ) (ls : List X) → Says b ls (frames_from frame s b ls)
  says_from s b [] = (λ e. absurd (omega arith), λ f q z. apart q)
  says_from s b (l ∷ ls) = subst (Says b (l ∷ ls)) (sym (step_frames frame s b l ls)) (go (λ z. says_from z (suc b) ls) (frame l) refl)
    where
      o : b - b ≡ 0
      o = omega arith

      widen : {k : ℕ} → (k ≡ 13) ⊎ (k ≡ 2) → (k ≡ 13) ⊎ (k ≡ 2) ⊎ (k ≡ 7)
      widen (inl i) = inl i
      widen (inr i) = inr (inl i)

      passed : {f : List ℕ} → frame l ≡ some f → (IsVertex f → word f 3 < word f 1 → ⊥) → Passed l
      passed q h g p = subst (λ (x : List ℕ). IsVertex x → word x 3 < word x 1 → ⊥) (same q p) h

      -- what the step says of the line's frame f
      step : ((z : Begun) → Says (suc b) ls (frames_from frame z (suc b) ls)) → (f : List ℕ) → frame l ≡ some f → (r : Step) → Fair f r
          → Says b (l ∷ ls) (frames_step frame r b ls)
      step ih f q (on z) h = says_more b l ls (frames_from frame z (suc b) ls) (passed q h) (from_line frame z (suc b) ls) (ih z)
      step ih f q (over ts) h = says_end b l ls ts (passed q h)
      step ih f q (wrong k) h = rw o (λ e. (f, q, h.0 e), λ g p z. widen (h.1 (subst Slip (sym (same q p)) z)))

      go : ((z : Begun) → Says (suc b) ls (frames_from frame z (suc b) ls)) → (x : Option (List ℕ)) → frame l ≡ x
          → Says b (l ∷ ls) (frames_step frame (step_at s (frame l)) b ls)
      go ih none q = rw (q, o) (λ e. absurd (omega arith), λ f p z. apart (sym q ∙ p))
      go ih (some f) q = rw q (step ih f q (step_at s (some f)) (framed_fair f s s.want_v s.want_e))

  -- behind lines that lack only an end
  at-line_from : (s : Begun) (b j : ℕ) (ls : List X) (f : List ℕ) → frame_in frame ls j ≡ some f → Slip f
      → frames_from frame s b (take j ls) ≡ unreadable 6 (b + j)
      → (frames_from frame s b ls ≡ unreadable 13 (b + j)) ⊎ (frames_from frame s b ls ≡ unreadable 2 (b + j))
  at-line_from s b j [] f q z e = apart q
  at-line_from s b zero (l ∷ ls) f q z e =
      subst Refused (sym (step_frames frame s b l ls)) (rw q (go (step_at s (some f)) (framed_fair f s s.want_v s.want_e)))
    where
      Refused : Reading → Type 0
      Refused r = (r ≡ unreadable 13 (b + 0)) ⊎ (r ≡ unreadable 2 (b + 0))

      here : b ≡ b + 0
      here = omega arith

      by : {k : ℕ} → (k ≡ 13) ⊎ (k ≡ 2) → Refused (unreadable k b)
      by (inl i) = inl (ap₂ unreadable i here)
      by (inr i) = inr (ap₂ unreadable i here)

      go : (r : Step) → Fair f r → Refused (frames_step frame r b ls)
      go (on y) h = absurd (h (vertex's f z.frame) z.job.over)
      go (over ts) h = absurd (h (vertex's f z.frame) z.job.over)
      go (wrong k) h = by (h.1 z)
  at-line_from s b (suc j) (l ∷ ls) f q z e =
      subst Refused (sym (step_frames frame s b l ls))
      (go (λ y h. at-line_from y (suc b) j ls f q z h) (step_at s (frame l)) (sym (step_frames frame s b l (take j ls)) ∙ e ∙ ap (unreadable 6) more))
    where
      more : b + suc j ≡ suc b + j
      more = omega arith

      Refused : Reading → Type 0
      Refused r = (r ≡ unreadable 13 (b + suc j)) ⊎ (r ≡ unreadable 2 (b + suc j))

      ended : (ts : Table) (xs : List X) → at_end ts (suc b) xs ≡ unreadable 6 (suc b + j) → ⊥
      ended ts [] h = let y : ◌≡◌ {A = ℕ} 0 1 = cc in omega arith
      ended ts (x ∷ xs) h = omega (arith, row_is h)

      go : ((y : Begun) → frames_from frame y (suc b) (take j ls) ≡ unreadable 6 (suc b + j)
          → (frames_from frame y (suc b) ls ≡ unreadable 13 (suc b + j)) ⊎ (frames_from frame y (suc b) ls ≡ unreadable 2 (suc b + j)))
          → (r : Step) → frames_step frame r b (take j ls) ≡ unreadable 6 (suc b + j) → Refused (frames_step frame r b ls)
      go ih (on y) h = rw more (ih y h)
      go ih (over ts) h = absurd (ended ts (take j ls) h)
      go ih (wrong k) h = absurd (omega (arith, line_is h))

-- ---- a whole text, and the frames of a table

says_text : (text : List ℕ) → Says frame_of 1 (lines_of text) (read text)
unfolding read
says_text text = says_from frame_of nothing 1 (lines_of text)

at-line : (text before f : List ℕ) (n : ℕ) → frame_on text n ≡ some f → Slip f → lines_of before ≡ take (n - 1) (lines_of text)
    → read before ≡ unreadable 6 n → (read text ≡ unreadable 13 n) ⊎ (read text ≡ unreadable 2 n)
unfolding read
at-line text before f n q s t e =
    let some = (read_refused before 6 n e).1 in
    let line : 1 + (n - 1) ≡ n = omega arith in
    subst (λ (m : ℕ). (read text ≡ unreadable 13 m) ⊎ (read text ≡ unreadable 2 m)) line
    (at-line_from frame_of nothing 1 (n - 1) (lines_of text) f q s (ap (frames_from frame_of nothing 1) (sym t) ∙ e ∙ ap (unreadable 6) (sym line)))

pub slip_refused : SlipRefused
slip_refused =
    record {
      never_read = λ text f n ts q v h e. subst (Says frame_of 1 (lines_of text)) e (says_text text) (n - 1) f q v h;
      only_slips = λ text n e. (subst (Says frame_of 1 (lines_of text)) e (says_text text)).0 refl;
      slip_number = λ text f k n q s e. (subst (Says frame_of 1 (lines_of text)) e (says_text text)).1 f q s;
      at-line = at-line;
      two-first = two-first;
    }

pub only_slips_ruled : (ts : Table) (n : ℕ) → ruled ts ≡ unreadable 13 n → (f : List ℕ) × (frame_in some (frames_of ts) (n - 1) ≡ some f) × Slip f
unfolding ruled
only_slips_ruled ts n e = (subst (Says some 1 (frames_of ts)) e (says_from some nothing 1 (frames_of ts))).0 refl
