-- 2 is said of a frame's kind and length alone, after the same lines.
use mathlib.Core.Path.{◌≡◌, sym, ap, subst, ◌∙◌}
use Prim.Native.Nat.{ℕ, zero, suc, ◌+◌, ◌-◌}
use native.Mathlib.Omega.{arith}
use mathlib.Core.Bool.{Bool, true, false, ◌&&◌}
use mathlib.Core.Option.{Option, none, some}
use mathlib.Core.List.{List, [], ◌∷◌}
use lib.ListN.{length, get_or, take}
use lib.Dec.{ltb}
use Rattle.meaning.specs.Lists.{pick}
use Rattle.meaning.specs.Bounds.{most_tasks}
use Rattle.meaning.specs.Table.{Table}
use Rattle.meaning.specs.Text.{lines_of, frame_of, is_frame, word, Begun, nothing, closed, Step, on, over, wrong, task_frame, vertex_frame, edge_frame}
use Rattle.meaning.specs.Text.{ring_to, gear_to, vendor_frame, link_frame, wanted_vertex, framed, step_at, unreadable, at_end, frames_from, read}
use Rattle.meaning.specs.Slips.{frame_in, frame_on}
use Rattle.meaning.proofs.FrameSteps.{task_each, vertex_each, edge_each, vendor_each, link_each}
use Rattle.meaning.proofs.Readable.{frames_step, step_frames, read_refused}
use Rattle.meaning.proofs.FaultyLine.{From, from_line, row_is, line_is}
use Rattle.meaning.proofs.FrameLines.{apart}

-- ---- a step

abbrev NotTwo : Step → Type 0
NotTwo r = r ≡ wrong 2 → ⊥

row_two : {k : ℕ} → wrong k ≡ wrong 2 → k ≡ 2
row_two q = cc

another : (k : ℕ) → (k ≡ 2 → ⊥) → NotTwo (wrong k)
another k h q = h (row_two q)

goes_on : (s : Begun) → NotTwo (on s)
goes_on s q = let z : ◌≡◌ {A = ℕ} 0 1 = cc in omega arith

three : NotTwo (wrong 3)
three = another 3 (λ z. omega arith)

four : NotTwo (wrong 4)
four = another 4 (λ z. omega arith)

long : NotTwo (wrong 13)
long = another 13 (λ z. omega arith)

pick_two : (b : Bool) (x y x' y' : Step) → NotTwo x → (y ≡ wrong 2 → y' ≡ wrong 2) → pick b x y ≡ wrong 2 → pick b x' y' ≡ wrong 2
pick_two true x y x' y' h i q = absurd (h q)
pick_two false x y x' y' h i q = i q

task_not : (s : Begun) (v e least m : ℕ) → NotTwo (task_frame s v e least m)
task_not s v e least m = task_each NotTwo s v e least m three (λ a b c d k. goes_on _)

vendor_not : (s : Begun) (to : ℕ → ℕ → ℕ) (n : ℕ) → NotTwo (vendor_frame s to n)
vendor_not s to n = vendor_each NotTwo s to n three (λ a b. goes_on _)

module _ (f g : List ℕ) (kind : get_or g 0 0 ≡ get_or f 0 0) (size : length g ≡ length f) where
  vertex_alike : (s : Begun) (l : Option (ℕ → ℕ)) → wanted_vertex s l f ≡ wrong 2 → wanted_vertex s l g ≡ wrong 2
  vertex_alike s none =
      rw (kind, size) (pick_two (is_frame 2 5 f) (vertex_frame s (word f 1) (word f 3)) (wrong 2) (vertex_frame s (word g 1) (word g 3)) (wrong 2)
      (vertex_each NotTwo s (word f 1) (word f 3) (λ h. three) (λ h. long) (λ h. three) (λ x fits. goes_on _)) (λ q. q))
  vertex_alike s (some to) =
      rw (kind, size) (pick_two (is_frame 6 7 f) (link_frame s to (word f 1) (word f 3) (word f 5)) (wrong 2)
      (link_frame s to (word g 1) (word g 3) (word g 5)) (wrong 2)
      (link_each NotTwo s to (word f 1) (word f 3) (word f 5) (λ h. three) (λ h p. long) (λ h. four) (λ x. goes_on _)) (λ q. q))

  edge_alike : (s : Begun) (e : ℕ) → framed s zero (suc e) f ≡ wrong 2 → framed s zero (suc e) g ≡ wrong 2
  edge_alike s e =
      rw (kind, size) (pick_two (is_frame 3 5 f) (edge_frame s (get_or f 1 0) (get_or f 2 0) (word f 3)) (wrong 2)
      (edge_frame s (get_or g 1 0) (get_or g 2 0) (word g 3)) (wrong 2)
      (edge_each NotTwo s (get_or f 1 0) (get_or f 2 0) (word f 3) three four (another 5 (λ z. omega arith)) (λ x after. goes_on _)) (λ q. q))

  -- after whole tasks: the tests of f's kind, and what either frame then does
  task_alike : (s : Begun) → framed s zero zero f ≡ wrong 2 → framed s zero zero g ≡ wrong 2
  task_alike s =
      let few = ltb (length (closed s)) most_tasks in
      let some = ltb 0 (length (closed s)) in
      let task : List ℕ → ℕ → ℕ → Step = λ h least m. task_frame s (get_or h 1 0) (get_or h 2 0) least m in
      let vendor : List ℕ → (ℕ → ℕ → ℕ) → Step = λ h to. vendor_frame s to (get_or h 1 0) in
      let end = pick (is_frame 0 1 f && some) (over (closed s)) (wrong 2) in
      let gears : List ℕ → Step = λ h. pick (is_frame 7 2 f && few) (vendor h gear_to) end in
      let rings : List ℕ → Step = λ h. pick (is_frame 5 2 f && few) (vendor h ring_to) (gears h) in
      let masks : List ℕ → Step = λ h. pick (is_frame 4 5 f && few) (task h 1 (word h 3)) (rings h) in
      rw (kind, size)
      (pick_two (is_frame 1 3 f && few) (task f 0 0) (masks f) (task g 0 0) (masks g) (task_not s (get_or f 1 0) (get_or f 2 0) 0 0)
      (pick_two (is_frame 4 5 f && few) (task f 1 (word f 3)) (rings f) (task g 1 (word g 3)) (rings g) (task_not s (get_or f 1 0) (get_or f 2 0) 1 (word f 3))
      (pick_two (is_frame 5 2 f && few) (vendor f ring_to) (gears f) (vendor g ring_to) (gears g) (vendor_not s ring_to (get_or f 1 0))
      (pick_two (is_frame 7 2 f && few) (vendor f gear_to) end (vendor g gear_to) end (vendor_not s gear_to (get_or f 1 0)) (λ q. q)))))

  framed_alike : (s : Begun) (v e : ℕ) → framed s v e f ≡ wrong 2 → framed s v e g ≡ wrong 2
  framed_alike s (suc v) e = vertex_alike s s.leads
  framed_alike s zero (suc e) = edge_alike s e
  framed_alike s zero zero = task_alike s

-- ---- lines, from line b on

module _ {X : Type 0} (frame : X → Option (List ℕ)) where
  -- a refusal by 2 at line b is its own step's
  own_step : (r : Step) (b : ℕ) (ls : List X) → frames_step frame r b ls ≡ unreadable 2 b → r ≡ wrong 2
  own_step (on z) b ls q = absurd (omega (arith, subst (From (suc b)) q (from_line frame z (suc b) ls)))
  own_step (over ts) b [] q = absurd (let z : ◌≡◌ {A = ℕ} 0 1 = cc in omega arith)
  own_step (over ts) b (l ∷ ls) q = absurd (omega (arith, row_is q))
  own_step (wrong k) b ls q = ap wrong (row_is q)

  module _ (f g : List ℕ) (kind : get_or g 0 0 ≡ get_or f 0 0) (size : length g ≡ length f) where
    two_from : (s : Begun) (b j : ℕ) (ls others : List X) → frame_in frame ls j ≡ some f → frame_in frame others j ≡ some g → take j others ≡ take j ls
        → frames_from frame s b ls ≡ unreadable 2 (b + j) → frames_from frame s b others ≡ unreadable 2 (b + j)
    two_from s b j [] others p q t e = apart p
    two_from s b j (l ∷ ls) [] p q t e = apart q
    two_from s b zero (l ∷ ls) (o ∷ others) p q t e =
        let here : b + 0 ≡ b = omega arith in
        let own = own_step (step_at s (frame l)) b ls (sym (step_frames frame s b l ls) ∙ e ∙ ap (unreadable 2) here) in
        let two = framed_alike f g kind size s s.want_v s.want_e (sym (ap (step_at s) p) ∙ own) in
        step_frames frame s b o others ∙ ap (λ (r : Step). frames_step frame r b others) (ap (step_at s) q ∙ two) ∙ ap (unreadable 2) (sym here)
    two_from s b (suc j) (l ∷ ls) (o ∷ others) p q t e =
        let first : o ≡ l = cc in
        let rest : take j others ≡ take j ls = cc in
        let more : b + suc j ≡ suc b + j = omega arith in
        ap (λ (x : X). frames_from frame s b (x ∷ others)) first
        ∙ step_frames frame s b l others
        ∙ go (λ z h. two_from z (suc b) j ls others p q rest h) (step_at s (frame l)) (sym (step_frames frame s b l ls) ∙ e ∙ ap (unreadable 2) more)
        ∙ ap (unreadable 2) (sym more)
      where
        ended : (ts : Table) (xs : List X) → frame_in frame xs j ≡ some f → at_end ts (suc b) xs ≡ unreadable 2 (suc b + j) → ⊥
        ended ts [] h k = apart h
        ended ts (x ∷ xs) h k = omega (arith, row_is k)

        go : ((z : Begun) → frames_from frame z (suc b) ls ≡ unreadable 2 (suc b + j) → frames_from frame z (suc b) others ≡ unreadable 2 (suc b + j))
            → (r : Step) → frames_step frame r b ls ≡ unreadable 2 (suc b + j) → frames_step frame r b others ≡ unreadable 2 (suc b + j)
        go ih (on z) h = ih z h
        go ih (over ts) h = absurd (ended ts ls p h)
        go ih (wrong k) h = absurd (omega (arith, line_is h))

pub two-first : (text other f g : List ℕ) (n : ℕ) → frame_on text n ≡ some f → frame_on other n ≡ some g → get_or g 0 0 ≡ get_or f 0 0 → length g ≡ length f
    → take (n - 1) (lines_of other) ≡ take (n - 1) (lines_of text) → read text ≡ unreadable 2 n → read other ≡ unreadable 2 n
unfolding read
two-first text other f g n p q kind size t e =
    let some = (read_refused text 2 n e).1 in
    let line : n ≡ 1 + (n - 1) = omega arith in
    two_from frame_of f g kind size nothing 1 (n - 1) (lines_of text) (lines_of other) p q t (e ∙ ap (unreadable 2) line) ∙ ap (unreadable 2) (sym line)
