-- The line after whole tasks, another task's or the end's, is read as it means.
use mathlib.Core.Path.{◌≡◌, refl, sym, ap, subst, ◌∙◌}
use Prim.Native.Nat.{ℕ, suc, ◌+◌, ◌*◌, ◌≤◌, ◌<◌}
use native.Mathlib.Omega.{arith}
use mathlib.Core.Bool.{Bool, true, false, ◌&&◌}
use mathlib.Core.List.{List, [], ◌∷◌}
use lib.ListN.{length, get_or, drop}
use lib.Dec.{leb, ltb, eqb}
use borrow.Author.Tests.{leb-true, leb-false, le-leb, eqb-true, eqb-false, lt-ltb, le-ltb, eq-eqb, ne_eqb}
use Rattle.std.specs.Prelude.{Option, Some, None, Result, Ok, Err}
use Rattle.meaning.specs.Lists.{pick}
use Rattle.meaning.specs.Bounds.{most_tasks, most_vertices, most_edges, largest_m}
use Rattle.meaning.specs.Table as Meant
use Rattle.meaning.specs.Text.{lines_of, Begun, begun, linked, closed, Step, on, over, wrong, within, is_frame, word, task_frame, ring_to, gear_to}
use Rattle.meaning.specs.Text.{vendor_frame, framed, Reading, unreadable, at_end, read_from}
use Rattle.meaning.proofs.Lists.{and_false}
use Rattle.meaning.proofs.Readable.{read_step}
use Rattle.kinds.specs.declared.Refusal.{Refusal}
use Rattle.kinds.specs.declared.Refusal.TheVariants.{WrongFrame, OutOfBounds}
use Rattle.kinds.specs.Numbers.{refusal_number}
use Rattle.frames.specs.declared.Form.{Form}
use Rattle.frames.specs.declared.Form.TheVariants.{Plain, Ring, Gears}
use Rattle.frames.specs.declared.Head.{Head}
use Rattle.digits.specs.Digits.{worth_of, pair_at}
use Rattle.rules.specs.Rules.{task_in}
use Rattle.frames.specs.Frames.{task_digits, part_digits, part_bytes, task_bytes, end_digits, end_bytes, fault_of, starts_with, end_line, task_vertices, task_edges}
use Rattle.frames.specs.Frames.{task_mask, linked_digits, linked_bytes, form_bytes, head_bytes, head_with, head_line, task_line, linked_line, task_or_end_line}
use Rattle.digits.proofs.Spelled.{Spelled}
use Rattle.digits.proofs.Pairs.{pairs_at, spelled_of}
use Rattle.digits.proofs.Worths.{foreign_above, worth_low}
use Rattle.rules.proofs.Within.{differ, within_bounds, task_bounds}
use Rattle.frames.proofs.LineRead.{right-read}
use Rattle.frames.proofs.Expected.{same-pick, fault_law, Starts, starts_says, framed-bytes, kind_of_lem, not_frame, fails}

and_true : (x : Bool) → x && true ≡ x
and_true true = refl
and_true false = refl

-- the tasks ts are read, and the line that says h: as a plain task, or as a ring or a gear table
abbrev opened_as : Form → List Meant.Task → ℕ → ℕ → ℕ → Begun
opened_as Plain ts v e m = begun ts (Meant.task m [] []) v e
opened_as Ring ts v e m = linked ts (Meant.task 0 [] []) (ring_to v) v
opened_as Gears ts v e m = linked ts (Meant.task 0 [] []) (gear_to v) v

abbrev pub opened : List Meant.Task → Head → Begun
opened ts h = opened_as h.form ts h.v h.e h.m.0

-- what becomes of the reading with such a line
abbrev pub frame_gives : Result (Option Head) Refusal → ℕ → (Head → Reading) → Reading → Reading
frame_gives (Ok (Some h)) n go end = go h
frame_gives (Ok None) n go end = end
frame_gives (Err w) n go end = unreadable (refusal_number w) n

-- the bytes of a plain task's line
pub bytes_01 : task_bytes 0 ≡ task_digits + 1
unfolding task_bytes
bytes_01 = refl

pub bytes_04 : (m : ℕ) → 1 ≤ m → task_bytes m ≡ part_bytes
unfolding task_bytes
bytes_04 m h = rw (ne_eqb m 0 (λ z. omega (arith, z)))

-- as many edges as vertices are few enough
linked_in : (n : ℕ) → task_in n n 0 0 ≡ within 1 most_vertices n
unfolding task_in
linked_in n = go (within 1 most_vertices n) refl
  where
    go : (b : Bool) → within 1 most_vertices n ≡ b → within 1 most_vertices n && leb n most_edges && within 0 largest_m 0 ≡ within 1 most_vertices n
    go true q = rw (q, le-leb n most_edges (omega (arith, (within_bounds 1 most_vertices n q).1)))
    go false q = rw q

-- the tasks ts and the task k are read
module _ (ts : List Meant.Task) (k : Meant.Task) (n : ℕ) (t : List ℕ) where
  abbrev before : Begun
  before = begun ts k 0 0

  abbrev have : List Meant.Task
  have = closed before

  abbrev behind : Head → Reading
  behind h = read_from (opened have h) (suc n) (lines_of (drop (head_bytes h) t))

  abbrev ending : Reading
  ending = at_end have (suc n) (lines_of (drop end_bytes t))

  abbrev few : Bool
  few = leb most_tasks (length have)

  abbrev Gives : Result (Option Head) Refusal → Type 0
  Gives x = read_from before n (lines_of t) ≡ frame_gives x n behind ending

  -- a line with a frame of len bytes that starts as a task's of this kind, and says h if `inside`: `step` for its frame, where one more task is allowed
  module _ (κ len : ℕ) (inside : Bool) (h : Head) (low : κ < 10) (step : List ℕ → Step) (start : starts_with t (κ + 48) (2 * len) ≡ true)
      (frame : (f r : List ℕ) → Spelled t (κ ∷ f) r
      → framed before 0 0 (κ ∷ f) ≡ pick (is_frame κ len (κ ∷ f) && ltb (length have) most_tasks) (step (κ ∷ f)) (wrong 2))
      (outside : (f r : List ℕ) → Spelled t f r → is_frame κ len f ≡ true → inside ≡ false → step f ≡ wrong 3)
      (right : few ≡ false → inside ≡ true → read_from before n (lines_of t) ≡ behind h) where
    -- a right line has the kind that it starts as
    kind_frame : (b : ℕ) (f r : List ℕ) → Spelled t (b ∷ f) r
        → framed before 0 0 (b ∷ f) ≡ pick (is_frame κ len (b ∷ f) && ltb (length have) most_tasks) (step (b ∷ f)) (wrong 2)
    kind_frame b f r z =
        let k : b ≡ κ = kind_of_lem κ low (2 * len) z (starts_says t (κ + 48) (2 * len) start) in
        subst (λ (b : ℕ). framed before 0 0 (b ∷ f) ≡ pick (is_frame κ len (b ∷ f) && ltb (length have) most_tasks) (step (b ∷ f)) (wrong 2)) (sym k)
        (frame f r (subst (λ (b : ℕ). Spelled t (b ∷ f) r) k z))

    head_line-read : Gives (head_line (length have) (2 * len) inside h t)
    head_line-read = go few refl inside refl
      where
        go : (y : Bool) → few ≡ y → (u : Bool) → inside ≡ u → Gives (head_line (length have) (2 * len) inside h t)
        go true q u g =
            simp q (fault_law before n (2 * len) WrongFrame t (λ b f r z.
            kind_frame b f r z ∙ simp (le-ltb (length have) most_tasks (leb-true most_tasks (length have) q), and_false, same-pick)))
        go false q true g = simp (q, g) (right q g)
        go false q false g =
            simp (q, g) (fault_law before n (2 * len) OutOfBounds t (λ b f r z.
            kind_frame b f r z ∙ simp (lt-ltb (length have) most_tasks (leb-false most_tasks (length have) q), and_true)
            (fails κ low len OutOfBounds (step (b ∷ f)) z (starts_says t (κ + 48) (2 * len) start) (λ i. outside (b ∷ f) r z i g))))

  -- 01
  module _ (p : starts_with t 49 task_digits ≡ true) where
    abbrev plain : List ℕ → Step
    plain f = task_frame before (get_or f 1 0) (get_or f 2 0) 0 0

    plain_outside : (f r : List ℕ) → Spelled t f r → is_frame 1 3 f ≡ true → task_in (task_vertices t) (task_edges t) 0 0 ≡ false → plain f ≡ wrong 3
    unfolding task_in
    plain_outside f r z i g = rw (framed-bytes 1 3 z i) (simp g)

    plain_right : few ≡ false → task_in (task_vertices t) (task_edges t) 0 0 ≡ true
        → read_from before n (lines_of t) ≡ behind (head_with Plain (task_vertices t) (task_edges t) 0)
    unfolding task_in worth_of
    plain_right o q =
        let s : Starts t 49 task_digits = starts_says t 49 task_digits p in
        let m = task_bounds (task_vertices t) (task_edges t) 0 0 q in
        let above = foreign_above in
        let c : pair_at t 0 ≡ 1 = simp (s.first, s.second) in
        let z : Spelled t (pairs_at t 0 3) (drop (task_digits + 1) t) = spelled_of 3 t s.long s.fed (omega arith, (omega arith, (omega arith, tt))) in
        right-read before n z ∙ simp (c, lt-ltb (length have) most_tasks (leb-false most_tasks (length have) o), q, bytes_01)

    plain_read : Gives (task_line (length have) task_digits 0 0 t)
    unfolding task_line
    plain_read = head_line-read 1 3 _ _ (omega arith) plain p (λ f r z. refl) plain_outside plain_right

  -- 04
  module _ (p : starts_with t 52 part_digits ≡ true) where
    abbrev masked : List ℕ → Step
    masked f = task_frame before (get_or f 1 0) (get_or f 2 0) 1 (word f 3)

    masked_outside : (f r : List ℕ) → Spelled t f r → is_frame 4 5 f ≡ true → task_in (task_vertices t) (task_edges t) 1 (task_mask t) ≡ false
        → masked f ≡ wrong 3
    unfolding task_in
    masked_outside f r z i g = rw (framed-bytes 4 5 z i) (simp g)

    masked_right : few ≡ false → task_in (task_vertices t) (task_edges t) 1 (task_mask t) ≡ true
        → read_from before n (lines_of t) ≡ behind (head_with Plain (task_vertices t) (task_edges t) (task_mask t))
    unfolding task_in worth_of
    masked_right o q =
        let s : Starts t 52 part_digits = starts_says t 52 part_digits p in
        let m = task_bounds (task_vertices t) (task_edges t) 1 (task_mask t) q in
        let above = foreign_above in
        let c : pair_at t 0 ≡ 4 = simp (s.first, s.second) in
        let z = spelled_of 5 t s.long s.fed (omega arith, (omega arith, (omega arith, (omega arith, (omega arith, tt))))) in
        right-read before n z
        ∙ simp (c, lt-ltb (length have) most_tasks (leb-false most_tasks (length have) o), q, bytes_04 (task_mask t) m.m_from)

    masked_read : Gives (task_line (length have) part_digits 1 (task_mask t) t)
    unfolding task_line
    masked_read = head_line-read 4 5 _ _ (omega arith) masked p (λ f r z. refl) masked_outside masked_right

  -- 05 and 07
  module _ (o : Form) (to : ℕ → ℕ → ℕ) (κ : ℕ) (low : κ < 10) (p : starts_with t (κ + 48) linked_digits ≡ true)
      (frame : (f : List ℕ) → framed before 0 0 (κ ∷ f)
      ≡ pick (is_frame κ 2 (κ ∷ f) && ltb (length have) most_tasks) (vendor_frame before to (get_or f 0 0)) (wrong 2))
      (opens : (v : ℕ) → opened have (head_with o v v 0) ≡ linked have (Meant.task 0 [] []) (to v) v)
      (bytes : (v : ℕ) → head_bytes (head_with o v v 0) ≡ linked_bytes) where
    abbrev inside : Bool
    inside = task_in (task_vertices t) (task_vertices t) 0 0

    linked-outside : (f r : List ℕ) → Spelled t f r → is_frame κ 2 f ≡ true → inside ≡ false → vendor_frame before to (get_or f 1 0) ≡ wrong 3
    linked-outside f r z i g = rw (framed-bytes κ 2 z i, sym (linked_in (task_vertices t)) ∙ g)

    kind_there : pair_at t 0 ≡ κ
    kind_there =
        let s : Starts t (κ + 48) linked_digits = starts_says t (κ + 48) linked_digits p in
        let x : get_or t 0 0 ≡ 0 + 48 = s.first in
        rw (x, s.second, worth_low 0 (omega arith), worth_low κ low) (omega arith)

    linked-right : few ≡ false → inside ≡ true → read_from before n (lines_of t) ≡ behind (head_with o (task_vertices t) (task_vertices t) 0)
    linked-right q g =
        let s : Starts t (κ + 48) linked_digits = starts_says t (κ + 48) linked_digits p in
        let m = task_bounds (task_vertices t) (task_vertices t) 0 0 g in
        let above = foreign_above in
        let v = task_vertices t in
        let few-yet = lt-ltb (length have) most_tasks (leb-false most_tasks (length have) q) in
        let z : Spelled t (pairs_at t 0 2) (drop linked_bytes t) = spelled_of 2 t s.long s.fed (omega (arith, kind_there), (omega arith, tt)) in
        let taken : framed before 0 0 (pair_at t 0 ∷ v ∷ []) ≡ on (linked have (Meant.task 0 [] []) (to v) v) =
        ap (λ (b : ℕ). framed before 0 0 (b ∷ v ∷ [])) kind_there ∙ frame (v ∷ []) ∙ rw (eq-eqb κ κ refl, few-yet, sym (linked_in v) ∙ g) in
        right-read before n z ∙ ap (λ (x : Step). read_step x n (lines_of (drop linked_bytes t))) taken ∙ rw (opens v, bytes v)

    linked-read : Gives (linked_line o (length have) t)
    unfolding linked_line
    linked-read = head_line-read κ 2 _ _ low (λ f. vendor_frame before to (get_or f 1 0)) p (λ f r z. frame f) linked-outside linked-right

  -- 00
  end_framed : starts_with t 48 end_digits ≡ true
      → read_from before n (lines_of t) ≡ read_step (pick (ltb 0 (length have)) (over have) (wrong 2)) n (lines_of (drop end_bytes t))
  unfolding worth_of
  end_framed p =
      let s : Starts t 48 end_digits = starts_says t 48 end_digits p in
      let above = foreign_above in
      let c : pair_at t 0 ≡ 0 = simp (s.first, s.second) in
      let z : Spelled t (pairs_at t 0 1) (drop end_bytes t) = spelled_of 1 t s.long s.fed (omega arith, tt) in
      right-read before n z ∙ simp c

  end_read : starts_with t 49 task_digits ≡ false → starts_with t 52 part_digits ≡ false → starts_with t 53 linked_digits ≡ false
      → starts_with t 55 linked_digits ≡ false → Gives (end_line (length have) t)
  unfolding end_line
  end_read o p r s = go (starts_with t 48 end_digits) refl (eqb (length have) 0) refl
    where
      go : (x : Bool) → starts_with t 48 end_digits ≡ x → (y : Bool) → eqb (length have) 0 ≡ y → Gives (end_line (length have) t)
      go false q y g =
          simp q (fault_law before n end_digits WrongFrame t (λ b f u z.
          simp (
            not_frame 1 (omega arith) 3 z o,
            not_frame 4 (omega arith) 5 z p,
            not_frame 5 (omega arith) 2 z r,
            not_frame 7 (omega arith) 2 z s,
            not_frame 0 (omega arith) 1 z q,
            same-pick,
          )))
      go true q true g = end_framed q ∙ simp (q, g, le-ltb 0 (length have) (omega (arith, eqb-true (length have) 0 g)))
      go true q false g = end_framed q ∙ simp (q, g, lt-ltb 0 (length have) (less (eqb-false (length have) 0 g)))
        where
          less : {m : ℕ} → (m ≡ 0 → ⊥) → 0 < m
          less h = omega arith

  ring_read : starts_with t 53 linked_digits ≡ true → Gives (linked_line Ring (length have) t)
  ring_read p = linked-read Ring ring_to 5 (omega arith) p (λ f. refl) (λ v. refl) (λ v. refl)

  gears_read : starts_with t 55 linked_digits ≡ true → Gives (linked_line Gears (length have) t)
  gears_read p = linked-read Gears gear_to 7 (omega arith) p (λ f. refl) (λ v. refl) (λ v. refl)

  pub task_or_end_read : Gives (task_or_end_line (length have) t)
  unfolding task_or_end_line
  task_or_end_read =
      go (starts_with t 49 task_digits) refl (starts_with t 52 part_digits) refl (starts_with t 53 linked_digits) refl (starts_with t 55 linked_digits) refl
    where
      go : (x : Bool) → starts_with t 49 task_digits ≡ x → (y : Bool) → starts_with t 52 part_digits ≡ y → (u : Bool) → starts_with t 53 linked_digits ≡ u
          → (w : Bool) → starts_with t 55 linked_digits ≡ w → Gives (task_or_end_line (length have) t)
      go true o y p u r w s = simp o (plain_read o)
      go false o true p u r w s = simp (o, p) (masked_read p)
      go false o false p true r w s = simp (o, p, r) (ring_read r)
      go false o false p false r true s = simp (o, p, r, s) (gears_read s)
      go false o false p false r false s = simp (o, p, r, s) (end_read o p r s)

-- ---- what a line that is taken has

pub record HeadIn (h : Head) (t : List ℕ) : Type 0 where
  pub long : head_bytes h ≤ length t
  pub some : 1 ≤ h.v
  pub v_in : h.v ≤ most_vertices
  pub e_in : h.e ≤ most_edges
  pub m_in : h.m.0 ≤ largest_m

pub record TaskHas (k : ℕ) (h : Head) (t : List ℕ) : Type 0 where
  pub inside : HeadIn h t
  pub fits : k < most_tasks

-- what kind of a line it is
abbrev is_task : Result (Option Head) Refusal → Bool
is_task (Ok (Some h)) = true
is_task (Ok None) = false
is_task (Err w) = false

abbrev is_end : Result (Option Head) Refusal → Bool
is_end (Ok (Some h)) = false
is_end (Ok None) = true
is_end (Err w) = false

none_is : {A : Type 0} (f : Result (Option Head) Refusal → Bool) {x y : Result (Option Head) Refusal} → x ≡ y → f x ≡ false → f y ≡ true → A
none_is f q a b = differ (sym b ∙ sym (ap f q) ∙ a)

module _ (k : ℕ) (t : List ℕ) where
  head_has : (n : ℕ) (b : Bool) (g h : Head) → (b ≡ true → HeadIn g t) → head_line k n b g t ≡ Ok (Some h) → TaskHas k h t
  head_has n b g h has = go (leb most_tasks k) refl b refl
    where
      go : (y : Bool) → leb most_tasks k ≡ y → (c : Bool) → b ≡ c → head_line k n b g t ≡ Ok (Some h) → TaskHas k h t
      go true q c u e = none_is is_task (simp q at e) refl refl
      go false q false u e = none_is is_task (simp (q, u) at e) refl refl
      go false q true u e =
          let x : ◌≡◌ {A = Result (Option Head) Refusal} (Ok (Some g)) (Ok (Some h)) = simp (q, u) at e in
          let y : g ≡ h = cc in
          record { inside = subst (λ (z : Head). HeadIn z t) y (has u); fits = leb-false most_tasks k q }

  head_no_end : (n : ℕ) (b : Bool) (g : Head) → is_end (head_line k n b g t) ≡ false
  head_no_end n b g = go (leb most_tasks k) b
    where
      go : (y c : Bool) → is_end (pick y (Err (fault_of t n WrongFrame)) (pick c (Ok (Some g)) (Err (fault_of t n OutOfBounds)))) ≡ false
      go true c = refl
      go false true = refl
      go false false = refl

  task_no_end : (n least μ : ℕ) → is_end (task_line k n least μ t) ≡ false
  unfolding task_line
  task_no_end n least μ = head_no_end n (task_in (task_vertices t) (task_edges t) least μ) (head_with Plain (task_vertices t) (task_edges t) μ)

  linked_no_end : (o : Form) → is_end (linked_line o k t) ≡ false
  unfolding linked_line
  linked_no_end o = head_no_end linked_digits (task_in (task_vertices t) (task_vertices t) 0 0) (head_with o (task_vertices t) (task_vertices t) 0)

  end_no_task : is_task (end_line k t) ≡ false
  unfolding end_line
  end_no_task = go (starts_with t 48 end_digits) refl (eqb k 0) refl
    where
      go : (a : Bool) → starts_with t 48 end_digits ≡ a → (b : Bool) → eqb k 0 ≡ b → is_task (end_line k t) ≡ false
      go false p b q = simp p
      go true p true q = simp (p, q)
      go true p false q = simp (p, q)

  -- a plain task's, with the masked length μ
  plain_in : (least μ : ℕ) → (least ≤ μ → task_bytes μ ≤ length t) → task_in (task_vertices t) (task_edges t) least μ ≡ true
      → HeadIn (head_with Plain (task_vertices t) (task_edges t) μ) t
  plain_in least μ long q =
      let b = task_bounds (task_vertices t) (task_edges t) least μ q in
      record { long = long b.m_from; some = b.some; v_in = b.v_in; e_in = b.e_in; m_in = b.m_in }

  linked_in_head : (o : Form) → form_bytes o 0 ≤ length t → task_in (task_vertices t) (task_vertices t) 0 0 ≡ true
      → HeadIn (head_with o (task_vertices t) (task_vertices t) 0) t
  linked_in_head o long q =
      let b = task_bounds (task_vertices t) (task_vertices t) 0 0 q in
      record { long = long; some = b.some; v_in = b.v_in; e_in = b.e_in; m_in = b.m_in }

  pub task_has : (h : Head) → task_or_end_line k t ≡ Ok (Some h) → TaskHas k h t
  unfolding task_or_end_line task_line linked_line
  task_has h =
      go (starts_with t 49 task_digits) refl (starts_with t 52 part_digits) refl (starts_with t 53 linked_digits) refl (starts_with t 55 linked_digits) refl
    where
      go : (x : Bool) → starts_with t 49 task_digits ≡ x → (y : Bool) → starts_with t 52 part_digits ≡ y → (u : Bool) → starts_with t 53 linked_digits ≡ u
          → (w : Bool) → starts_with t 55 linked_digits ≡ w → task_or_end_line k t ≡ Ok (Some h) → TaskHas k h t
      go true o y p u r w s e =
          head_has task_digits _ _ h (plain_in 0 0 (λ l. omega (arith, bytes_01, (starts_says t 49 task_digits o).long))) (simp o at e)
      go false o true p u r w s e =
          head_has part_digits _ _ h (plain_in 1 (task_mask t) (λ l. omega (arith, bytes_04 (task_mask t) l, (starts_says t 52 part_digits p).long)))
          (simp (o, p) at e)
      go false o false p true r w s e =
          head_has linked_digits _ _ h (linked_in_head Ring (omega (arith, (starts_says t 53 linked_digits r).long))) (simp (o, p, r) at e)
      go false o false p false r true s e =
          head_has linked_digits _ _ h (linked_in_head Gears (omega (arith, (starts_says t 55 linked_digits s).long))) (simp (o, p, r, s) at e)
      go false o false p false r false s e = none_is is_task (simp (o, p, r, s) at e) end_no_task refl

  end_has : end_line k t ≡ Ok None → end_digits < length t
  unfolding end_line
  end_has = go (starts_with t 48 end_digits) refl
    where
      go : (a : Bool) → starts_with t 48 end_digits ≡ a → end_line k t ≡ Ok None → end_digits < length t
      go true p e = (starts_says t 48 end_digits p).long
      go false p e = none_is is_end (simp p at e) refl refl

  -- the end's line has two digits and a line feed
  pub end_long : task_or_end_line k t ≡ Ok None → end_digits < length t
  unfolding task_or_end_line
  end_long =
      go (starts_with t 49 task_digits) refl (starts_with t 52 part_digits) refl (starts_with t 53 linked_digits) refl (starts_with t 55 linked_digits) refl
    where
      go : (x : Bool) → starts_with t 49 task_digits ≡ x → (y : Bool) → starts_with t 52 part_digits ≡ y → (u : Bool) → starts_with t 53 linked_digits ≡ u
          → (w : Bool) → starts_with t 55 linked_digits ≡ w → task_or_end_line k t ≡ Ok None → end_digits < length t
      go true o y p u r w s e = none_is is_end (simp o at e) (task_no_end task_digits 0 0) refl
      go false o true p u r w s e = none_is is_end (simp (o, p) at e) (task_no_end part_digits 1 (task_mask t)) refl
      go false o false p true r w s e = none_is is_end (simp (o, p, r) at e) (linked_no_end Ring) refl
      go false o false p false r true s e = none_is is_end (simp (o, p, r, s) at e) (linked_no_end Gears) refl
      go false o false p false r false s e = end_has (simp (o, p, r, s) at e)
