-- A readable text is the text of plain tasks, rings and gear tables, and its table is what they stand for; without 05 to 07 its bytes are the table's text.
use mathlib.Core.Path.{◌≡◌, refl, sym, ap, ap₂, subst, ◌∙◌}
use Prim.Native.Nat.{ℕ, zero, suc, ◌+◌, ◌*◌, ◌/◌, ◌%◌, ◌≤◌, ◌<◌}
use native.Mathlib.Omega.{arith}
use mathlib.Core.Bool.{true, false}
use mathlib.Core.Option.{Option, none, some}
use mathlib.Core.List.Memᴰ
use mathlib.Core.List.{List, [], ◌∷◌, ◌++◌, map, append_assoc, Memᴰ}
use lib.ListN.{length, get_or}
use lib.Dec.{T, eqb, eqb→eq}
use borrow.Author.Tests.{ne_eqb}
use Rattle.meaning.specs.Lists.{gather, below}
use Rattle.meaning.specs.Table.{Vertex, Edge, Table, vertex, edge, task}
use Rattle.meaning.specs.Text.{line, is_frame, word, Begun, begun, linked, nothing, closed, Step, on, over, wrong}
use Rattle.meaning.specs.Text.{task_frame, vertex_frame, edge_frame, vendor_frame, link_frame}
use Rattle.meaning.specs.Text.{framed, step_at, readable, at_end, frames_from, read}
use Rattle.meaning.specs.Rings.{Link, Form, plain, ring, gears, task_of, frame_of_link, frames_of_form, frames_of_forms}
use Rattle.meaning.specs.Rings.{text_of_forms, PlainFrame, Plain}
use Rattle.meaning.specs.Writing.{in_two, frame_of_task, frame_of_vertex, frame_of_edge, frame_of_end, frames_of_task, frames_of, text_of}
use Rattle.meaning.proofs.Lists.{both_left, both_right, cells_shift}
use Rattle.meaning.proofs.Readable.{frames_step, step_frames}
use Rattle.meaning.proofs.FrameSteps.{task_each, vertex_each, edge_each, vendor_each, link_each, vertex_wanted, edge_wanted, task_wanted}
use Rattle.meaning.proofs.FrameLines.{Bytes, AllFramed, refused_apart, TextFrames, readable_frames}
use Rattle.meaning.proofs.FormsBack.{Described, WholeForms, Vendor, a_ring, a_gear_table, LinksSoFar, Open, SoFar}
use Rattle.meaning.proofs.FormsBack.{part_begin, open_begin, links_begin, part_more, with_vertex, vertex_more, with_edge, edge_more}
use Rattle.meaning.proofs.FormsBack.{with_link, link_more_lem, closed-whole}

-- ---- a frame by its numbers

by_cells : (f : List ℕ) → f ≡ map (λ (j : ℕ). get_or f j 0) (below (length f))
by_cells [] = refl
by_cells (a ∷ f) = ap (λ (l : List ℕ). a ∷ l) (by_cells f ∙ sym (cells_shift (λ (b : ℕ). b) 0 a f 0 (length f)))

bytes-at : (f : List ℕ) (i : ℕ) → Bytes f → get_or f i 0 < 256
bytes-at [] i h = omega arith
bytes-at (a ∷ f) zero h = h.0
bytes-at (a ∷ f) (suc i) h = bytes-at f i h.1

module _ (κ m : ℕ) (f : List ℕ) (t : T (is_frame κ m f)) where
  pub kind_is : get_or f 0 0 ≡ κ
  kind_is = eqb→eq (get_or f 0 0) κ (both_left (eqb (get_or f 0 0) κ) (eqb (length f) m) t)

  cells_are : f ≡ map (λ (j : ℕ). get_or f j 0) (below m)
  cells_are =
      by_cells f
      ∙ ap (λ (n : ℕ). map (λ (j : ℕ). get_or f j 0) (below n)) (eqb→eq (length f) m (both_right (eqb (get_or f 0 0) κ) (eqb (length f) m) t))

-- the number that is written in two
pub two-word : (n : ℕ) → n / 256 * 256 + n % 256 ≡ n
two-word n = omega arith

abbrev link : ℕ → ℕ → ℕ → Link
link e d p = record { e = e; d = d; p = p }

module _ (f : List ℕ) (h : Bytes f) where
  in_two_lem : (i : ℕ) → in_two (word f i) ≡ get_or f i 0 ∷ get_or f (suc i) 0 ∷ []
  in_two_lem i =
      let b = bytes-at f (suc i) h in
      let high : (get_or f i 0 * 256 + get_or f (suc i) 0) / 256 ≡ get_or f i 0 = omega arith in
      let low : (get_or f i 0 * 256 + get_or f (suc i) 0) % 256 ≡ get_or f (suc i) 0 = omega arith in
      rw (high, low)

  vertex_back : T (is_frame 2 5 f) → f ≡ frame_of_vertex (vertex (word f 1) (word f 3))
  vertex_back t = cells_are 2 5 f t ∙ rw (kind_is 2 5 f t) (ap₂ (λ (a b : List ℕ). 2 ∷ a ++ b) (sym (in_two_lem 1)) (sym (in_two_lem 3)))

  edge_back : T (is_frame 3 5 f) → f ≡ frame_of_edge (edge (get_or f 1 0) (get_or f 2 0) (word f 3))
  edge_back t = cells_are 3 5 f t ∙ rw (kind_is 3 5 f t, in_two_lem 3)

  link_back : T (is_frame 6 7 f) → f ≡ frame_of_link (link (word f 1) (word f 3) (word f 5))
  link_back t =
      cells_are 6 7 f t
      ∙ rw (kind_is 6 7 f t)
      (ap₂ (λ (a b : List ℕ). 6 ∷ a ++ b) (sym (in_two_lem 1)) (ap₂ (λ (a b : List ℕ). a ++ b) (sym (in_two_lem 3)) (sym (in_two_lem 5))))

  masked_back : T (is_frame 4 5 f) → 1 ≤ word f 3 → f ≡ frame_of_task (word f 3) (get_or f 1 0) (get_or f 2 0)
  masked_back t l = cells_are 4 5 f t ∙ rw (kind_is 4 5 f t, ne_eqb (word f 3) 0 (λ z. absurd (omega (arith, l, z))), in_two_lem 3)

task_back : (f : List ℕ) → T (is_frame 1 3 f) → f ≡ frame_of_task 0 (get_or f 1 0) (get_or f 2 0)
task_back f t = cells_are 1 3 f t ∙ rw (kind_is 1 3 f t)

-- a ring's or a gear table's own
count_back : (κ : ℕ) (f : List ℕ) → T (is_frame κ 2 f) → f ≡ κ ∷ get_or f 1 0 ∷ []
count_back κ f t = cells_are κ 2 f t ∙ rw (kind_is κ 2 f t)

end_back : (f : List ℕ) → T (is_frame 0 1 f) → f ≡ frame_of_end
end_back f t = cells_are 0 1 f t ∙ rw (kind_is 0 1 f t)

-- ---- what a step makes of the frames that were read so far

abbrev After : List (List ℕ) → List ℕ → Step → Type 0
After gs f (on z) = SoFar z (gs ++ (f ∷ []))
After gs f (over us) = Described frames_of_forms (gs ++ (f ∷ [])) us
After gs f (wrong k) = Unit {0}

module _ (s : Begun) (gs : List (List ℕ)) (f : List ℕ) (r : SoFar s gs) (h : Bytes f) where
  vertex_after : Open s none r.part → 1 ≤ s.want_v → T (is_frame 2 5 f) → After gs f (vertex_frame s (word f 1) (word f 3))
  vertex_after o w t =
      let x : Vertex = vertex (word f 1) (word f 3) in
      vertex_each (After gs f) s (word f 1) (word f 3) (λ i. tt) (λ i. tt) (λ i. tt)
      (λ i fits. part_more s (with_vertex s x) gs f (frame_of_vertex x) r (vertex_back f h t) refl (vertex_more s r.part x o w))

  edge_after_lem : Open s none r.part → s.want_v ≡ 0 → 1 ≤ s.want_e → T (is_frame 3 5 f)
      → After gs f (edge_frame s (get_or f 1 0) (get_or f 2 0) (word f 3))
  edge_after_lem o v w t =
      let x : Edge = edge (get_or f 1 0) (get_or f 2 0) (word f 3) in
      edge_each (After gs f) s (get_or f 1 0) (get_or f 2 0) (word f 3) tt tt tt
      (λ i after.
      let some = i.from_in in
      part_more s (with_edge s x) gs f (frame_of_edge x) r (edge_back f h t) refl (edge_more s r.part x o v w (omega arith)))

  link_after : (to : ℕ → ℕ) → LinksSoFar s to r.part → 1 ≤ s.want_v → T (is_frame 6 7 f)
      → After gs f (link_frame s to (word f 1) (word f 3) (word f 5))
  link_after to o w t =
      let x : Link = link (word f 1) (word f 3) (word f 5) in
      link_each (After gs f) s to (word f 1) (word f 3) (word f 5) (λ i. tt) (λ i q. tt) (λ i. tt)
      (λ i. part_more s (with_link s to x) gs f (frame_of_link x) r (link_back f h t) refl (link_more_lem s to r.part x o w))

  edge_wanted_after : (l : Option (ℕ → ℕ)) → Open s l r.part → s.want_v ≡ 0 → 1 ≤ s.want_e → T (is_frame 3 5 f)
      → After gs f (edge_frame s (get_or f 1 0) (get_or f 2 0) (word f 3))
  edge_wanted_after none o v e t = edge_after_lem o v e t
  edge_wanted_after (some to) o v e t = absurd (omega (arith, o.no_edges))

-- ---- a frame after the open one's last

module _ (s : Begun) (gs : List (List ℕ)) (f : List ℕ) (c : WholeForms gs (closed s)) where
  -- a task's frame f, of the masked length m, from `least` on
  task_after : (least m : ℕ) → (least ≤ m → f ≡ frame_of_task m (get_or f 1 0) (get_or f 2 0))
      → After gs f (task_frame s (get_or f 1 0) (get_or f 2 0) least m)
  task_after least m back =
      let nv = get_or f 1 0 in
      let ne = get_or f 2 0 in
      let z = begun (closed s) (task m [] []) nv ne in
      task_each (After gs f) s nv ne least m tt
      (λ some v_in e_in low m_in. part_begin z gs f (frame_of_task m nv ne) (back low) c (λ k. refl, open_begin m nv ne some))

  vendor_after : (v : Vendor) → T (is_frame v.kind 2 f) → After gs f (vendor_frame s v.to (get_or f 1 0))
  vendor_after v t =
      let n = get_or f 1 0 in
      let z = linked (closed s) (task 0 [] []) (v.to n) n in
      vendor_each (After gs f) s v.to n tt
      (λ some v_in. part_begin z gs f (v.kind ∷ n ∷ []) (count_back v.kind f t) c (links_begin (closed s) v n some))

  over_after : T (is_frame 0 1 f) → After gs f (over (closed s))
  over_after t =
      record {
        forms = c.forms;
        spelt = ap₂ (λ (l : List (List ℕ)) (g : List ℕ). l ++ (g ∷ [])) c.spelt (end_back f t);
        meant = c.meant;
      }

framed_after : (s : Begun) (gs : List (List ℕ)) (v e : ℕ) (f : List ℕ) → SoFar s gs → Bytes f → s.want_v ≡ v → s.want_e ≡ e
    → After gs f (framed s v e f)
framed_after s gs (suc v) e f r h p q =
    vertex_wanted (After gs f) s s.leads f tt
    (λ l. vertex_after s gs f r h (subst (λ (x : Option (ℕ → ℕ)). Open s x r.part) l r.held) (omega arith))
    (λ to l. link_after s gs f r h to (subst (λ (x : Option (ℕ → ℕ)). Open s x r.part) l r.held) (omega arith))
framed_after s gs zero (suc e) f r h p q = edge_wanted (After gs f) s e f tt (edge_wanted_after s gs f r h s.leads r.held p (omega arith))
framed_after s gs zero zero f r h p q =
    let c = closed-whole s gs r p q in
    task_wanted (After gs f) s f tt (λ t i. task_after s gs f c 0 0 (λ l. task_back f t)) (λ t i. task_after s gs f c 1 (word f 3) (masked_back f h t))
    (λ t i. vendor_after s gs f c a_ring t) (λ t i. vendor_after s gs f c a_gear_table t) (λ t i. over_after s gs f c t)

-- ---- all frames

frames_back : (s : Begun) (gs : List (List ℕ)) (n : ℕ) (fs : List (List ℕ)) (ts : Table) → AllFramed fs → SoFar s gs
    → frames_from some s n fs ≡ readable ts → Described frames_of_forms (gs ++ fs) ts
frames_back s gs n [] ts h r e = refused_apart e
frames_back s gs n (f ∷ fs) ts h r e =
    go (step_at s (some f)) (framed_after s gs s.want_v s.want_e f r h.0.1 refl refl)
    (λ z k q. frames_back z (gs ++ (f ∷ [])) (suc n) fs ts h.1 k q)
    (sym (step_frames some s n f fs) ∙ e)
  where
    ended : (us : Table) (ls : List (List ℕ)) → Described frames_of_forms (gs ++ (f ∷ [])) us → at_end us (suc n) ls ≡ readable ts
        → Described frames_of_forms (gs ++ (f ∷ ls)) ts
    ended us [] a q = let z : us ≡ ts = cc in subst (Described frames_of_forms (gs ++ (f ∷ []))) z a
    ended us (l ∷ ls) a q = refused_apart q

    go : (x : Step) → After gs f x
        → ((z : Begun) → SoFar z (gs ++ (f ∷ [])) → frames_from some z (suc n) fs ≡ readable ts → Described frames_of_forms ((gs ++ (f ∷ [])) ++ fs) ts)
        → frames_step some x n fs ≡ readable ts → Described frames_of_forms (gs ++ (f ∷ fs)) ts
    go (on z) a ih q = subst (λ (l : List (List ℕ)). Described frames_of_forms l ts) (append_assoc gs (f ∷ []) fs) (ih z a q)
    go (over us) a ih q = ended us fs a q
    go (wrong k) a ih q = refused_apart q

text_forms : (text : List ℕ) (ts : Table) (t : TextFrames text ts) → Described frames_of_forms t.frames ts
text_forms text ts t =
    frames_back nothing [] 1 t.frames ts t.framed
    (record { whole = []; part = []; spelt = refl; tasks = record { forms = []; spelt = refl; meant = refl }; held = (λ k. refl, refl) }) t.reading

-- a text of tasks described as plain tasks, rings or gear tables, and the table that these stand for
pub record FormsOf (text : List ℕ) (ts : Table) : Type 0 where
  pub forms : List Form
  pub spelt : text ≡ text_of_forms forms
  pub meant : ts ≡ map task_of forms

-- every readable text is one, of its table
pub forms_back : (text : List ℕ) (ts : Table) → read text ≡ readable ts → FormsOf text ts
forms_back text ts e =
    let t = readable_frames text ts e in
    let r = text_forms text ts t in
    record { forms = r.forms; spelt = t.spelt ∙ ap (gather line) r.spelt; meant = r.meant }

pub differ : {A : Type 0} → true ≡ false → A
differ e = absurd (let z : ◌≡◌ {A = ℕ} 0 1 = cc in omega arith)

-- "those without 05 to 07" have no ring and no gear table
plain_frames : (xs : List Form) → ((f : List ℕ) → Memᴰ f (gather frames_of_form xs) → PlainFrame (some f))
    → gather frames_of_form xs ≡ gather frames_of_task (map task_of xs)
plain_frames [] h = refl
plain_frames (plain k ∷ xs) h =
    ap (λ (l : List (List ℕ)). frames_of_task k ++ l) (plain_frames xs (λ f m. h f (Memᴰ.append_right (frames_of_task k) m)))
plain_frames (ring ys ∷ xs) h = differ (h (5 ∷ length ys ∷ []) (Memᴰ.head refl))
plain_frames (gears ys ∷ xs) h = differ (h (7 ∷ length ys ∷ []) (Memᴰ.head refl))

-- "writing what was read gives the same bytes", of a text "without 05 to 07"
pub text_of-read : (text : List ℕ) (ts : Table) → Plain text → read text ≡ readable ts → text_of ts ≡ text
unfolding text_of
text_of-read text ts h e =
    let t = readable_frames text ts e in
    let r = text_forms text ts t in
    let each : (f : List ℕ) → Memᴰ f t.frames → PlainFrame (some f) = λ f m. let (l, i, q) = t.lines f m in subst PlainFrame q (h l i) in
    let p = plain_frames r.forms (λ f m. each f (rw r.spelt (Memᴰ.append_left (frame_of_end ∷ []) m))) in
    sym (t.spelt ∙ ap (gather line) (r.spelt ∙ ap (λ (l : List (List ℕ)). l ++ (frame_of_end ∷ [])) p ∙ ap frames_of (sym r.meant)))
