-- Rings and gear tables, read: their frames give the plain task that they stand for, and what the reader keeps of it are the expansion's facts.
use mathlib.Core.Path.{◌≡◌, refl, sym, ap, subst, ◌∙◌}
use Prim.Native.Nat.{ℕ, suc, ◌+◌, ◌-◌, ◌≤◌, ◌<◌}
use native.Mathlib.Omega.{arith}
use mathlib.Core.Option.{some}
use mathlib.Core.List.Memᴰ
use mathlib.Core.List.{List, [], ◌∷◌, ◌++◌, map, append_assoc, append-nil, Memᴰ}
use lib.ListN.{length, length-map}
use lib.Seq.{get_or-append_seam}
use borrow.Author.Tests.{le-leb, lt-ltb, le-ltb}
use Rattle.meaning.specs.Bounds.{most_tasks, most_vertices, largest_e, largest_d, largest_p}
use Rattle.meaning.specs.Table.{Vertex, Edge, Task, edge, task, no_vertex}
use Rattle.meaning.specs.Text.{Begun, begun, linked, nothing, closed, Step, on, ring_to, gear_to, vendor_frame, step_at, readable, frames_from}
use Rattle.meaning.specs.Sound.{SoundVertex, SoundEdge, SoundTask, SoundTable}
use Rattle.meaning.specs.Writing.{frame_of_end}
use Rattle.meaning.specs.Rings.{Link, link_vertex, edges_from, stands_for, SoundLink, Inward, Expands, Expansion}
use Rattle.meaning.specs.Rings.{Form, plain, ring, gears, task_of, frame_of_link, frames_of_form, frames_of_forms}
use Rattle.meaning.proofs.Lists.{length_snoc, each_map}
use Rattle.meaning.proofs.FramesKeep.{HeldSoFar, Ok, Closed, within_true, ring_leads, gear_leads, vendor_ok}
use Rattle.meaning.proofs.Readable.{frames_step, step_frames, Good, from_good, linked-whole}
use Rattle.meaning.proofs.FrameLines.{Framed, AllFramed}
use Rattle.meaning.proofs.FramesBack.{two-word}
use Rattle.meaning.proofs.TextRead.{task-framed, all_gathered}

abbrev pub SoundLinks : List Link → Type 0
SoundLinks xs = (x : Link) → Memᴰ x xs → SoundLink x

-- ---- a frame 05 or 07 of v vertices, and its frames 06

head_step : (s : Begun) (to : ℕ → ℕ → ℕ) (v : ℕ) → 1 ≤ v → v ≤ most_vertices → vendor_frame s to v ≡ on (linked (closed s) (task 0 [] []) (to v) v)
head_step s to v a b = rw (within_true 1 most_vertices v a b)

module _ (ts : List Task) (to : ℕ → ℕ) where
  abbrev after_links : List Vertex → List Edge → ℕ → Begun
  after_links vs es v = linked ts (task 0 vs es) to v

  link_step : (vs : List Vertex) (es : List Edge) (v : ℕ) (x : Link) → SoundLink x
      → step_at (after_links vs es (suc v)) (some (frame_of_link x))
      ≡ on (after_links (vs ++ (link_vertex x ∷ [])) (es ++ (edge (length vs) (to (length vs)) x.p ∷ [])) v)
  link_step vs es v x s =
      let o : suc v - 1 ≡ v = omega arith in
      rw (
        two-word x.e,
        two-word x.d,
        two-word x.p,
        within_true 1 largest_e x.e s.vertex.some_e s.vertex.most_e,
        within_true 1 largest_d x.d s.vertex.some_d s.vertex.most_d,
        within_true 1 largest_p x.p s.some_p s.most_p,
        le-leb x.e x.d s.vertex.in_time,
        le-leb x.d x.p s.spaced,
        o,
      )

  pub links_run : (fs : List (List ℕ)) (xs : List Link) (vs : List Vertex) (es : List Edge) (n : ℕ) → SoundLinks xs
      → frames_from some (after_links vs es (length xs)) n (map frame_of_link xs ++ fs)
      ≡ frames_from some (after_links (vs ++ map link_vertex xs) (es ++ edges_from to (length vs) xs) 0) (n + length xs) fs
  links_run fs [] vs es n s = let o : n + 0 ≡ n = omega arith in rw (append-nil vs, append-nil es, o)
  links_run fs (x ∷ xs) vs es n s =
      let v : Vertex = link_vertex x in
      let e : Edge = edge (length vs) (to (length vs)) x.p in
      let o : suc n + length xs ≡ n + suc (length xs) = omega arith in
      step_frames some (after_links vs es (suc (length xs))) n (frame_of_link x) (map frame_of_link xs ++ fs)
      ∙ ap (λ (r : Step). frames_step some r n (map frame_of_link xs ++ fs)) (link_step vs es (length xs) x (s x (Memᴰ.head refl)))
      ∙ links_run fs xs (vs ++ (v ∷ [])) (es ++ (e ∷ [])) (suc n) (λ y m. s y (Memᴰ.tail m))
      ∙ rw (length_snoc vs v, append_assoc vs (v ∷ []) (map link_vertex xs), append_assoc es (e ∷ []) (edges_from to (suc (length vs)) xs), o)

-- ---- the whole of a ring or a gear table, after whole tasks and the task k

module _ (ts : List Task) (k : Task) (few : length (closed (begun ts k 0 0)) < most_tasks) where
  abbrev before : Begun
  before = begun ts k 0 0

  linked_run : (κ : ℕ) (to : ℕ → ℕ → ℕ) → ((v : ℕ) → step_at before (some (κ ∷ v ∷ [])) ≡ vendor_frame before to v) → (xs : List Link) (n : ℕ)
      (fs : List (List ℕ)) → 1 ≤ length xs → length xs ≤ most_vertices → SoundLinks xs
      → frames_from some before n ((κ ∷ length xs ∷ []) ∷ map frame_of_link xs ++ fs)
      ≡ frames_from some (begun (closed before) (stands_for to xs) 0 0) (n + suc (length (map frame_of_link xs))) fs
  linked_run κ to head xs n fs a b s =
      let o : suc n + length xs ≡ n + suc (length (map frame_of_link xs)) = omega (arith, length-map xs frame_of_link) in
      step_frames some before n (κ ∷ length xs ∷ []) (map frame_of_link xs ++ fs)
      ∙ ap (λ (r : Step). frames_step some r n (map frame_of_link xs ++ fs)) (head (length xs) ∙ head_step before to (length xs) a b)
      ∙ links_run (closed before) (to (length xs)) fs xs [] [] (suc n) s
      ∙ linked-whole some (closed before) (stands_for to xs) (to (length xs)) (suc n + length xs) fs
      ∙ ap (λ (m : ℕ). frames_from some (begun (closed before) (stands_for to xs) 0 0) m fs) o

  pub ring_run : (xs : List Link) (n : ℕ) (fs : List (List ℕ)) → 1 ≤ length xs → length xs ≤ most_vertices → SoundLinks xs
      → frames_from some before n (frames_of_form (ring xs) ++ fs)
      ≡ frames_from some (begun (closed before) (stands_for ring_to xs) 0 0) (n + length (frames_of_form (ring xs))) fs
  ring_run = linked_run 5 ring_to (λ v. rw (lt-ltb (length (closed before)) most_tasks few))

  pub gears_run : (xs : List Link) (n : ℕ) (fs : List (List ℕ)) → 1 ≤ length xs → length xs ≤ most_vertices → SoundLinks xs
      → frames_from some before n (frames_of_form (gears xs) ++ fs)
      ≡ frames_from some (begun (closed before) (stands_for gear_to xs) 0 0) (n + length (frames_of_form (gears xs))) fs
  gears_run = linked_run 7 gear_to (λ v. rw (lt-ltb (length (closed before)) most_tasks few))

-- ---- the expansion

as_many : (to : ℕ → ℕ) (i : ℕ) (xs : List Link) → length (edges_from to i xs) ≡ length (map link_vertex xs)
as_many to i [] = refl
as_many to i (x ∷ xs) = ap suc (as_many to (suc i) xs)

-- before the first link, and behind the last
first-held : (to : ℕ → ℕ → ℕ) (v : ℕ) → Inward to → 1 ≤ v → v ≤ most_vertices → HeldSoFar 2 (linked [] (task 0 [] []) (to v) v)
first-held to v inward a b =
    let none : Closed 1 [] = record { sound = λ x m. absurd (Memᴰ.not-nil m); line = omega arith; count = omega arith } in
    subst (Ok 1) (head_step nothing to v a b) (vendor_ok 1 nothing to v (inward v) none (omega arith))

end_read : (to : ℕ → ℕ → ℕ) (xs : List Link) (n : ℕ) → 1 ≤ length xs
    → frames_from some (linked [] (stands_for to xs) (to (length xs)) 0) n (frame_of_end ∷ []) ≡ readable (stands_for to xs ∷ [])
end_read to [] n h = absurd (omega arith)
end_read to (x ∷ xs) n h = refl

expands : (to : ℕ → ℕ → ℕ) → Inward to → Expands to
expands to inward xs a b s =
    let run = links_run [] (to (length xs)) (frame_of_end ∷ []) xs [] [] 2 s ∙ end_read to xs (2 + length xs) a in
    let held = first-held to (length xs) inward a b in
    let good = subst Good run (from_good some _ 2 (map frame_of_link xs ++ (frame_of_end ∷ [])) held) in
    (good.each_task (stands_for to xs) (Memᴰ.head refl), as_many (to (length xs)) 0 xs)

pub expansion : Expansion
expansion =
    record {
      once = expands;
      ring = expands ring_to ring_leads;
      gears = expands gear_to gear_leads;
      next = λ n i h. rw (lt-ltb (suc i) n h);
      first = λ n. rw (le-ltb (suc n) (suc n) (omega arith));
      itself = λ n i. refl;
    }

-- ---- from the plain task back to the links

links_back : (to : ℕ → ℕ) (vs : List Vertex) (xs : List Link) → ((y : Vertex) → Memᴰ y (map link_vertex xs) → SoundVertex y)
    → ((y : Edge) → Memᴰ y (edges_from to (length vs) xs) → SoundEdge (vs ++ map link_vertex xs) y) → SoundLinks xs
links_back to vs [] h l x m = absurd (Memᴰ.not-nil m)
links_back to vs (x ∷ xs) h l y (Memᴰ.head q) =
    let s = l (edge (length vs) (to (length vs)) x.p) (Memᴰ.head refl) in
    subst SoundLink (sym q)
    (record {
      vertex = h (link_vertex x) (Memᴰ.head refl);
      some_p = s.some_p;
      most_p = s.most_p;
      spaced = subst (λ (z : Vertex). z.d ≤ x.p) (get_or-append_seam vs (link_vertex x) (map link_vertex xs) no_vertex) s.spaced;
    })
links_back to vs (x ∷ xs) h l y (Memᴰ.tail m) =
    links_back to (vs ++ (link_vertex x ∷ [])) xs (λ z i. h z (Memᴰ.tail i))
    (rw (length_snoc vs (link_vertex x), append_assoc vs (link_vertex x ∷ []) (map link_vertex xs)) (λ z i. l z (Memᴰ.tail i))) y m

pub links_sound : (to : ℕ → ℕ → ℕ) (xs : List Link) → SoundTask (stands_for to xs) → SoundLinks xs
links_sound to xs s = links_back (to (length xs)) [] xs s.each_vertex s.each_edge

-- ---- a sound table's numbers fit the bytes of its forms

link-framed : (x : Link) → SoundLink x → Framed (frame_of_link x)
link-framed x s =
    let e = s.vertex.most_e in
    let d = s.vertex.most_d in
    let p = s.most_p in
    (omega arith, (omega arith, (omega arith, (omega arith, (omega arith, (omega arith, (omega arith, (omega arith, tt))))))))

linked-framed : (κ : ℕ) (to : ℕ → ℕ → ℕ) (xs : List Link) → κ < 256 → SoundTask (stands_for to xs) → (f : List ℕ)
    → Memᴰ f ((κ ∷ length xs ∷ []) ∷ map frame_of_link xs) → Framed f
linked-framed κ to xs h s f (Memᴰ.head q) =
    subst Framed (sym q) (omega arith, (h, (omega (arith, s.vertex_count, length-map xs link_vertex), tt)))
linked-framed κ to xs h s f (Memᴰ.tail m) = each_map Framed frame_of_link xs (λ x i. link-framed x (links_sound to xs s x i)) f m

form_framed : (x : Form) → SoundTask (task_of x) → (f : List ℕ) → Memᴰ f (frames_of_form x) → Framed f
form_framed (plain k) s = task-framed k s
form_framed (ring xs) s = linked-framed 5 ring_to xs (omega arith) s
form_framed (gears xs) s = linked-framed 7 gear_to xs (omega arith) s

pub forms_framed : (xs : List Form) → SoundTable (map task_of xs) → AllFramed (frames_of_forms xs)
forms_framed xs s = all_gathered frames_of_form xs (λ x m. form_framed x (s.each_task (task_of x) (Memᴰ.map task_of m)))
