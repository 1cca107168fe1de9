-- A frame's step, case by case: what holds of each way in which the frame is taken or refused holds of the step. Each way says what its tests found.
use mathlib.Core.Path.{◌≡◌, refl}
use Prim.Native.Nat.{ℕ, zero, suc, ◌-◌, ◌≤◌, ◌<◌}
use mathlib.Core.Bool.{Bool, true, false, ◌&&◌}
use mathlib.Core.Option.{Option, none, some}
use mathlib.Core.List.{List, [], ◌∷◌, ◌++◌}
use lib.ListN.{length, get_or}
use lib.Dec.{T, leb, ltb, leb→le, ltb→lt}
use borrow.Author.Tests.{leb-false}
use Rattle.meaning.specs.Lists.{pick}
use Rattle.meaning.specs.Bounds.{most_tasks, most_vertices, most_edges, largest_e, largest_d, largest_p, largest_m}
use Rattle.meaning.specs.Table.{vertex, edge, task, no_vertex}
use Rattle.meaning.specs.Text.{is_frame, word, Begun, begun, linked, closed, Step, on, over, wrong, gate, within, task_frame, mask_fits, vertex_frame}
use Rattle.meaning.specs.Text.{after_last, edge_frame, ring_to, gear_to, vendor_frame, link_frame, wanted_vertex, framed}
use Rattle.meaning.specs.Sound.{SoundVertex, SoundEdge}
use Rattle.meaning.specs.Slips.{TooLong}
use Rattle.meaning.specs.Rings.{SoundLink}
use Rattle.meaning.proofs.Lists.{both_left, both_right}

-- ---- what the tests say

in_bounds : (low high n : ℕ) → T (within low high n) → (low ≤ n) × (n ≤ high)
in_bounds low high n t = (leb→le low n (both_left (leb low n) (leb n high) t), leb→le n high (both_right (leb low n) (leb n high) t))

-- e and d within their bounds
abbrev pub job_in : ℕ → ℕ → Bool
job_in e d = within 1 largest_e e && within 1 largest_d d

abbrev pub link_in : ℕ → ℕ → ℕ → Bool
link_in e d p = within 1 largest_e e && within 1 largest_d d && within 1 largest_p p

job_long : (e d : ℕ) → T (job_in e d) → leb e d ≡ false → TooLong e d
job_long e d t h =
    let a = in_bounds 1 largest_e e (both_left (within 1 largest_e e) (within 1 largest_d d) t) in
    let b = in_bounds 1 largest_d d (both_right (within 1 largest_e e) (within 1 largest_d d) t) in
    record { most_e = a.1; some_d = b.0; most_d = b.1; over = leb-false e d h }

job_sound : (e d : ℕ) → T (job_in e d) → T (leb e d) → SoundVertex (vertex e d)
job_sound e d t h =
    let a = in_bounds 1 largest_e e (both_left (within 1 largest_e e) (within 1 largest_d d) t) in
    let b = in_bounds 1 largest_d d (both_right (within 1 largest_e e) (within 1 largest_d d) t) in
    record { some_e = a.0; most_e = a.1; some_d = b.0; most_d = b.1; in_time = leb→le e d h }

-- ---- each kind of frame

module _ (Q : Step → Type 0) where
  gate_either : (b : Bool) (k : ℕ) (s : Step) → (b ≡ false → Q (wrong k)) → (T b → Q s) → Q (gate b k s)
  gate_either true k s i h = h tt
  gate_either false k s i h = i refl

  gate_step : (b : Bool) (k : ℕ) (s : Step) → Q (wrong k) → (T b → Q s) → Q (gate b k s)
  gate_step b k s i h = gate_either b k s (λ e. i) h

  pick_step : (b : Bool) (x y : Step) → (T b → Q x) → Q y → Q (pick b x y)
  pick_step true x y a c = a tt
  pick_step false x y a c = c

  pub task_each : (s : Begun) (nv ne least m : ℕ) → Q (wrong 3)
      → (1 ≤ nv → nv ≤ most_vertices → ne ≤ most_edges → least ≤ m → m ≤ largest_m → Q (on (begun (closed s) (task m [] []) nv ne)))
      → Q (task_frame s nv ne least m)
  task_each s nv ne least m i h =
      let counts = within 1 most_vertices nv && leb ne most_edges in
      gate_step (counts && within least largest_m m) 3 (on (begun (closed s) (task m [] []) nv ne)) i
      (λ t.
      let r = both_left counts (within least largest_m m) t in
      let v = in_bounds 1 most_vertices nv (both_left (within 1 most_vertices nv) (leb ne most_edges) r) in
      let k = in_bounds least largest_m m (both_right counts (within least largest_m m) t) in
      h v.0 v.1 (leb→le ne most_edges (both_right (within 1 most_vertices nv) (leb ne most_edges) r)) k.0 k.1)

  pub vertex_each : (s : Begun) (e d : ℕ) → let vs = s.vertices ++ (vertex e d ∷ []) in (job_in e d ≡ false → Q (wrong 3)) → (TooLong e d → Q (wrong 13))
      → (SoundVertex (vertex e d) → Q (wrong 3))
      → (SoundVertex (vertex e d) → T (mask_fits s vs) → Q (on (begun s.tasks (task s.m vs s.edges) (s.want_v - 1) s.want_e)))
      → Q (vertex_frame s e d)
  vertex_each s e d out long unfit taken =
      let vs = s.vertices ++ (vertex e d ∷ []) in
      let end : Step = on (begun s.tasks (task s.m vs s.edges) (s.want_v - 1) s.want_e) in
      gate_either (job_in e d) 3 (gate (leb e d) 13 (gate (mask_fits s vs) 3 end)) out
      (λ t. gate_either (leb e d) 13 (gate (mask_fits s vs) 3 end) (λ h. long (job_long e d t h))
      (λ u. let x = job_sound e d t u in gate_step (mask_fits s vs) 3 end (unfit x) (taken x)))

  pub edge_each : (s : Begun) (from to p : ℕ) → let x = edge from to p in Q (wrong 3) → Q (wrong 4) → Q (wrong 5)
      → (SoundEdge s.vertices x → T (after_last s.edges x)
      → Q (on (begun s.tasks (task s.m s.vertices (s.edges ++ (x ∷ []))) 0 (s.want_e - 1))))
      → Q (edge_frame s from to p)
  edge_each s from to p out late unordered taken =
      let x = edge from to p in
      let vs = s.vertices in
      let end : Step = on (begun s.tasks (task s.m vs (s.edges ++ (x ∷ []))) 0 (s.want_e - 1)) in
      let ends = ltb from (length vs) && ltb to (length vs) in
      let b4 = leb (get_or vs from no_vertex).d p in
      let b5 = after_last s.edges x in
      gate_step (ends && within 1 largest_p p) 3 (gate b4 4 (gate b5 5 end)) out
      (λ t. gate_step b4 4 (gate b5 5 end) late
      (λ u. gate_step b5 5 end unordered
      (taken
      (let there = both_left ends (within 1 largest_p p) t in
      let r = in_bounds 1 largest_p p (both_right ends (within 1 largest_p p) t) in
      record {
        from_in = ltb→lt from (length vs) (both_left (ltb from (length vs)) (ltb to (length vs)) there);
        to_in = ltb→lt to (length vs) (both_right (ltb from (length vs)) (ltb to (length vs)) there);
        some_p = r.0;
        most_p = r.1;
        spaced = leb→le (get_or vs from no_vertex).d p u;
      }))))

  pub vendor_each : (s : Begun) (to : ℕ → ℕ → ℕ) (n : ℕ) → Q (wrong 3)
      → (1 ≤ n → n ≤ most_vertices → Q (on (linked (closed s) (task 0 [] []) (to n) n))) → Q (vendor_frame s to n)
  vendor_each s to n i h =
      gate_step (within 1 most_vertices n) 3 (on (linked (closed s) (task 0 [] []) (to n) n)) i
      (λ t. let r = in_bounds 1 most_vertices n t in h r.0 r.1)

  pub link_each : (s : Begun) (to : ℕ → ℕ) (e d p : ℕ) → (link_in e d p ≡ false → Q (wrong 3)) → (TooLong e d → T (within 1 largest_p p) → Q (wrong 13))
      → (SoundVertex (vertex e d) → Q (wrong 4))
      → let i = length s.vertices in (SoundLink (record { e = e; d = d; p = p })
      → Q (on (linked s.tasks (task s.m (s.vertices ++ (vertex e d ∷ [])) (s.edges ++ (edge i (to i) p ∷ []))) to (s.want_v - 1))))
      → Q (link_frame s to e d p)
  link_each s to e d p out long late taken =
      let i = length s.vertices in
      let end : Step = on (linked s.tasks (task s.m (s.vertices ++ (vertex e d ∷ [])) (s.edges ++ (edge i (to i) p ∷ []))) to (s.want_v - 1)) in
      gate_either (link_in e d p) 3 (gate (leb e d) 13 (gate (leb d p) 4 end)) out
      (λ t.
      let job = both_left (job_in e d) (within 1 largest_p p) t in
      let p_in = both_right (job_in e d) (within 1 largest_p p) t in
      gate_either (leb e d) 13 (gate (leb d p) 4 end) (λ h. long (job_long e d job h) p_in)
      (λ u.
      let x = job_sound e d job u in
      gate_step (leb d p) 4 end (late x)
      (λ w. let r = in_bounds 1 largest_p p p_in in taken (record { vertex = x; some_p = r.0; most_p = r.1; spaced = leb→le d p w }))))

  -- ---- which frame may stand there

  pub vertex_wanted : (s : Begun) (l : Option (ℕ → ℕ)) (f : List ℕ) → Q (wrong 2)
      → (l ≡ none → T (is_frame 2 5 f) → Q (vertex_frame s (word f 1) (word f 3)))
      → ((to : ℕ → ℕ) → l ≡ some to → T (is_frame 6 7 f) → Q (link_frame s to (word f 1) (word f 3) (word f 5))) → Q (wanted_vertex s l f)
  vertex_wanted s none f i plain link = pick_step (is_frame 2 5 f) (vertex_frame s (word f 1) (word f 3)) (wrong 2) (plain refl) i
  vertex_wanted s (some to) f i plain link = pick_step (is_frame 6 7 f) (link_frame s to (word f 1) (word f 3) (word f 5)) (wrong 2) (link to refl) i

  pub edge_wanted : (s : Begun) (e : ℕ) (f : List ℕ) → Q (wrong 2) → (T (is_frame 3 5 f) → Q (edge_frame s (get_or f 1 0) (get_or f 2 0) (word f 3)))
      → Q (framed s zero (suc e) f)
  edge_wanted s e f i h = pick_step (is_frame 3 5 f) (edge_frame s (get_or f 1 0) (get_or f 2 0) (word f 3)) (wrong 2) h i

  -- after whole tasks
  pub task_wanted : (s : Begun) (f : List ℕ) → Q (wrong 2)
      → (T (is_frame 1 3 f) → length (closed s) < most_tasks → Q (task_frame s (get_or f 1 0) (get_or f 2 0) 0 0))
      → (T (is_frame 4 5 f) → length (closed s) < most_tasks → Q (task_frame s (get_or f 1 0) (get_or f 2 0) 1 (word f 3)))
      → (T (is_frame 5 2 f) → length (closed s) < most_tasks → Q (vendor_frame s ring_to (get_or f 1 0)))
      → (T (is_frame 7 2 f) → length (closed s) < most_tasks → Q (vendor_frame s gear_to (get_or f 1 0)))
      → (T (is_frame 0 1 f) → 0 < length (closed s) → Q (over (closed s))) → Q (framed s zero zero f)
  task_wanted s f i plain masked ring gear end =
      let few = ltb (length (closed s)) most_tasks in
      let some = ltb 0 (length (closed s)) in
      let over? = pick (is_frame 0 1 f && some) (over (closed s)) (wrong 2) in
      let gears = pick (is_frame 7 2 f && few) (vendor_frame s gear_to (get_or f 1 0)) over? in
      let rings = pick (is_frame 5 2 f && few) (vendor_frame s ring_to (get_or f 1 0)) gears in
      let masks = task_frame s (get_or f 1 0) (get_or f 2 0) 1 (word f 3) in
      pick_step (is_frame 1 3 f && few) (task_frame s (get_or f 1 0) (get_or f 2 0) 0 0) (pick (is_frame 4 5 f && few) masks rings) (room (is_frame 1 3 f) plain)
      (pick_step (is_frame 4 5 f && few) masks rings (room (is_frame 4 5 f) masked)
      (pick_step (is_frame 5 2 f && few) (vendor_frame s ring_to (get_or f 1 0)) gears (room (is_frame 5 2 f) ring)
      (pick_step (is_frame 7 2 f && few) (vendor_frame s gear_to (get_or f 1 0)) over? (room (is_frame 7 2 f) gear)
      (pick_step (is_frame 0 1 f && some) (over (closed s)) (wrong 2)
      (λ t. end (both_left (is_frame 0 1 f) some t) (ltb→lt 0 (length (closed s)) (both_right (is_frame 0 1 f) some t))) i))))
    where
      -- one more task fits
      room : (b : Bool) {x : Step} → (T b → length (closed s) < most_tasks → Q x) → T (b && ltb (length (closed s)) most_tasks) → Q x
      room b h t =
          let few = ltb (length (closed s)) most_tasks in
          h (both_left b few t) (ltb→lt (length (closed s)) most_tasks (both_right b few t))
