-- The paths of a miss: one a higher task, of at most d vertices, each a vertex of its task.
use mathlib.Core.Path.{◌≡◌, refl, sym, ap, subst, ◌∙◌}
use Prim.Native.Nat.{ℕ, zero, suc, ◌≤◌, ◌<◌}
use native.Mathlib.Nat.{le_trans}
use native.Mathlib.Omega.{arith}
use mathlib.Core.List.Memᴰ
use mathlib.Core.List.{List, [], ◌∷◌, Memᴰ}
use lib.ListN.{length, get_or}
use lib.Seq.{length-take-le}
use lib.Dec.{T, ltb, ltb→lt}
use Rattle.meaning.specs.Bounds.{most_vertices, largest_d}
use Rattle.meaning.specs.Table.{Task, Table, no_task, no_vertex, task_at, vertex_at, higher}
use Rattle.meaning.specs.Paths.{Path, between, linked, legal}
use Rattle.meaning.specs.Verdict.{misses, Asked, deadline, C}
use Rattle.meaning.specs.Judge.{judged}
use Rattle.meaning.specs.Sound.{SoundVertex, SoundTask, SoundTable, AllSound}
use Rattle.meaning.specs.Demands.{First, Completes}
use Rattle.meaning.proofs.Lists.{both_left, both_right, mem_get_or, those_mem}
use Rattle.meaning.proofs.Edges.{link-edge}
use Rattle.meaning.proofs.PathsOf.{paths_legal, paths_short}
use Rattle.meaning.proofs.Verdicts.{W, witness_first, decided_misses, judged_given}
use Rattle.meaning.proofs.Answers.{sound_higher}

-- ---- a legal path keeps to its task's vertices

linked_in : (k : Task) → SoundTask k → (u : ℕ) (w : Path) → T (linked k u w) → (j : ℕ) → get_or w j 0 < length k.vertices
linked_in k s u [] l j = s.some_vertex
linked_in k s u (v ∷ w) l zero =
    let x = link-edge k u v (both_left (ltb 0 (length (between k u v))) (linked k v w) l) in
    omega (arith, (s.each_edge x.0 (those_mem _ k.edges x.1).0).to_in, x.2)
linked_in k s u (v ∷ w) l (suc j) = linked_in k s v w (both_right (ltb 0 (length (between k u v))) (linked k v w) l) j

legal_in : (k : Task) → SoundTask k → (w : Path) → T (legal k w) → (j : ℕ) → get_or w j 0 < length k.vertices
legal_in k s [] l j = absurd l
legal_in k s (v ∷ w) l zero = ltb→lt v (length k.vertices) (both_left (ltb v (length k.vertices)) (linked k v w) l)
legal_in k s (v ∷ w) l (suc j) = linked_in k s v w (both_right (ltb v (length k.vertices)) (linked k v w) l) j

-- ---- one path of each task

completes_count : (d : ℕ) (ks : List Task) (ws : List Path) → Completes d ks ws → length ws ≡ length ks
completes_count d [] [] c = omega arith
completes_count d [] (w ∷ ws) c = absurd c
completes_count d (k ∷ ks) [] c = absurd c
completes_count d (k ∷ ks) (w ∷ ws) c = ap suc (completes_count d ks ws c.1)

-- at most d vertices, each one of a task's
pub record Fits (d : ℕ) (w : Path) : Type 0 where
  pub short : length w ≤ d
  pub vertices : (j : ℕ) → get_or w j 0 < most_vertices

completes_fit : (d : ℕ) (ks : List Task) (ws : List Path) → AllSound ks → 1 ≤ d → Completes d ks ws → (w : Path) → Memᴰ w ws → Fits d w
completes_fit d [] [] s o c w m = absurd (Memᴰ.not-nil m)
completes_fit d [] (x ∷ ws) s o c w m = absurd c
completes_fit d (k ∷ ks) [] s o c w m = absurd c
completes_fit d (k ∷ ks) (x ∷ ws) s o c w (Memᴰ.head q) =
    let sound = s k (Memᴰ.head refl) in
    subst (Fits d) (sym q)
    (record {
      short = paths_short k sound d o x c.0;
      vertices = λ j. omega (arith, legal_in k sound x (paths_legal k d c.0) j, sound.vertex_count);
    })
completes_fit d (k ∷ ks) (x ∷ ws) s o c w (Memᴰ.tail m) = completes_fit d ks ws (λ y n. s y (Memᴰ.tail n)) o c.1 w m

-- ---- of a miss

module _ (ts : Table) (s : SoundTable ts) (i v : ℕ) (p : i < length ts) (u : v < length (task_at ts i).vertices)
    (asked : Asked) (b work wit c : ℕ) (ws : List Path) (q : judged asked ts i v b work wit ≡ misses c ws) where
  first : First ts i v ws
  first =
      let g = judged_given asked ts i v b work wit (misses c ws) q tt in
      let m = decided_misses (C asked ts i v) (W ts i v) c ws g.2 in
      subst (First ts i v) (sym m.2) (witness_first ts i v (sound_higher ts i s) m.0 m.1)

  pub miss_count : length ws ≡ i
  miss_count = completes_count (deadline ts i v) (higher ts i) ws first.complete ∙ length-take-le i ts (omega arith)

  own : SoundVertex (vertex_at (task_at ts i) v)
  own = let k = task_at ts i in (s.each_task k (mem_get_or no_task ts i p)).each_vertex (vertex_at k v) (mem_get_or no_vertex k.vertices v u)

  pub miss_fits : (w : Path) → Memᴰ w ws → Fits (deadline ts i v) w
  miss_fits w m = completes_fit (deadline ts i v) (higher ts i) ws (sound_higher ts i s) own.some_d first.complete w m

  pub miss_short : (w : Path) → Memᴰ w ws → length w ≤ largest_d
  miss_short w m = le_trans (miss_fits w m).short own.most_d
