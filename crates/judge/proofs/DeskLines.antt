-- The lines of a table's vertices, and how long they can be.
use mathlib.Core.Path.{◌≡◌, refl, ap, ◌∙◌}
use Prim.Native.Nat.{ℕ, suc, ◌+◌, ◌*◌, ◌≤◌}
use native.Mathlib.Nat.{add-mul}
use native.Mathlib.Omega.{arith}
use mathlib.Core.List.{List, [], ◌∷◌, ◌++◌, map, append-nil, Memᴰ}
use lib.ListN.{length, length-append}
use Rattle.meaning.specs.Lists.{sum, gather}
use Rattle.meaning.specs.Bounds.{desk_budget, desk_work, desk_witness, counts_line, path_line}
use Rattle.meaning.specs.Table.{Table}
use Rattle.meaning.specs.Paths.{Path}
use Rattle.meaning.specs.Verdict.{Verdict, meets, misses, unfinished, refused, plain, deadline}
use Rattle.meaning.specs.Sound.{SoundTable}
use Rattle.meaning.specs.Whole.{Place, places, counts_of}
use Rattle.meaning.specs.Text.{line}
use Rattle.meaning.specs.Desk.{path_frame, vertex_frames, verdict_frame, counts_frame, desk_verdict, table_frames}
use Rattle.meaning.proofs.Lists.{gather_append}
use Rattle.meaning.proofs.Whole.{place_in}
use Rattle.meaning.proofs.MissPaths.{Fits, miss_count, miss_fits}
use Rattle.desk_frames.specs.Lines.{path_lines}
use Rattle.meaning.proofs.TextSize.{line-length}
use Rattle.judge.specs.Desk.{vertex_room, table_room}

-- ---- the lines of vertices, and of a whole table

unfoldable pub vertex_lines : Table → Place → List ℕ
vertex_lines ts q = gather line (vertex_frames q (desk_verdict ts q))

unfoldable pub bytes_of : Table → List Place → List ℕ
bytes_of ts qs = gather line (gather (λ (q : Place). vertex_frames q (desk_verdict ts q)) qs)

pub lines_cons : (ts : Table) (q : Place) (qs : List Place) → bytes_of ts (q ∷ qs) ≡ vertex_lines ts q ++ bytes_of ts qs
unfolding bytes_of vertex_lines
lines_cons ts q qs = gather_append line (vertex_frames q (desk_verdict ts q)) (gather (λ (p : Place). vertex_frames p (desk_verdict ts p)) qs)

unfoldable pub counts_bytes : Table → List ℕ
counts_bytes ts = line (counts_frame (counts_of (map (desk_verdict ts) (places ts))))

pub table_lines : (ts : Table) → gather line (table_frames ts) ≡ bytes_of ts (places ts) ++ counts_bytes ts
unfolding bytes_of counts_bytes
table_lines ts =
    gather_append line (gather (λ (q : Place). vertex_frames q (desk_verdict ts q)) (places ts)) (counts_frame (counts_of (map (desk_verdict ts) (places ts))) ∷ [])
    ∙ ap (λ (l : List ℕ). bytes_of ts (places ts) ++ l) (append-nil (counts_bytes ts))

-- ---- how long they are

path_lines_short : (d i : ℕ) (ws : List Path) → ((w : Path) → Memᴰ w ws → Fits d w) → length (path_lines i ws) ≤ length ws * path_line d
path_lines_short d i [] f = omega arith
path_lines_short d i (w ∷ ws) f =
    let both = length-append (line (path_frame i w)) (path_lines (suc i) ws) in
    let own = line-length (path_frame i w) in
    let short = (f w (Memᴰ.head refl)).short in
    omega (arith, both, own, short, add-mul 1 (length ws) (path_line d), path_lines_short d (suc i) ws (λ v m. f v (Memᴰ.tail m)))

module _ (ts : Table) (s : SoundTable ts) where
  vertex_short : (q : Place) → Memᴰ q (places ts) → length (vertex_lines ts q) ≤ vertex_room ts q
  unfolding vertex_lines
  vertex_short q m = go (desk_verdict ts q) refl
    where
      go : (x : Verdict) → desk_verdict ts q ≡ x → length (gather line (vertex_frames q x)) ≤ vertex_room ts q
      go (meets c) e = omega arith
      go (misses c ws) e =
          let p = place_in ts q m in
          let d = deadline ts q.task q.vertex in
          let short = path_lines_short d 0 ws (miss_fits ts s q.task q.vertex p.0 p.1 plain desk_budget desk_work desk_witness c ws e) in
          let few = miss_count ts s q.task q.vertex p.0 p.1 plain desk_budget desk_work desk_witness c ws e in
          let head = line-length (verdict_frame q 1 c) in
          omega (arith, length-append (line (verdict_frame q 1 c)) (path_lines 0 ws), head, short, ap (λ (n : ℕ). n * path_line d) few)
      go (unfinished b) e = omega arith
      go (refused k place) e = omega arith

  lines_short : (qs : List Place) → ((q : Place) → Memᴰ q qs → Memᴰ q (places ts)) → length (bytes_of ts qs) ≤ sum (map (vertex_room ts) qs)
  unfolding bytes_of
  lines_short [] f = omega arith
  lines_short (q ∷ qs) f =
      let both = ap length (lines_cons ts q qs) ∙ length-append (vertex_lines ts q) (bytes_of ts qs) in
      let own = vertex_short q (f q (Memᴰ.head refl)) in
      omega (arith, both, own, lines_short qs (λ p m. f p (Memᴰ.tail m)))

  pub lines_fit : length (bytes_of ts (places ts)) + counts_line ≤ table_room ts
  lines_fit = omega (arith, lines_short (places ts) (λ q m. m))
