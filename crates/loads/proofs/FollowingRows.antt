-- Rows along lone edges: those put from where they lead are those put from where they start.
use mathlib.Core.Path.{◌≡◌, refl, ap, ◌∙◌}
use Prim.Native.Nat.{ℕ, ◌+◌, ◌-◌, ◌*◌, ◌≤◌, ◌<◌}
use native.Mathlib.Omega.{arith}
use mathlib.Core.List.{List}
use lib.ListN.{length, get_or, replicate}
use lib.Seq.{sets, length-sets}
use Rattle.meaning.specs.Bounds.{most_vertices}
use Rattle.columns.specs.Columns.{widest, SoundColumns}
use Rattle.columns.specs.declared.Out.{Out}
use Rattle.columns.specs.Only.{Alone}
use Rattle.ways.specs.Ways.{ways}
use Rattle.ways.proofs.Turns.{Turn, turn_first, edge_on, ways_some, lone-length}
use Rattle.loads.specs.Rows.{RowsPut}
use Rattle.loads.specs.Follow.{FollowedRow}
use Rattle.loads.proofs.Fronts.{copied_here}
use Rattle.loads.proofs.PutRows.{going_none, going_on, put_some}

-- ---- the loop of `follow_row`

pub led_none : (e start to p : List ℕ) (d v span below row : ℕ) (P : List ℕ) → v < most_vertices → span < d → below ≤ widest * span
    → FollowedRow e start to p d v span below row P v span below P
led_none e start to p d v span below row P hv hs light =
    record { vertex = hv; onward = omega arith; room = hs; light = light; size = refl; same = refl; put = λ i r Q z f. f }

module _ {e start to p : List ℕ} (so : SoundColumns start to p) {d v span below row : ℕ} {P : List ℕ} {u s b j k : ℕ} {R : List ℕ}
    (f : FollowedRow e start to p d v span below row P u s b R) (g : Turn start u j k) (ek : k ≡ get_or start u 0) (one : j ≡ k + 1)
    (hd : row + d ≤ length P) (t : ℕ) (et : t ≡ get_or e u 0) (ht : t ≤ widest) (room : s + get_or p k 0 < d)
    (R' : List ℕ) (eR : R' ≡ sets R (row + s) (replicate (get_or p k 0) (b + t))) where
  put_on : (i r : ℕ) (Q : List ℕ) → row ≡ 2 * i * d → RowsPut e start to p d (get_or to k 0) (s + get_or p k 0) (b + t) i R' Q r
      → RowsPut e start to p d v span below i P Q r
  put_on i r Q z x =
      let w = edge_on so g (omega arith) in
      let l = f.size in
      let n = going_none {e = e} so d u s b i j k R f.vertex f.room g.ends ek in
      let o = going_on n so (omega arith) room (omega arith) (b + t) (ap (λ (m : ℕ). b + m) et) (copied_here R (2 * i * d) s (2 * i * d) refl (omega arith))
      (eR ∙ ap (λ (m : ℕ). sets R (m + s) (replicate (get_or p k 0) (b + t))) z) Q r x in
      let y = ways_some so (get_or to k 0) (d - (s + get_or p k 0)) w.1 (omega arith) in
      f.put i r Q z (put_some o so (omega arith) (λ h. omega (arith, x.next)))

  led_on : FollowedRow e start to p d v span below row P (get_or to k 0) (s + get_or p k 0) (b + t) R'
  led_on =
      let w = edge_on so g (omega arith) in
      let a = f.onward in
      let l = f.light in
      let z : d - (s + get_or p k 0) ≡ d - s - get_or p k 0 = omega arith in
      let h = f.room in
      record {
        vertex = w.1;
        onward = omega arith;
        room = room;
        light = omega arith;
        size = ap length eR ∙ length-sets R (row + s) (replicate (get_or p k 0) (b + t)) ∙ f.size;
        same = ap (λ (m : ℕ). length (ways start to p (get_or to k 0) m)) z ∙ lone-length so u (d - s) j k g (omega arith) ek one (omega arith) ∙ f.same;
        put = put_on;
      }

-- by an edge that alone leaves u
pub led_alone : {e start to p : List ℕ} → SoundColumns start to p → {d v span below row : ℕ} {P : List ℕ} {u s b : ℕ} {R : List ℕ} {x : Out}
    → FollowedRow e start to p d v span below row P u s b R → Alone start to p u (d - s) x → row + d ≤ length P
    → (t : ℕ) → t ≡ get_or e u 0 → t ≤ widest → (R' : List ℕ) → R' ≡ sets R (row + s) (replicate x.p.0 (b + t))
    → FollowedRow e start to p d v span below row P x.to.number.0 (s + x.p.0) (b + t) R'
led_alone {e} {start} {to} {p} so {u = u} f a hd t et ht R' eR =
    let k = get_or start u 0 in
    let g = turn_first so u (get_or start (u + 1) 0) k f.vertex refl refl in
    rw (a.leads, a.takes) (led_on so f g refl a.one hd t et ht (omega (arith, a.takes, a.less, f.room)) R' (rw a.takes at eR))
