-- The rows of the ways on from a vertex, put one after another.
use mathlib.Core.Path.{◌≡◌, refl, sym, ap, ap₂, subst, ◌∙◌}
use mathlib.Core.Logic.{⊎_elim}
use Prim.Native.Nat.{ℕ, suc, ◌+◌, ◌-◌, ◌*◌, ◌≤◌, ◌<◌}
use native.Mathlib.Nat.{add-zero, add-mul, le_trans, mul-le-mul_right, eq-or-lt_of_le}
use native.Mathlib.Omega.{arith}
use mathlib.Core.List.{List, [], ◌∷◌, ◌++◌, append_assoc}
use lib.ListN.{length, get_or, take, drop, replicate, length-map, length-append, length-replicate}
use lib.Seq.{sets, length-sets}
use Rattle.meaning.specs.Bounds.{most_vertices}
use Rattle.meaning.proofs.Lists.{map-append}
use Rattle.columns.specs.Columns.{SoundColumns}
use Rattle.ways.specs.Ways.{ways, on_by, or_stop}
use Rattle.loads.specs.Rows.{Apart, Copied, put_rows, Room, rows_behind, front_of, RowsPut}
use Rattle.loads.specs.Follow.{FollowedRow}
use Rattle.ways.specs.Runs.{runs}
use Rattle.meaning.proofs.Stores.{sets-take}
use Rattle.ways.proofs.Ways.{by_edges, step_no, step_yes, length_yes, by_edges_none, ways_step, length_ways, or_stop-length, or_stop_some, length_zero}
use Rattle.ways.proofs.Turns.{Turn, turn_first, turn_next, edge_on, ways_some}
use Rattle.loads.proofs.Fronts.{take_less, length_front, sets_same, sets_over, front-stored, front_more}

pub put-append : (xs ys : List (List ℕ)) (d n : ℕ) (P : List ℕ) → put_rows d n (xs ++ ys) P ≡ put_rows d (n + length xs) ys (put_rows d n xs P)
unfolding put_rows
put-append [] ys d n P = rw add-zero
put-append (x ∷ xs) ys d n P =
    let z : n + 1 + length xs ≡ n + suc (length xs) = omega arith in
    put-append xs ys d (n + 1) (sets P (2 * n * d) x) ∙ ap (λ (m : ℕ). put_rows d m ys (put_rows d (n + 1) xs (sets P (2 * n * d) x))) z

pub put-length : (xs : List (List ℕ)) (d n : ℕ) (P : List ℕ) → length (put_rows d n xs P) ≡ length P
unfolding put_rows
put-length [] d n P = refl
put-length (x ∷ xs) d n P = put-length xs d (n + 1) (sets P (2 * n * d) x) ∙ length-sets P (2 * n * d) x

-- the front that all rows begin with may have stood before them where the first is put
put_over : (e to p : List ℕ) (d n room below v : ℕ) (x P : List ℕ) (hs : List (List ℕ)) → 1 ≤ length hs
    → put_rows d n (rows_behind e to p x room below v hs) (sets P (2 * n * d) x) ≡ put_rows d n (rows_behind e to p x room below v hs) P
unfolding rows_behind put_rows
put_over e to p d n room below v x P [] h = absurd (omega arith)
put_over e to p d n room below v x P (h ∷ hs) l =
    ap (put_rows d (n + 1) (rows_behind e to p x room below v hs)) (sets_over P (2 * n * d) x (runs e to p room below v h))

-- the rows by an edge, seen from v and from where it leads
rows_by : (e to p row : List ℕ) (room below v k : ℕ) (hs : List (List ℕ))
    → rows_behind e to p row room below v (on_by k hs) ≡ rows_behind e to p
    (row ++ replicate (get_or p k 0) (below + get_or e v 0)) (room - get_or p k 0) (below + get_or e v 0) (get_or to k 0) hs
unfolding rows_behind
rows_by e to p row room below v k [] = refl
rows_by e to p row room below v k (h ∷ hs) =
    ap₂ (λ (a : List ℕ) (b : List (List ℕ)). a ∷ b)
    (sym (append_assoc row (replicate (get_or p k 0) (below + get_or e v 0)) (runs e to p (room - get_or p k 0) (below + get_or e v 0) (get_or to k 0) h)))
    (rows_by e to p row room below v k hs)

pub room_less : (d m n len : ℕ) → Room d m len → n ≤ m → Room d n len
room_less d m n len r h =
    let f = r.fits in
    let g = r.few in
    record { few = omega arith; fits = le_trans (mul-le-mul_right {m = 2 * n} d (omega arith)) f }

row_next : (d i : ℕ) → 2 * (i + 1) * d ≡ 2 * i * d + 2 * d
row_next d i = let z : 2 * (i + 1) ≡ 2 * i + 2 = omega arith in ap (λ (n : ℕ). n * d) z ∙ add-mul (2 * i) 2 d

-- a leaf's row lies in the stretch
pub room_leaf : (d i len : ℕ) → Room d (i + 1) len → 2 * i * d + d ≤ len
room_leaf d i len r =
    let f = r.fits in
    omega (arith, row_next d i)

pub rows_apart : (d i n s : ℕ) → i ≤ n → s ≤ d → Apart (2 * i * d) s (2 * n * d)
rows_apart d i n s h l ne =
    ⊎_elim (λ (e : i ≡ n). absurd (ne (ap (λ (m : ℕ). 2 * m * d) (sym e))))
    (λ (q : i < n). let b : 2 * (i + 1) * d ≤ 2 * n * d = mul-le-mul_right {m = 2 * (i + 1)} d (omega arith) in omega (arith, row_next d i))
    (eq-or-lt_of_le h)

pub room_one : (d i m len : ℕ) → Room d (i + m) len → 1 ≤ m → Room d (i + 1) len
room_one d i m len r h = room_less d (i + m) (i + 1) len r (omega arith)

pub room_here : {start to p : List ℕ} → SoundColumns start to p → {d v span len : ℕ} (i : ℕ) → v < most_vertices → span < d
    → Room d (i + length (ways start to p v (d - span))) len → 2 * i * d + d ≤ len
room_here {start} {to} {p} s {d} {v} {span} {len} i hv hs r =
    let x = length_ways start to p s v (d - span) hv (omega arith) in
    room_leaf d i len (room_one d i (length (ways start to p v (d - span))) len r (omega arith))

-- ---- the loop of `rows_from`

pub record Going (e start to p : List ℕ) (d v span below i end : ℕ) (P part : List ℕ) (k n : ℕ) : Type 0 where
  pub turn : Turn start v end k
  pub some : span < d
  pub onward : i ≤ n
  pub count : n + length (by_edges start to p (d - span) k end) ≡ i + length (by_edges start to p (d - span) (get_or start v 0) end)
  pub rows : put_rows d n (rows_behind e to p (front_of d i span P) (d - span) below v (by_edges start to p (d - span) k end)) part
      ≡ put_rows d i (rows_behind e to p (front_of d i span P) (d - span) below v (by_edges start to p (d - span) (get_or start v 0) end)) P
  pub kept : take (2 * i * d + span) part ≡ take (2 * i * d + span) P
  pub size : length part ≡ length P

module _ {e start to p : List ℕ} {d v span below i end : ℕ} {P part : List ℕ} {k n : ℕ} (g : Going e start to p d v span below i end P part k n) where
  pub going_skip : k < end → d ≤ span + get_or p k 0 → Going e start to p d v span below i end P part (k + 1) n
  going_skip h l =
      let s = step_no start to p (d - span) k end h (omega arith) in
      record {
        turn = turn_next g.turn h;
        some = g.some;
        onward = g.onward;
        count = ap (λ (z : List (List ℕ)). n + length z) (sym s) ∙ g.count;
        rows = ap (λ (z : List (List ℕ)). put_rows d n (rows_behind e to p (front_of d i span P) (d - span) below v z) part) (sym s) ∙ g.rows;
        kept = g.kept;
        size = g.size;
      }

  -- no row is before that of i
  below-here : 2 * i * d ≤ 2 * n * d
  below-here = let o = g.onward in mul-le-mul_right {m = 2 * i} d (omega arith)

  module _ (so : SoundColumns start to p) (h : k < end) (l : span + get_or p k 0 < d) (fits : 2 * n * d + d ≤ length part) where
    -- the row of n begins with the prefix's loads and the run of the edge at k
    begun : {P' P1 : List ℕ} → Copied part (2 * i * d) span (2 * n * d) P' → (x : ℕ) → P1 ≡ sets P' (2 * n * d + span) (replicate (get_or p k 0) x)
        → P1 ≡ sets part (2 * n * d) (front_of d i span P ++ replicate (get_or p k 0) x)
    begun c x ep =
        let b = below-here in
        front_more part (2 * i * d) span (2 * n * d) (replicate (get_or p k 0) x) (omega arith) c.cells ep
        ∙ ap (λ (w : List ℕ). sets part (2 * n * d) (drop (2 * i * d) w ++ replicate (get_or p k 0) x)) g.kept

    going_by : {P' P1 : List ℕ} → Copied part (2 * i * d) span (2 * n * d) P'
        → P1 ≡ sets P' (2 * n * d + span) (replicate (get_or p k 0) (below + get_or e v 0))
        → (Q : List ℕ) (r : ℕ) → RowsPut e start to p d (get_or to k 0) (span + get_or p k 0) (below + get_or e v 0) n P1 Q r
        → Going e start to p d v span below i end P Q (k + 1) r
    unfolding rows_behind
    going_by {P'} {P1} cp ep Q r f =
        let b = below-here in
        let o = g.onward in
        let c = g.count in
        let s = g.size in
        let fn = f.next in
        let H = ways start to p (get_or to k 0) (d - (span + get_or p k 0)) in
        let some = ways_some so (get_or to k 0) (d - (span + get_or p k 0)) (edge_on so g.turn h).1 (omega arith) in
        let z : d - (span + get_or p k 0) ≡ d - span - get_or p k 0 = omega arith in
        let len : length (by_edges start to p (d - span) k end) ≡ length H + length (by_edges start to p (d - span) (k + 1) end) =
        length_yes start to p (d - span) k end h (omega arith)
        ∙ ap (λ (m : ℕ). length (ways start to p (get_or to k 0) m) + length (by_edges start to p (d - span) (k + 1) end)) (sym z) in
        let st : by_edges start to p (d - span) k end ≡ on_by k H ++ by_edges start to p (d - span) (k + 1) end =
        step_yes start to p (d - span) k end h (omega arith)
        ∙ ap (λ (m : ℕ). on_by k (ways start to p (get_or to k 0) m) ++ by_edges start to p (d - span) (k + 1) end) (sym z) in
        let x = front_of d i span P ++ replicate (get_or p k 0) (below + get_or e v 0) in
        let lx : length x ≡ span + get_or p k 0 =
        length-append (front_of d i span P) (replicate (get_or p k 0) (below + get_or e v 0))
        ∙ ap₂ ◌+◌ (length_front P (2 * i * d) span (omega arith)) (length-replicate (get_or p k 0) (below + get_or e v 0)) in
        let e1 : P1 ≡ sets part (2 * n * d) x = begun cp (below + get_or e v 0) ep in
        let t1 : front_of d n (span + get_or p k 0) P1 ≡ x =
        ap (front_of d n (span + get_or p k 0)) e1 ∙ front-stored part (2 * n * d) (span + get_or p k 0) x lx (omega arith) in
        let R : List (List ℕ) → List (List ℕ) = rows_behind e to p (front_of d i span P) (d - span) below v in
        let rb : R (on_by k H) ≡ rows_behind e to p x (d - (span + get_or p k 0)) (below + get_or e v 0) (get_or to k 0) H =
        rows_by e to p (front_of d i span P) (d - span) below v k H
        ∙ ap (λ (m : ℕ). rows_behind e to p x m (below + get_or e v 0) (get_or to k 0) H) (sym z) in
        let lr : n + length (R (on_by k H)) ≡ r =
        ap (λ (m : ℕ). n + m)
        (length-map (on_by k H) (λ (h : List ℕ). front_of d i span P ++ runs e to p (d - span) below v h) ∙ length-map H (λ (h : List ℕ). k ∷ h))
        ∙ sym fn in
        let eQ : Q ≡ put_rows d n (R (on_by k H)) part =
        f.rows
        ∙ ap₂ (λ (w u : List ℕ). put_rows d n (rows_behind e to p w (d - (span + get_or p k 0)) (below + get_or e v 0) (get_or to k 0) H) u) t1 e1
        ∙ put_over e to p d n (d - (span + get_or p k 0)) (below + get_or e v 0) (get_or to k 0) x part H some
        ∙ ap (λ (w : List (List ℕ)). put_rows d n w part) (sym rb) in
        record {
          turn = turn_next g.turn h;
          some = g.some;
          onward = omega arith;
          count = omega arith;
          rows = ap₂ (λ (m : ℕ) (w : List ℕ). put_rows d m (R (by_edges start to p (d - span) (k + 1) end)) w) (sym lr) eQ
              ∙ sym (put-append (R (on_by k H)) (R (by_edges start to p (d - span) (k + 1) end)) d n part)
              ∙ ap (λ (w : List (List ℕ)). put_rows d n w part)
              (sym (map-append (λ (h : List ℕ). front_of d i span P ++ runs e to p (d - span) below v h) (on_by k H) (by_edges start to p (d - span) (k + 1) end)))
              ∙ ap (λ (w : List (List ℕ)). put_rows d n (R w) part) (sym st)
              ∙ g.rows;
          kept = take_less (2 * i * d + span) (2 * n * d + (span + get_or p k 0)) Q P1 (omega arith) f.kept
              ∙ ap (take (2 * i * d + span)) ep
              ∙ sets-take (replicate (get_or p k 0) (below + get_or e v 0)) P' (2 * i * d + span) (2 * n * d + span) (omega arith)
              ∙ cp.kept ∙ g.kept;
          size = ap length eQ ∙ put-length (R (on_by k H)) d n part ∙ g.size;
        }

    pub going_on : (S : ℕ) → S ≡ below + get_or e v 0 → {P' P1 : List ℕ} → Copied part (2 * i * d) span (2 * n * d) P'
        → P1 ≡ sets P' (2 * n * d + span) (replicate (get_or p k 0) S)
        → (Q : List ℕ) (r : ℕ) → RowsPut e start to p d (get_or to k 0) (span + get_or p k 0) S n P1 Q r
        → Going e start to p d v span below i end P Q (k + 1) r
    going_on S eS {P'} {P1} cp ep Q r f =
        going_by cp (ep ∙ ap (λ (b : ℕ). sets P' (2 * n * d + span) (replicate (get_or p k 0) b)) eS) Q r
        (subst (λ (b : ℕ). RowsPut e start to p d (get_or to k 0) (span + get_or p k 0) b n P1 Q r) eS f)

  step : SoundColumns start to p → ways start to p v (d - span) ≡ or_stop (by_edges start to p (d - span) (get_or start v 0) end)
  step so =
      let h = g.some in
      ways_step start to p so v (d - span) g.turn.vertex (omega arith)
      ∙ ap (λ (m : ℕ). or_stop (by_edges start to p (d - span) (get_or start v 0) m)) (sym g.turn.ends)

  -- there is room for the rows of the edge at k, where there is for those from w, which led here
  pub going_room : SoundColumns start to p → k < end → span + get_or p k 0 < d
      → {w s b b' row : ℕ} {P₀ : List ℕ} → FollowedRow e start to p d w s b row P₀ v span b' P
      → Room d (i + length (ways start to p w (d - s))) (length P₀)
      → Room d (n + length (ways start to p (get_or to k 0) (d - (span + get_or p k 0)))) (length part)
  going_room so h l f r =
      let z : d - (span + get_or p k 0) ≡ d - span - get_or p k 0 = omega arith in
      let a = ap (λ (m : ℕ). length (ways start to p (get_or to k 0) m)) z in
      let y = length_yes start to p (d - span) k end h (omega arith) in
      let x = ap length (step so) ∙ or_stop-length (by_edges start to p (d - span) (get_or start v 0) end) in
      let c = g.count in
      let e = f.same in
      subst (λ (m : ℕ). Room d (n + length (ways start to p (get_or to k 0) (d - (span + get_or p k 0)))) m) (sym (g.size ∙ f.size))
      (room_less d _ (n + length (ways start to p (get_or to k 0) (d - (span + get_or p k 0)))) _ r (omega arith))

  module _ (so : SoundColumns start to p) (hk : end ≤ k) where
    pub done_rows : part ≡ put_rows d i (rows_behind e to p (front_of d i span P) (d - span) below v (by_edges start to p (d - span) (get_or start v 0) end)) P
    unfolding rows_behind put_rows
    done_rows = ap (λ (w : List (List ℕ)). put_rows d n (rows_behind e to p (front_of d i span P) (d - span) below v w) part)
        (sym (by_edges_none start to p (d - span) k end hk)) ∙ g.rows

    pub done_count : n ≡ i + length (by_edges start to p (d - span) (get_or start v 0) end)
    done_count = omega (arith, ap length (by_edges_none start to p (d - span) k end hk), g.count)

    pub put_some : (n ≡ i → ⊥) → RowsPut e start to p d v span below i P part n
    put_some ne =
        let c = done_count in
        let q : ways start to p v (d - span) ≡ by_edges start to p (d - span) (get_or start v 0) end =
        step so ∙ or_stop_some (by_edges start to p (d - span) (get_or start v 0) end) (omega arith) in
        record {
          next = c ∙ ap (λ (w : List (List ℕ)). i + length w) (sym q);
          rows = done_rows ∙ ap (λ (w : List (List ℕ)). put_rows d i (rows_behind e to p (front_of d i span P) (d - span) below v w) P) (sym q);
          kept = g.kept;
        }

    pub put_alone : (S : ℕ) → S ≡ below + get_or e v 0 → n ≡ i → 2 * i * d + d ≤ length P
        → (Q : List ℕ) → Q ≡ sets part (2 * i * d + span) (replicate (d - span) S) → RowsPut e start to p d v span below i P Q (i + 1)
    unfolding rows_behind put_rows
    put_alone S eS ni fits Q eQ =
        let c = done_count in
        let hs = g.some in
        let z : by_edges start to p (d - span) (get_or start v 0) end ≡ [] = length_zero (by_edges start to p (d - span) (get_or start v 0) end) (omega arith) in
        let q : ways start to p v (d - span) ≡ [] ∷ [] = step so ∙ ap or_stop z in
        let same : part ≡ P = done_rows ∙ ap (λ (w : List (List ℕ)). put_rows d i (rows_behind e to p (front_of d i span P) (d - span) below v w) P) z in
        let eP : Q ≡ sets P (2 * i * d + span) (replicate (d - span) (below + get_or e v 0)) =
        eQ ∙ ap₂ (λ (w : List ℕ) (a : ℕ). sets w (2 * i * d + span) (replicate (d - span) a)) same eS in
        record {
          next = ap (λ (w : List (List ℕ)). i + length w) (sym q);
          rows = front_more P (2 * i * d) span (2 * i * d) (replicate (d - span) (below + get_or e v 0)) (omega arith)
              (sets_same P (2 * i * d) span (omega arith)) eP
              ∙ ap (λ (w : List (List ℕ)). put_rows d i (rows_behind e to p (front_of d i span P) (d - span) below v w) P) (sym q);
          kept = ap (take (2 * i * d + span)) eP
              ∙ sets-take (replicate (d - span) (below + get_or e v 0)) P (2 * i * d + span) (2 * i * d + span) (omega arith);
        }

pub going_none : {e start to p : List ℕ} → SoundColumns start to p
    → (d v span below i end k : ℕ) (P : List ℕ) → v < most_vertices → span < d
    → end ≡ get_or start (v + 1) 0 → k ≡ get_or start v 0 → Going e start to p d v span below i end P P k i
going_none {e} {start} {to} {p} so d v span below i end k P hv hs he h = record {
  turn = turn_first so v end k hv he h;
  some = hs;
  onward = omega arith;
  count = ap (λ (m : ℕ). i + length (by_edges start to p (d - span) m end)) h;
  rows = ap (λ (m : ℕ). put_rows d i (rows_behind e to p (front_of d i span P) (d - span) below v (by_edges start to p (d - span) m end)) P) h;
  kept = refl;
  size = refl;
}
