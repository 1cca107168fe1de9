-- Where each vertex's edges start, found vertex by vertex.
use mathlib.Core.Path.{◌≡◌, refl, sym, ap, subst, ◌∙◌}
use Prim.Native.Nat.{ℕ, ◌+◌, ◌≤◌, ◌<◌}
use native.Mathlib.Omega.{arith}
use native.Mathlib.Decide.{dec_lt, ℕ_discrete}
use mathlib.Core.List.{List}
use lib.ListN.{length, get_or, set, replicate, length-replicate, length-set}
use lib.Seq.{get_or-set_same, get_or-set_other}
use Rattle.meaning.specs.Bounds.{most_vertices}
use Rattle.columns.specs.Columns.{EdgesEnd, Sorted, Cut}

-- ---- the loop of `edges_end`

abbrev pub Own : List ℕ → ℕ → ℕ → ℕ → Type 0
Own from v k i = (j : ℕ) → k ≤ j → j < i → get_or from j 0 ≡ v

pub own_none : (from : List ℕ) (v k : ℕ) → Own from v k k
own_none from v k j a b = absurd (omega arith)

pub own_more : (from : List ℕ) (v k i : ℕ) → Own from v k i → get_or from i 0 ≡ v → Own from v k (i + 1)
own_more from v k i h e j a b = elim (ℕ_discrete j i) [ yes q ↦ ap (λ (n : ℕ). get_or from n 0) q ∙ e | no q ↦ h j a (omega arith) ]

pub own_to : (from : List ℕ) (v k : ℕ) {i m : ℕ} → Own from v k i → m ≤ i → Own from v k m
own_to from v k h l j a b = h j a (omega arith)

-- ---- the loop of `edge_starts`

pub record Cutting (from : List ℕ) (m : ℕ) (s : List ℕ) (k v : ℕ) : Type 0 where
  pub high : v ≤ most_vertices
  pub last : get_or s v 0 ≡ k
  pub cuts : (u : ℕ) → u ≤ v → Cut from m (get_or s u 0) u
  pub cells : length s ≡ (most_vertices + 1)

pub cutting_none : (from : List ℕ) (m : ℕ) → Cutting from m (replicate (most_vertices + 1) 0) 0 0
cutting_none from m = record {
  high = omega arith;
  last = refl;
  cuts = λ u h.
      let z : 0 ≡ u = omega arith in
      subst (λ (w : ℕ). Cut from m (get_or (replicate {A = ℕ} (most_vertices + 1) 0) w 0) w) z
      (record { high = omega arith; below = λ j l. absurd (omega arith); above = λ j a b. omega arith });
  cells = length-replicate {A = ℕ} (most_vertices + 1) 0;
}

cut_next : (from : List ℕ) (m k v r : ℕ) → Sorted from m → Cut from m k v → EdgesEnd from k m v r → Cut from m r (v + 1)
cut_next from m k v r so c p =
    let lo = p.low in
    record {
      high = p.high;
      below = λ j l. elim (dec_lt j k) [ yes a ↦ omega (arith, c.below j a) | no a ↦ omega (arith, p.own j (omega arith) l) ];
      above = λ j a b.
          let x = c.above r lo (omega arith) in
          let y = so r j a b in
          elim (ℕ_discrete (get_or from r 0) v) [ yes q ↦ absurd (p.next (omega arith) q) | no q ↦ omega arith ];
    }

pub cutting_more : (from : List ℕ) (m : ℕ) (s : List ℕ) (k v r : ℕ) → Sorted from m → Cutting from m s k v
    → v < most_vertices → EdgesEnd from k m v r → Cutting from m (set s (v + 1) r) r (v + 1)
cutting_more from m s k v r so c h p =
    let l = c.cells in
    let e : get_or (set s (v + 1) r) (v + 1) 0 ≡ r = get_or-set_same s (v + 1) r 0 (omega arith) in
    record {
      high = omega arith;
      last = e;
      cuts = λ u hu. elim (ℕ_discrete u (v + 1)) [
        | yes q ↦ subst (λ (w : ℕ). Cut from m (get_or (set s (v + 1) r) w 0) w) (sym q) (subst (λ (w : ℕ). Cut from m w (v + 1)) (sym e)
            (cut_next from m k v r so (subst (λ (w : ℕ). Cut from m w v) c.last (c.cuts v (omega arith))) p))
        | no q ↦ subst (λ (w : ℕ). Cut from m w u) (sym (get_or-set_other s (v + 1) u r 0 q)) (c.cuts u (omega arith))
      ];
      cells = length-set s (v + 1) r ∙ l;
    }
