-- The ways on from a vertex, an edge at a time.
use mathlib.Core.Path.{◌≡◌, refl, sym, ap, ap₂, ◌∙◌}
use Prim.Native.Nat.{ℕ, zero, suc, ◌+◌, ◌-◌, ◌≤◌, ◌<◌, zero-le, max}
use native.Mathlib.Numerals.{add-one}
use native.Mathlib.Omega.{arith}
use borrow.Author.Tests.{lt-ltb, le-ltb}
use mathlib.Core.Bool.{Bool}
use mathlib.Core.List.{List, [], ◌∷◌, ◌++◌}
use lib.ListN.{length, get_or, length-append, length-map}
use lib.Dec.{ltb}
use Rattle.meaning.specs.Lists.{pick, gather, count_from}
use Rattle.meaning.specs.Bounds.{most_vertices}
use Rattle.columns.specs.Columns.{SoundColumns}
use Rattle.ways.specs.Ways.{or_stop, on_by, onward, ways_from, ways, all_ways}

module _ (start to p : List ℕ) where
  -- the ways on by the edge k
  unfoldable pub by_edge : ℕ → ℕ → List (List ℕ)
  unfolding ways
  by_edge r k = onward to p (λ (room u : ℕ). ways start to p u room) r k

  -- the ways on by the edges from k up to e
  unfoldable pub by_edges : ℕ → ℕ → ℕ → List (List ℕ)
  unfolding by_edge
  by_edges r k e = gather (by_edge r) (count_from k (e - k))

pub gather_cong : {A : Type 0} (f g : ℕ → List A) (k n : ℕ) → ((j : ℕ) → k ≤ j → j < k + n → f j ≡ g j) → gather f (count_from k n) ≡ gather g (count_from k n)
gather_cong f g k zero h = refl
gather_cong f g k (suc n) h = ap₂ ◌++◌ (h k (omega arith) (omega arith)) (gather_cong f g (suc k) n (λ j a b. h j (omega arith) (omega arith)))

gather_none : {A : Type 0} (f : ℕ → List A) (k n : ℕ) → ((j : ℕ) → f j ≡ []) → gather f (count_from k n) ≡ []
gather_none f k zero h = refl
gather_none f k (suc n) h = ap₂ ◌++◌ (h k) (gather_none f (suc k) n h)

-- by the edge k in two ways, which are the same from where it leads
onward_cong : (to p : List ℕ) (f g : ℕ → ℕ → List (List ℕ)) (room k : ℕ) → f (room - get_or p k 0) (get_or to k 0) ≡ g (room - get_or p k 0) (get_or to k 0)
    → onward to p f room k ≡ onward to p g room k
onward_cong to p f g room k e = ap (λ (hs : List (List ℕ)). pick (ltb (get_or p k 0) room) (on_by k hs) []) e

module _ (start to p : List ℕ) (s : SoundColumns start to p) where
  none_left : (n v : ℕ) → ways_from start to p n 0 v ≡ [] ∷ []
  none_left zero v = refl
  none_left (suc n) v =
      ap or_stop (gather_none (onward to p (ways_from start to p n) 0)
      (get_or start v 0) (get_or start (v + 1) 0 - get_or start v 0)
      (λ j. ap (λ (b : Bool). pick b (on_by j (ways_from start to p n (0 - get_or p j 0) (get_or to j 0))) []) (le-ltb (get_or p j 0) 0 zero-le)))

  pub edge-below : (v j : ℕ) → v < most_vertices → get_or start v 0 ≤ j
      → j < get_or start v 0 + (get_or start (v + 1) 0 - get_or start v 0) → j < get_or start most_vertices 0
  edge-below v j h a b = omega (arith, s.rise v h, s.ends v h)

  fuel : (n m room v : ℕ) → room ≤ n → room ≤ m → v < most_vertices → ways_from start to p n room v ≡ ways_from start to p m room v
  fuel zero m room v a b h =
      let z : room ≡ 0 = omega arith in
      rw z (sym (none_left m v))
  fuel (suc n) zero room v a b h =
      let z : room ≡ 0 = omega arith in
      rw z (none_left (suc n) v)
  fuel (suc n) (suc m) room v a b h =
      ap or_stop (gather_cong _ _ (get_or start v 0) (get_or start (v + 1) 0 - get_or start v 0)
      (λ j x y.
      let l = edge-below v j h x y in
      onward_cong to p (ways_from start to p n) (ways_from start to p m) room j
      (fuel n m (room - get_or p j 0) (get_or to j 0) (omega (arith, s.apart j l)) (omega (arith, s.apart j l)) (s.within j l))))

  pub ways_step : (v r : ℕ) → v < most_vertices → 0 < r → ways start to p v r ≡ or_stop (by_edges start to p r (get_or start v 0) (get_or start (v + 1) 0))
  unfolding ways by_edges by_edge
  ways_step v zero h l = absurd (omega arith)
  ways_step v (suc n) h l =
      ap or_stop (gather_cong _ _ (get_or start v 0) (get_or start (v + 1) 0 - get_or start v 0)
      (λ j x y.
      let l = edge-below v j h x y in
      onward_cong to p (ways_from start to p n) (λ (room u : ℕ). ways_from start to p room room u) (suc n) j
      (fuel n (suc n - get_or p j 0) (suc n - get_or p j 0) (get_or to j 0) (omega (arith, s.apart j l)) (omega arith) (s.within j l))))

module _ (start to p : List ℕ) where
  pub by_edges_none : (r k e : ℕ) → e ≤ k → by_edges start to p r k e ≡ []
  unfolding by_edges
  by_edges_none r k e h = let z : e - k ≡ 0 = omega arith in rw z

  pub by_edges_more : (r k e : ℕ) → k < e → by_edges start to p r k e ≡ by_edge start to p r k ++ by_edges start to p r (k + 1) e
  unfolding by_edges
  by_edges_more r k e h =
      let z : e - k ≡ suc (e - (k + 1)) = omega arith in
      rw (z, add-one)

  pub by_edge_yes : (r k : ℕ) → get_or p k 0 < r → by_edge start to p r k ≡ on_by k (ways start to p (get_or to k 0) (r - get_or p k 0))
  unfolding by_edge
  by_edge_yes r k h = rw (lt-ltb (get_or p k 0) r h)

  pub by_edge_no : (r k : ℕ) → r ≤ get_or p k 0 → by_edge start to p r k ≡ []
  unfolding by_edge
  by_edge_no r k h = rw (le-ltb (get_or p k 0) r h)

pub or_stop-length : (hs : List (List ℕ)) → length (or_stop hs) ≡ max 1 (length hs)
or_stop-length [] = refl
or_stop-length (h ∷ hs) = omega arith

module _ (start to p : List ℕ) where
  pub step_yes : (r k e : ℕ) → k < e → get_or p k 0 < r
      → by_edges start to p r k e ≡ on_by k (ways start to p (get_or to k 0) (r - get_or p k 0)) ++ by_edges start to p r (k + 1) e
  step_yes r k e h l = by_edges_more start to p r k e h ∙ ap (λ (z : List (List ℕ)). z ++ by_edges start to p r (k + 1) e) (by_edge_yes start to p r k l)

  pub step_no : (r k e : ℕ) → k < e → r ≤ get_or p k 0 → by_edges start to p r k e ≡ by_edges start to p r (k + 1) e
  step_no r k e h l = by_edges_more start to p r k e h ∙ ap (λ (z : List (List ℕ)). z ++ by_edges start to p r (k + 1) e) (by_edge_no start to p r k l)

  pub length_yes : (r k e : ℕ) → k < e → get_or p k 0 < r
      → length (by_edges start to p r k e) ≡ length (ways start to p (get_or to k 0) (r - get_or p k 0)) + length (by_edges start to p r (k + 1) e)
  length_yes r k e h l =
      ap length (step_yes r k e h l)
      ∙ length-append (on_by k (ways start to p (get_or to k 0) (r - get_or p k 0))) (by_edges start to p r (k + 1) e)
      ∙ ap (λ (z : ℕ). z + length (by_edges start to p r (k + 1) e)) (length-map (ways start to p (get_or to k 0) (r - get_or p k 0)) (λ (h : List ℕ). k ∷ h))

pub length_ways : (start to p : List ℕ) → SoundColumns start to p → (v r : ℕ) → v < most_vertices → 0 < r
    → length (ways start to p v r) ≡ max 1 (length (by_edges start to p r (get_or start v 0) (get_or start (v + 1) 0)))
length_ways start to p s v r h l = ap length (ways_step start to p s v r h l) ∙ or_stop-length (by_edges start to p r (get_or start v 0) (get_or start (v + 1) 0))

pub or_stop_some : (hs : List (List ℕ)) → 0 < length hs → or_stop hs ≡ hs
or_stop_some [] h = absurd (omega arith)
or_stop_some (h ∷ hs) l = refl

pub length_zero : {A : Type 0} (hs : List A) → length hs ≡ 0 → hs ≡ []
length_zero [] h = refl
length_zero (h ∷ hs) l = absurd (omega arith)

-- ---- from every vertex

module _ (start to p : List ℕ) where
  pub all_ways_none : (d v n : ℕ) → n ≤ v → all_ways start to p d v n ≡ []
  unfolding all_ways
  all_ways_none d v n h = let z : n - v ≡ 0 = omega arith in rw z

  pub all_ways_more : (d v n : ℕ) → v < n → all_ways start to p d v n ≡ on_by v (ways start to p v d) ++ all_ways start to p d (v + 1) n
  unfolding all_ways
  all_ways_more d v n h =
      let z : n - v ≡ suc (n - (v + 1)) = omega arith in
      rw (z, add-one)

  pub all_ways_length : (d v n : ℕ) → v < n → length (all_ways start to p d v n) ≡ length (ways start to p v d) + length (all_ways start to p d (v + 1) n)
  all_ways_length d v n h =
      ap length (all_ways_more d v n h) ∙ length-append (on_by v (ways start to p v d)) (all_ways start to p d (v + 1) n)
      ∙ ap (λ (m : ℕ). m + length (all_ways start to p d (v + 1) n)) (length-map (ways start to p v d) (λ (x : List ℕ). v ∷ x))
