-- The loops of `follow` and `count_from`.
use mathlib.Core.Path.{◌≡◌, refl, sym, ap, ◌∙◌}
use Prim.Native.Nat.{ℕ, ◌+◌, ◌-◌, ◌≤◌, ◌<◌, min, max}
use native.Mathlib.Omega.{arith}
use mathlib.Core.List.{List}
use lib.ListN.{length, get_or}
use Rattle.meaning.specs.Bounds.{most_vertices}
use Rattle.columns.specs.Columns.{SoundColumns}
use Rattle.columns.specs.declared.Out.{Out}
use Rattle.columns.specs.Only.{Alone}
use Rattle.ways.specs.Ways.{ways}
use Rattle.ways.proofs.Ways.{by_edges, step_no, length_yes, by_edges_none, length_ways}
use Rattle.ways.proofs.Turns.{Turn, turn_first, turn_next, edge_on, lone-length}
use Rattle.lister.specs.Follow.{Followed}

-- ---- `follow`

pub followed_none : (start to p : List ℕ) (v r : ℕ) → v < most_vertices → 0 < r → Followed start to p v r v r
followed_none start to p v r h l = record { vertex = h; some = l; fewer = omega arith; same = refl }

pub followed_on : {start to p : List ℕ} → SoundColumns start to p → {v r u s : ℕ} {x : Out} → Followed start to p v r u s
    → Alone start to p u s x → Followed start to p v r x.to.number.0 (s - x.p.0)
followed_on {start} {to} {p} so {u = u} {s} f a =
    let k = get_or start u 0 in
    let g = turn_first so u (get_or start (u + 1) 0) k f.vertex refl refl in
    let w = edge_on so g (omega (arith, a.one)) in
    let room : get_or p k 0 < s = omega (arith, a.takes, a.less) in
    let fewer = f.fewer in
    rw (a.leads, a.takes) (record {
      vertex = w.1;
      some = omega arith;
      fewer = omega arith;
      same = lone-length so u s (get_or start (u + 1) 0) k g f.some refl a.one room ∙ f.same;
    })

-- ---- `count_from`

-- what is counted and what is still to come is all
pub record Counting (start to p : List ℕ) (v r cap end k sum : ℕ) : Type 0 where
  pub turn : Turn start v end k
  pub some : 0 < r
  pub below : sum < cap
  pub count : sum + length (by_edges start to p r k end) ≡ length (by_edges start to p r (get_or start v 0) end)

pub counting_none : {start to p : List ℕ} → SoundColumns start to p → (v r cap end k : ℕ) → v < most_vertices → 0 < r → 0 < cap
    → end ≡ get_or start (v + 1) 0 → k ≡ get_or start v 0 → Counting start to p v r cap end k 0
counting_none {start} {to} {p} so v r cap end k hv hr hc he hk = record {
  turn = turn_first so v end k hv he hk;
  some = hr;
  below = hc;
  count = omega (arith, ap (λ (n : ℕ). length (by_edges start to p r n end)) hk);
}

module _ {start to p : List ℕ} {v r cap end k sum : ℕ} (g : Counting start to p v r cap end k sum) where
  pub counting_skip : k < end → r ≤ get_or p k 0 → Counting start to p v r cap end (k + 1) sum
  counting_skip h l = record {
    turn = turn_next g.turn h;
    some = g.some;
    below = g.below;
    count = ap (λ (z : List (List ℕ)). sum + length z) (sym (step_no start to p r k end h l)) ∙ g.count;
  }

  all_ways_lem : SoundColumns start to p → length (ways start to p v r) ≡ max 1 (length (by_edges start to p r (get_or start v 0) end))
  all_ways_lem so = length_ways start to p so v r g.turn.vertex g.some
      ∙ ap (λ (n : ℕ). max 1 (length (by_edges start to p r (get_or start v 0) n))) (sym g.turn.ends)

  module _ (x : ℕ) (h : k < end) (l : get_or p k 0 < r) (ex : x ≡ min (cap - sum) (length (ways start to p (get_or to k 0) (r - get_or p k 0)))) where
    pub counting_on : (sum + x ≡ cap → ⊥) → Counting start to p v r cap end (k + 1) (sum + x)
    counting_on ne =
        let b = g.below in
        let c = g.count in
        let y = length_yes start to p r k end h l in
        record { turn = turn_next g.turn h; some = g.some; below = omega arith; count = omega arith }

    pub counting_full : SoundColumns start to p → {w s : ℕ} → Followed start to p w s v r → sum + x ≡ cap → cap ≡ min cap (length (ways start to p w s))
    counting_full so f full =
        let e = f.same in
        let b = g.below in
        let c = g.count in
        let y = length_yes start to p r k end h l in
        omega (arith, all_ways_lem so)

  module _ (so : SoundColumns start to p) (hk : end ≤ k) {w s : ℕ} (f : Followed start to p w s v r) where
    all : length (ways start to p w s) ≡ max 1 sum
    all = let e = f.same in let c = g.count in omega (arith, ap length (by_edges_none start to p r k end hk), all_ways_lem so)

    pub counted : max sum 1 ≡ min cap (length (ways start to p w s))
    counted = let b = g.below in omega (arith, all)
