-- The way at a place, of those on from a vertex.
use mathlib.Core.Path.{◌≡◌, refl, sym, ap, ap₂, ◌∙◌}
use Prim.Native.Nat.{ℕ, zero, suc, ◌+◌, ◌-◌, ◌≤◌, ◌<◌}
use native.Mathlib.Numerals.{add-one}
use native.Mathlib.Omega.{arith}
use native.Mathlib.Decide.{dec_lt}
use mathlib.Core.List.{List, [], ◌∷◌, ◌++◌}
use lib.ListN.{length, get_or, set, length-map, get_or-append}
use lib.Seq.{sets, get_or-append-add}
use Rattle.meaning.specs.Bounds.{most_vertices}
use Rattle.lister.specs.declared.PathNumber.{PathNumber}
use Rattle.std.specs.declared.ops.ControlFlow.TheVariants.{Break, Continue}
use Rattle.columns.specs.Columns.{SoundColumns}
use Rattle.ways.specs.Ways.{ways, on_by, or_stop, vertices_by}
use Rattle.ways.proofs.Turns.{Turn, turn_first, turn_next}
use Rattle.lister.specs.Place.{Found, Sought}
use Rattle.meaning.proofs.Stores.{set-sets}
use Rattle.ways.proofs.Ways.{by_edges, step_no, step_yes, length_yes, by_edges_none, ways_step, or_stop_some, length_zero}

pub get_or-on_by : (k : ℕ) (hs : List (List ℕ)) (i : ℕ) → i < length hs → get_or (on_by k hs) i [] ≡ k ∷ get_or hs i []
get_or-on_by k [] i h = absurd (omega arith)
get_or-on_by k (x ∷ hs) zero h = refl
get_or-on_by k (x ∷ hs) (suc i) h = get_or-on_by k hs i (omega arith)

-- ---- the loop of `path_from`

pub record Seeking (start to p : List ℕ) (v r i end : ℕ) (A cs : List ℕ) (k left : ℕ) : Type 0 where
  pub turn : Turn start v end k
  pub some : 0 < r
  pub fewer : left ≤ i
  pub count : left + length (by_edges start to p r (get_or start v 0) end) ≡ i + length (by_edges start to p r k end)
  pub place : get_or (by_edges start to p r k end) left [] ≡ get_or (by_edges start to p r (get_or start v 0) end) i []
  pub cells : cs ≡ A

pub seeking_none : {start to p : List ℕ} → SoundColumns start to p → (v r i end k : ℕ) (A : List ℕ) → v < most_vertices → 0 < r
    → end ≡ get_or start (v + 1) 0 → k ≡ get_or start v 0 → Seeking start to p v r i end A A k i
seeking_none {start} {to} {p} so v r i end k A hv hr he h = record {
  turn = turn_first so v end k hv he h;
  some = hr;
  fewer = omega arith;
  count = ap (λ (m : ℕ). i + length (by_edges start to p r m end)) (sym h);
  place = ap (λ (m : ℕ). get_or (by_edges start to p r m end) i []) h;
  cells = refl;
}

pub not_both : (s : Sought) {n : ℕ} {x : PathNumber} → s ≡ Break n → s ≡ Continue x → ⊥
not_both s a b = let z : ◌≡◌ {A = ℕ} 0 1 = cc in omega arith

behind : {n m : ℕ} → n ≡ m → ◌≡◌ {A = Sought} (Continue (record { 0 = n })) (Continue (record { 0 = m }))
behind e = ap (λ (n : ℕ). Continue (record { 0 = n })) e

-- the length or the place
abbrev number_in : Sought → ℕ
number_in (Break n) = n
number_in (Continue x) = x.0

pub same_length : (s : Sought) {n m : ℕ} → s ≡ Break n → s ≡ Break m → n ≡ m
same_length s a b = ap number_in (sym a ∙ b)

pub same_place : (s : Sought) {x y : PathNumber} → s ≡ Continue x → s ≡ Continue y → x.0 ≡ y.0
same_place s a b = ap number_in (sym a ∙ b)

module _ {start to p : List ℕ} {v r i end : ℕ} {A cs : List ℕ} {k left : ℕ} (g : Seeking start to p v r i end A cs k left) where
  step : SoundColumns start to p → ways start to p v r ≡ or_stop (by_edges start to p r (get_or start v 0) end)
  step so = ways_step start to p so v r g.turn.vertex g.some ∙ ap (λ (m : ℕ). or_stop (by_edges start to p r (get_or start v 0) m)) (sym g.turn.ends)

  pub seeking_skip : k < end → r ≤ get_or p k 0 → Seeking start to p v r i end A cs (k + 1) left
  seeking_skip h l =
      let s = step_no start to p r k end h l in
      record {
        turn = turn_next g.turn h;
        some = g.some;
        fewer = g.fewer;
        count = g.count ∙ ap (λ (z : List (List ℕ)). i + length z) s;
        place = ap (λ (z : List (List ℕ)). get_or z left []) (sym s) ∙ g.place;
        cells = g.cells;
      }

  module _ (h : k < end) (l : get_or p k 0 < r) where
    abbrev on : List (List ℕ)
    on = ways start to p (get_or to k 0) (r - get_or p k 0)

    split : by_edges start to p r k end ≡ on_by k on ++ by_edges start to p r (k + 1) end
    split = step_yes start to p r k end h l

    split_length : length (by_edges start to p r k end) ≡ length on + length (by_edges start to p r (k + 1) end)
    split_length = length_yes start to p r k end h l

    on_length : length (on_by k on) ≡ length on
    on_length = length-map on (λ (x : List ℕ). k ∷ x)

    pub seeking_on : (depth : ℕ) (B : List ℕ) (s : Sought) (x : PathNumber) → Found start to p (get_or to k 0) (r - get_or p k 0) depth left cs B s
        → s ≡ Continue x → Seeking start to p v r i end A B (k + 1) x.0
    seeking_on depth B s x f e = elim (dec_lt left (length on)) [
      | yes y ↦ absurd (not_both s (f.hit y).end e)
      | no y ↦
          let m = f.miss (omega arith) in
          let ml = same_place s e m.left in
          let c = g.count in
          let w = g.fewer in
          let sl = split_length in
          let z : left ≡ length (on_by k on) + x.0 = omega (arith, on_length) in
          record {
            turn = turn_next g.turn h;
            some = g.some;
            fewer = omega arith;
            count = omega arith;
            place = sym (ap₂ (λ (b : List (List ℕ)) (n : ℕ). get_or b n []) split z ∙ get_or-append-add (on_by k on) (by_edges start to p r (k + 1) end) x.0 [])
                ∙ g.place;
            cells = m.cells ∙ g.cells;
          }
    ]

    pub seeking_found : (depth : ℕ) (B : List ℕ) (s : Sought) (n : ℕ) → Found start to p (get_or to k 0) (r - get_or p k 0) (depth + 1) left cs B s
        → s ≡ Break n → SoundColumns start to p → Found start to p v r depth i A (set B depth v) (Break n)
    seeking_found depth B s n f e so = elim (dec_lt left (length on)) [
      | no y ↦ absurd (not_both s e (f.miss (omega arith)).left)
      | yes y ↦
          let m = f.hit y in
          let c = g.count in
          let sl = split_length in
          let H = get_or on left [] in
          let more : 0 < length (by_edges start to p r (get_or start v 0) end) = omega arith in
          let all : ways start to p v r ≡ by_edges start to p r (get_or start v 0) end = step so ∙ or_stop_some (by_edges start to p r (get_or start v 0) end) more in
          let el : length (ways start to p v r) ≡ length (by_edges start to p r (get_or start v 0) end) = ap length all in
          let w : get_or (ways start to p v r) i [] ≡ k ∷ H =
          ap (λ (b : List (List ℕ)). get_or b i []) all ∙ sym g.place ∙ ap (λ (b : List (List ℕ)). get_or b left []) split
          ∙ get_or-append (on_by k on) (by_edges start to p r (k + 1) end) [] left (omega (arith, on_length))
          ∙ get_or-on_by k on left y in
          let z : depth + 1 + 1 + length H ≡ depth + 1 + suc (length H) = omega arith in
          record {
            hit = λ x. record {
              end = ap Break (same_length s e m.end ∙ z ∙ ap (λ (b : List ℕ). depth + 1 + length b) (sym w));
              cells = ap (λ (b : List ℕ). set b depth v)
                  (m.cells ∙ ap₂ (λ (b : List ℕ) (j : ℕ). sets b j (vertices_by to (get_or to k 0) H)) g.cells (add-one depth))
                  ∙ set-sets (vertices_by to (get_or to k 0) H) A (suc depth) depth v (omega arith)
                  ∙ ap (λ (b : List ℕ). sets A depth (vertices_by to v b)) (sym w);
            };
            miss = λ x. absurd (omega arith);
          }
    ]

  module _ (so : SoundColumns start to p) (hk : end ≤ k) where
    total : left + length (by_edges start to p r (get_or start v 0) end) ≡ i
    total = omega (arith, g.count, ap length (by_edges_none start to p r k end hk))

    pub past_some : (depth : ℕ) → (left ≡ i → ⊥) → Found start to p v r depth i A cs (Continue (record { 0 = left }))
    past_some depth ne =
        let t = total in
        let e : length (ways start to p v r) ≡ length (by_edges start to p r (get_or start v 0) end) =
        ap length (step so ∙ or_stop_some (by_edges start to p r (get_or start v 0) end) (omega arith)) in
        record {
          hit = λ x. absurd (omega arith);
          miss = λ x. record { left = behind (omega arith); cells = g.cells };
        }

    alone : left ≡ i → ways start to p v r ≡ [] ∷ []
    alone h = let t = total in step so ∙ ap or_stop (length_zero (by_edges start to p r (get_or start v 0) end) (omega arith))

    pub here : (depth : ℕ) → left ≡ i → i ≡ 0 → Found start to p v r depth i A (set cs depth v) (Break (depth + 1))
    here depth h z =
        let e = alone h in
        let el = ap length e in
        let w : get_or (ways start to p v r) i [] ≡ [] = ap₂ (λ (b : List (List ℕ)) (j : ℕ). get_or b j []) e z in
        let y : depth + 1 ≡ depth + 1 + 0 = omega arith in
        record {
          hit = λ x. record {
            end = ap Break (y ∙ ap (λ (b : List ℕ). depth + 1 + length b) (sym w));
            cells = ap (λ (b : List ℕ). set b depth v) g.cells ∙ ap (λ (b : List ℕ). sets A depth (vertices_by to v b)) (sym w);
          };
          miss = λ x. absurd (omega arith);
        }

    pub past_one : (depth : ℕ) → left ≡ i → 0 < i → Found start to p v r depth i A cs (Continue (record { 0 = i - 1 }))
    past_one depth h z =
        let el = ap length (alone h) in
        record {
          hit = λ x. absurd (omega arith);
          miss = λ x. record { left = behind (omega arith); cells = g.cells };
        }
