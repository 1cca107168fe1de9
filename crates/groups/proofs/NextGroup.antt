-- Back from the last task: ranges that end their tasks' paths are whole again, up to the first that does not.
use mathlib.Core.Path.{◌≡◌, refl, sym, ap, ap₂, subst, ◌∙◌}
use Prim.Native.Nat.{ℕ, zero, suc, ◌-◌, ◌≤◌, ◌<◌}
use native.Mathlib.Omega.{arith}
use native.Mathlib.Nat.{eq-or-lt_of_le}
use mathlib.Core.Logic.{⊎_elim}
use mathlib.Core.Option.{none, some}
use mathlib.Core.List.{List, [], ◌∷◌, ◌++◌, append-nil, append_assoc}
use lib.ListN.{length, take, drop, get_or, set, drop_of_length-le, get_or-append, length-map}
use lib.Seq.{get_or-take, length-take-le, take-suc, set_at, take_all, drop-cons}
use borrow.Author.Tests.{lt-ltb, le-ltb}
use Rattle.meaning.specs.Bounds.{most_paths}
use mathlib.Core.Bool.{true, false}
use Rattle.rows.specs.Ranges.{Range, range, end_of, rest_length}
use Rattle.groups.specs.Groups.{top_group, next_group}
use Rattle.groups.specs.declared.Stretch.{Stretch}
use Rattle.groups.specs.declared.Part.{Part}
use Rattle.groups.specs.Lent.{counts, range_in, group_in, part_at, Startable, Standing, Stands, ToNext}
use Rattle.rows.proofs.Halving.{rest_next}
use Rattle.rows.proofs.Order.{node_in, node_pos}
use Rattle.groups.proofs.LaidOut.{row_asked}
use Rattle.groups.proofs.Arrays.{no_range, no_part, no_stretch, count_at, group_length, group_get, stands_put, own_length, own_stands, standing_at}

-- ---- over lists

next-none : (ns : List ℕ) (xs : List Range) → ((k : ℕ) → k < length xs → get_or ns k 0 ≤ end_of (get_or xs k no_range)) → next_group ns xs ≡ none
next-none [] xs a = refl
next-none (n ∷ ns) [] a = refl
next-none (n ∷ ns) (x ∷ xs) a = rw (next-none ns xs (λ k l. a (suc k) (omega arith)), le-ltb (end_of x) n (a 0 (omega arith)))

-- what comes behind a range, by the path count
abbrev behind : ℕ → Range → Range
behind n x = range (end_of x) (rest_length 0 n (end_of x))

next-at : (ns : List ℕ) (xs : List Range) (j : ℕ) → length ns ≡ length xs → j < length xs
    → ((k : ℕ) → j < k → k < length xs → get_or ns k 0 ≤ end_of (get_or xs k no_range)) → end_of (get_or xs j no_range) < get_or ns j 0
    → next_group ns xs ≡ some (take j xs ++ (behind (get_or ns j 0) (get_or xs j no_range) ∷ top_group (drop (suc j) ns)))
next-at [] xs j e h a b = absurd (omega arith)
next-at (n ∷ ns) [] j e h a b = absurd (omega arith)
next-at (n ∷ ns) (x ∷ xs) zero e h a b = rw (next-none ns xs (λ k l. a (suc k) (omega arith) (omega arith)), lt-ltb (end_of x) n b)
next-at (n ∷ ns) (x ∷ xs) (suc j) e h a b = rw (next-at ns xs j (omega arith) (omega arith) (λ k p q. a (suc k) (omega arith) (omega arith)) b)

-- from j on all are whole, before j as they were
abbrev whole_from : List ℕ → List Range → ℕ → List Range
whole_from ns xs j = take j xs ++ top_group (drop j ns)

module _ (ns : List ℕ) (xs : List Range) (i : ℕ) (l : i < length xs) where
  whole_get : get_or (whole_from ns xs (suc i)) i no_range ≡ get_or xs i no_range
  whole_get =
      get_or-append (take (suc i) xs) (top_group (drop (suc i) ns)) no_range i (rw (length-take-le (suc i) xs (omega arith)) (omega arith))
      ∙ get_or-take (suc i) xs i no_range (omega arith)

  whole_set : (y : Range) → set (whole_from ns xs (suc i)) i y ≡ take i xs ++ (y ∷ top_group (drop (suc i) ns))
  whole_set y =
      ap (λ (z : List Range). set (z ++ top_group (drop (suc i) ns)) i y) (take-suc xs i no_range l)
      ∙ ap (λ (z : List Range). set z i y) (append_assoc (take i xs) (get_or xs i no_range ∷ []) (top_group (drop (suc i) ns)))
      ∙ set_at (take i xs) (get_or xs i no_range) (top_group (drop (suc i) ns)) y i (length-take-le i xs (omega arith))

  whole_back : i < length ns → set (whole_from ns xs (suc i)) i (range 0 (get_or ns i 0)) ≡ whole_from ns xs i
  whole_back k = whole_set (range 0 (get_or ns i 0)) ∙ ap (λ (z : List ℕ). take i xs ++ top_group z) (sym (drop-cons ns i 0 k))

-- ---- over the parts

-- back to task j: all from there on ended their tasks' paths, and are whole again
pub record Back (d : ℕ) (ss : List Stretch) (a b : List Part) (j : ℕ) : Type 0 where
  pub low : j ≤ length ss
  pub stands : Stands d ss b (whole_from (counts ss) (group_in a) j)
  pub ended : (k : ℕ) → j ≤ k → k < length ss → get_or (counts ss) k 0 ≤ end_of (range_in (get_or a k no_part))

module _ {d : ℕ} {ss : List Stretch} {a : List Part} (w : Standing d ss a) where
  abbrev xs : List Range
  xs = group_in a

  abbrev ns : List ℕ
  ns = counts ss

  long_ns : length ns ≡ length ss
  long_ns = length-map ss (λ (s : Stretch). s.count)

  long_xs : length xs ≡ length ss
  long_xs = group_length a ∙ own_length w

  ended_at : (k : ℕ) → get_or ns k 0 ≤ end_of (range_in (get_or a k no_part)) → get_or ns k 0 ≤ end_of (get_or xs k no_range)
  ended_at k e = omega (arith, ap end_of (group_get a k))

  pub back_start : Back d ss a a (length a)
  back_start =
      let n : length a ≡ length ss = own_length w in
      let front : take (length a) xs ≡ xs = take_all (length a) xs (omega (arith, long_xs)) in
      let none-behind : drop (length a) ns ≡ [] = drop_of_length-le ns {i = length a} (omega (arith, long_ns)) in
      let all : xs ≡ whole_from ns xs (length a) = sym (ap₂ (λ (p : List Range) (q : List ℕ). p ++ top_group q) front none-behind ∙ append-nil xs) in
      record { low = omega arith; stands = subst (Stands d ss a) all (own_stands w); ended = λ k p q. absurd (omega arith) }

  module _ {b : List Part} where
    module _ {j : ℕ} (some_left : 0 < j) (back : Back d ss a b j) where
      -- the task that is looked at, and its stretch
      abbrev i : ℕ
      i = j - 1

      abbrev at : Stretch
      at = get_or ss i no_stretch

      k : Back d ss a b (suc i)
      k = let e : suc (j - 1) ≡ j = omega arith in rw e back

      -- the place behind the range at i
      abbrev s : ℕ
      s = end_of (range_in (get_or b i no_part))

      in_ss : i < length ss
      in_ss = omega (arith, k.low)

      in_xs : i < length xs
      in_xs = omega (arith, in_ss, long_xs)

      end_is : s ≡ end_of (get_or xs i no_range)
      end_is = ap end_of (sym (group_get b i) ∙ ap (λ (g : List Range). get_or g i no_range) k.stands.group ∙ whole_get ns xs i in_xs)

      pub back_end : (s ≡ end_of (range_in (get_or a i no_part))) × (0 < s) × (s ≤ at.count) × (at.count ≤ most_paths)
      back_end =
          let x = standing_at w i in_ss in
          let n = count_at ss i in
          let e : s ≡ end_of (range_in (get_or a i no_part)) = end_is ∙ ap end_of (group_get a i) in
          (e, omega (arith, x.full), omega (arith, x.within), omega (arith, w.stretches.paths i in_ss))

      pub back_asks : Startable d at.root (range 0 at.count)
      back_asks = row_asked ss w.stretches i in_ss (range 0 at.count) (omega arith) (omega (arith, back_end))

      pub back_asks_rest : s < at.count → (m : ℕ) → m ≡ rest_length 0 at.count s → Startable d at.root (range s m)
      back_asks_rest l m e =
          let x = (rest_next at.count s back_end.1 l).node in
          row_asked ss w.stretches i in_ss (range s m) (omega (arith, node_in x)) (omega (arith, node_pos x (omega arith)))

      ended_behind : (m : ℕ) → i < m → m < length xs → get_or ns m 0 ≤ end_of (get_or xs m no_range)
      ended_behind m p q = ended_at m (k.ended m (omega arith) (omega (arith, long_xs)))

      -- the parts once the range is written
      module _ {p : Part} where
        pub back_found : (m : ℕ) → s < at.count → m ≡ rest_length 0 at.count s → p ≡ part_at d at.root (range s m) → ToNext d ss a true (set b i p)
        back_found m l e f =
            let n = count_at ss i in
            let x : range s m ≡ behind (get_or ns i 0) (get_or xs i no_range) =
            ap₂ range end_is (e ∙ ap₂ (rest_length 0) (sym n) end_is) in
            let g : next_group ns xs ≡ some (set (whole_from ns xs (suc i)) i (range s m)) =
            next-at ns xs i (long_ns ∙ sym long_xs) in_xs ended_behind (omega (arith, end_is))
            ∙ ap some (sym (ap (set (whole_from ns xs (suc i)) i) x ∙ whole_set ns xs i in_xs (behind (get_or ns i 0) (get_or xs i no_range)))) in
            rw g record { says = refl; stands = stands_put k.stands i (range s m) f }

        pub back_more : at.count ≤ s → p ≡ part_at d at.root (range 0 at.count) → Back d ss a (set b i p) i
        back_more l f =
            let n = count_at ss i in
            let g : set (whole_from ns xs (suc i)) i (range 0 at.count) ≡ whole_from ns xs i =
            ap (λ (z : ℕ). set (whole_from ns xs (suc i)) i (range 0 z)) (sym n) ∙ whole_back ns xs i in_xs (omega (arith, in_ss, long_ns)) in
            record {
              low = omega (arith, in_ss);
              stands = subst (Stands d ss (set b i p)) g (stands_put k.stands i (range 0 at.count) f);
              ended = λ m y z. ⊎_elim (λ (q : i ≡ m). rw (← q) (omega (arith, back_end, n))) (λ q. k.ended m (omega arith) z) (eq-or-lt_of_le y);
            }

    pub back_none : {j : ℕ} → j ≡ 0 → Back d ss a b j → ToNext d ss a false b
    back_none e k =
        let g : next_group ns xs ≡ none = next-none ns xs (λ j q. ended_at j (k.ended j (omega arith) (omega (arith, long_xs)))) in
        rw g record { says = refl; stands = subst (λ (j : ℕ). Stands d ss b (whole_from ns xs j)) e k.stands }
