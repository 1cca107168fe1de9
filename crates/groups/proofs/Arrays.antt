-- The parts that hold a group: reading a range, and writing one.
use mathlib.Core.Path.{◌≡◌, refl, sym, ap, ap₂, subst, ◌∙◌}
use Prim.Native.Nat.{ℕ, zero, suc, ◌+◌, ◌≤◌, ◌<◌}
use native.Mathlib.Omega.{arith}
use mathlib.Core.List.{List, [], ◌∷◌}
use lib.ListN.{length, get_or, set, length-map, get_or-map}
use Rattle.std.proofs.lemmas.List.{map-set}
use Rattle.rows.specs.Ranges.{Range, range, row_start}
use Rattle.groups.specs.declared.Stretch.{Stretch}
use Rattle.groups.specs.declared.Part.{Part}
use Rattle.groups.specs.Groups.{InWalk, row_starts}
use Rattle.rows.specs.Order.{Node}
use Rattle.groups.specs.Lent.{roots, counts, range_in, group_in, starts_in, part_at, Standing, Stands}
use Rattle.rows.proofs.Order.{node_in, node_pos}
use Rattle.groups.proofs.Pending.{walk_length}

-- what is read where there is none
abbrev pub no_range : Range
no_range = range 0 0

abbrev pub no_part : Part
no_part = record { base = 0; first = 0; len = 0 }

abbrev pub no_stretch : Stretch
no_stretch = record { root = 0; count = 0 }

-- ---- where rows begin

starts_set : (d : ℕ) (rs : List ℕ) (xs : List Range) (j : ℕ) (y : Range) → row_starts d rs (set xs j y) ≡ set (row_starts d rs xs) j (row_start d (get_or rs j 0) y)
starts_set d [] xs j y = refl
starts_set d (r ∷ rs) [] j y = refl
starts_set d (r ∷ rs) (x ∷ xs) zero y = refl
starts_set d (r ∷ rs) (x ∷ xs) (suc j) y = ap (λ (l : List ℕ). row_start d r x ∷ l) (starts_set d rs xs j y)

pub starts_get : (d : ℕ) (rs : List ℕ) (xs : List Range) (j : ℕ) → j < length rs → j < length xs
    → get_or (row_starts d rs xs) j 0 ≡ row_start d (get_or rs j 0) (get_or xs j no_range)
starts_get d [] xs j p q = absurd (omega arith)
starts_get d (r ∷ rs) [] j p q = absurd (omega arith)
starts_get d (r ∷ rs) (x ∷ xs) zero p q = refl
starts_get d (r ∷ rs) (x ∷ xs) (suc j) p q = starts_get d rs xs j (omega arith) (omega arith)

pub starts_length : (d : ℕ) (rs : List ℕ) (xs : List Range) → length rs ≡ length xs → length (row_starts d rs xs) ≡ length xs
starts_length d [] [] e = refl
starts_length d [] (x ∷ xs) e = absurd (omega arith)
starts_length d (r ∷ rs) [] e = absurd (omega arith)
starts_length d (r ∷ rs) (x ∷ xs) e = ap suc (starts_length d rs xs (omega arith))

-- ---- the stretches, and the parts, as lists of numbers and ranges

module _ (ss : List Stretch) (j : ℕ) where
  pub root_at : get_or (roots ss) j 0 ≡ (get_or ss j no_stretch).root
  root_at = get_or-map (λ (s : Stretch). s.root) ss j no_stretch

  pub count_at : get_or (counts ss) j 0 ≡ (get_or ss j no_stretch).count
  count_at = get_or-map (λ (s : Stretch). s.count) ss j no_stretch

module _ (a : List Part) where
  pub group_length : length (group_in a) ≡ length a
  group_length = length-map a range_in

  pub group_get : (j : ℕ) → get_or (group_in a) j no_range ≡ range_in (get_or a j no_part)
  group_get j = get_or-map range_in a j no_part

  pub starts_many : length (starts_in a) ≡ length a
  starts_many = length-map a (λ (p : Part). p.base)

  pub start_get : (j : ℕ) → get_or (starts_in a) j 0 ≡ (get_or a j no_part).base
  start_get j = get_or-map (λ (p : Part). p.base) a j no_part

-- ---- parts that hold a group

-- the part of task j becomes p, which takes the range x
pub stands_put : {d : ℕ} {ss : List Stretch} {b : List Part} {xs : List Range} → Stands d ss b xs → (j : ℕ) (x : Range) {p : Part}
    → p ≡ part_at d (get_or ss j no_stretch).root x → Stands d ss (set b j p) (set xs j x)
stands_put {d} {ss} {b} {xs} w j x {p} e =
    record {
      group = map-set range_in b j p ∙ ap₂ (λ (z : List Range) (y : Part). set z j (range_in y)) w.group e;
      starts =
          map-set (λ (y : Part). y.base) b j p ∙ ap₂ (λ (z : List ℕ) (y : Part). set z j y.base) w.starts e
          ∙ ap (λ (r : ℕ). set (row_starts d (roots ss) xs) j (row_start d r x)) (sym (root_at ss j))
          ∙ sym (starts_set d (roots ss) xs j x);
    }

-- ---- a range of a group of the walk

walk_at : (ns : List ℕ) (xs : List Range) (j : ℕ) → InWalk ns xs → j < length xs → Node 0 (get_or ns j 0) (get_or xs j no_range).first (get_or xs j no_range).len
walk_at [] [] j o l = absurd (omega arith)
walk_at [] (x ∷ xs) j o l = absurd o
walk_at (n ∷ ns) [] j o l = absurd o
walk_at (n ∷ ns) (x ∷ xs) zero o l = o.1
walk_at (n ∷ ns) (x ∷ xs) (suc j) o l = walk_at ns xs j o.3 (omega arith)

pub record At (n : ℕ) (p : Part) : Type 0 where
  pub node : Node 0 n p.first p.len
  pub within : p.first + p.len ≤ n
  pub full : 0 < p.len

module _ {d : ℕ} {ss : List Stretch} {a : List Part} (w : Standing d ss a) where
  -- a part of each stretch
  pub own_length : length a ≡ length ss
  own_length = sym (group_length a) ∙ walk_length (counts ss) (group_in a) w.reached ∙ length-map ss (λ (s : Stretch). s.count)

  pub own_stands : Stands d ss a (group_in a)
  own_stands = record { group = refl; starts = w.starts }

  module _ (j : ℕ) (l : j < length ss) where
    pub own_start : (get_or a j no_part).base ≡ row_start d (get_or (roots ss) j 0) (range_in (get_or a j no_part))
    own_start =
        sym (start_get a j) ∙ ap (λ (z : List ℕ). get_or z j 0) w.starts
        ∙ starts_get d (roots ss) (group_in a) j (omega (arith, length-map ss (λ (s : Stretch). s.root))) (omega (arith, group_length a, own_length))
        ∙ ap (row_start d (get_or (roots ss) j 0)) (group_get a j)

    pub standing_at : At (get_or (counts ss) j 0) (get_or a j no_part)
    standing_at =
        let o = walk_at (counts ss) (group_in a) j w.reached (omega (arith, group_length a, own_length)) in
        let x : Node 0 (get_or (counts ss) j 0) (get_or a j no_part).first (get_or a j no_part).len =
        subst (λ (r : Range). Node 0 (get_or (counts ss) j 0) r.first r.len) (group_get a j) o in
        record { node = x; within = omega (arith, node_in x); full = node_pos x (w.stretches.paths j l).0 }
