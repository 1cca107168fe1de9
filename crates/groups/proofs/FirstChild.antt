-- The first range longer than one is found and cut to its first half.
use mathlib.Core.Path.{◌≡◌, refl, sym, ap, subst, ◌∙◌}
use Prim.Native.Nat.{ℕ, zero, suc, ◌≤◌, ◌<◌}
use native.Mathlib.Omega.{arith}
use mathlib.Core.Bool.{Bool, true, false, not, ◌&&◌}
use mathlib.Core.List.{List, [], ◌∷◌}
use lib.ListN.{length, get_or, set}
use borrow.Author.Tests.{lt-ltb, le-ltb}
use Rattle.meaning.specs.Lists.{pick}
use Rattle.meaning.specs.Groups.{half}
use Rattle.rows.specs.Ranges.{Range, range, first_half}
use Rattle.groups.specs.declared.Stretch.{Stretch}
use Rattle.groups.specs.declared.Part.{Part}
use Rattle.groups.specs.Groups.{all_single, first_child}
use Rattle.groups.specs.Lent.{group_in, part_at, Startable, Standing, Stands, ToChild}
use Rattle.groups.proofs.LaidOut.{row_asked}
use Rattle.groups.proofs.Arrays.{no_range, no_part, no_stretch, count_at, group_length, group_get, stands_put, own_length, own_stands, standing_at}

child_at : (xs : List Range) (j : ℕ) → j < length xs → ((k : ℕ) → k < j → (get_or xs k no_range).len ≤ 1) → 1 < (get_or xs j no_range).len
    → (first_child xs ≡ set xs j (first_half (get_or xs j no_range))) × (all_single xs ≡ false)
child_at [] j h a b = absurd (omega arith)
child_at (x ∷ xs) zero h a b =
    (ap (λ (v : Bool). pick v (first_half x ∷ xs) (x ∷ first_child xs)) (lt-ltb 1 x.len b), ap (λ (v : Bool). not v && all_single xs) (lt-ltb 1 x.len b))
child_at (x ∷ xs) (suc j) h a b =
    let i = child_at xs j (omega arith) (λ k l. a (suc k) (omega arith)) b in
    (rw (le-ltb 1 x.len (a 0 (omega arith)), i.0), rw (le-ltb 1 x.len (a 0 (omega arith)), i.1))

all_short : (xs : List Range) → ((k : ℕ) → k < length xs → (get_or xs k no_range).len ≤ 1) → all_single xs ≡ true
all_short [] a = refl
all_short (x ∷ xs) a = rw (le-ltb 1 x.len (a 0 (omega arith)), all_short xs (λ k l. a (suc k) (omega arith)))

module _ {d : ℕ} {ss : List Stretch} {a : List Part} (w : Standing d ss a) where
  abbrev xs : List Range
  xs = group_in a

  len_at : (j : ℕ) → (get_or xs j no_range).len ≡ (get_or a j no_part).len
  len_at j = ap (λ (x : Range). x.len) (group_get a j)

  -- c is the first part of the range at j
  module _ {j c : ℕ} (l : j < length ss) (is : c ≡ half (get_or a j no_part).len) where
    abbrev cut : Range
    cut = range (get_or a j no_part).first c

    pub child_asks : Startable d (get_or ss j no_stretch).root cut
    child_asks = let x = standing_at w j l in row_asked ss w.stretches j l cut (omega (arith, x.within, count_at ss j)) (omega (arith, x.full))

    pub child_found : 1 < (get_or a j no_part).len → ((k : ℕ) → k < j → (get_or a k no_part).len ≤ 1) → {p : Part}
        → p ≡ part_at d (get_or ss j no_stretch).root cut → ToChild d ss a true (set a j p)
    child_found m s {p} e =
        let i = child_at xs j (omega (arith, group_length a, own_length w)) (λ k p. omega (arith, s k p, len_at k)) (omega (arith, len_at j)) in
        let g : set xs j cut ≡ first_child xs =
        ap (set xs j) (ap (range (get_or a j no_part).first) is ∙ ap first_half (sym (group_get a j))) ∙ sym i.0 in
        rw i.1 record { says = refl; stands = subst (Stands d ss (set a j p)) g (stands_put (own_stands w) j cut e) }

  pub child_none : ((k : ℕ) → k < length a → (get_or a k no_part).len ≤ 1) → ToChild d ss a false a
  child_none s =
      let i = all_short xs (λ k m. omega (arith, s k (omega (arith, group_length a)), len_at k)) in
      rw i record { says = refl; stands = own_stands w }
