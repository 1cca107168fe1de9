-- The groups still to be examined are a function of the group that the walk stands at.
use mathlib.Core.Path.{◌≡◌, refl, ap, ◌∙◌}
use Prim.Native.Nat.{ℕ, suc, ◌+◌, ◌≤◌, ◌<◌}
use native.Mathlib.Omega.{arith}
use mathlib.Core.Bool.{Bool, true, false, true≢false}
use mathlib.Core.Option.{Option, none, some}
use mathlib.Core.List.{List, [], ◌∷◌, ◌++◌, map}
use lib.ListN.{length}
use lib.Dec.{ltb}
use borrow.Author.Tests.{ltb-true, ltb-false}
use Rattle.meaning.specs.Lists.{pick}
use Rattle.rows.specs.Ranges.{Range, range, end_of, first_half, rest_length}
use Rattle.groups.specs.Groups.{top_group, all_single, first_child, second_child, next_by, next_group, InWalk}
use Rattle.rows.specs.Order.{top}
use Rattle.rows.proofs.Halving.{node_first-half, rests_behind, rests_end, split_next, NextOne, rest_next}
use Rattle.rows.proofs.Order.{node_pos}

-- every task has a path
abbrev pub Filled : List ℕ → Type 0
Filled [] = Unit {0}
Filled (n ∷ ns) = (0 < n) × Filled ns

pub filled_top : (ns : List ℕ) → Filled ns → InWalk ns (top_group ns)
filled_top [] p = tt
filled_top (n ∷ ns) p = (p.0, top refl refl, (λ h. refl), filled_top ns p.1)

pub walk_filled : (ns : List ℕ) (xs : List Range) → InWalk ns xs → Filled ns
walk_filled [] [] o = tt
walk_filled [] (x ∷ xs) o = absurd o
walk_filled (n ∷ ns) [] o = absurd o
walk_filled (n ∷ ns) (x ∷ xs) o = (o.0, walk_filled ns xs o.3)

pub walk_length : (ns : List ℕ) (xs : List Range) → InWalk ns xs → length xs ≡ length ns
walk_length [] [] o = refl
walk_length [] (x ∷ xs) o = absurd o
walk_length (n ∷ ns) [] o = absurd o
walk_length (n ∷ ns) (x ∷ xs) o = ap suc (walk_length ns xs o.3)

-- the later tasks' turn comes first, and each second half still to come goes with the whole of the tasks behind it
abbrev pub pending : List ℕ → List Range → List (List Range)
pending [] xs = []
pending (n ∷ ns) [] = []
pending (n ∷ ns) (x ∷ xs) = map (λ (ys : List Range). x ∷ ys) (pending ns xs) ++ map (λ (r : Range). r ∷ top_group ns) (rests_behind n 0 n (end_of x))

pub pending_top : (ns : List ℕ) → pending ns (top_group ns) ≡ []
pending_top [] = refl
pending_top (n ∷ ns) = rw (pending_top ns, rests_end n 0 n (0 + n) (omega arith))

-- ---- the first child

-- behind it comes the second child
pub pending_child : (ns : List ℕ) (xs : List Range) → InWalk ns xs → all_single xs ≡ false → pending ns (first_child xs) ≡ second_child xs ∷ pending ns xs
pending_child [] [] o q = absurd (true≢false q)
pending_child [] (x ∷ xs) o q = absurd o
pending_child (n ∷ ns) [] o q = absurd o
pending_child (n ∷ ns) (x ∷ xs) o q = go (ltb 1 x.len) refl (λ h. pending_child ns xs o.3 h)
  where
    go : (v : Bool) → ltb 1 x.len ≡ v → (all_single xs ≡ false → pending ns (first_child xs) ≡ second_child xs ∷ pending ns xs)
        → pending (n ∷ ns) (first_child (x ∷ xs)) ≡ second_child (x ∷ xs) ∷ pending (n ∷ ns) (x ∷ xs)
    go true e i =
        let l : 1 < x.len = ltb-true 1 x.len e in
        let w = o.2 l in
        rw e (rw (w, pending_top ns, split_next n 0 n x.first x.len (omega arith) l o.1))
    go false e i = rw e (rw (i (rw e at q)))

pub walk_child : (ns : List ℕ) (xs : List Range) → InWalk ns xs → InWalk ns (first_child xs)
walk_child [] [] o = tt
walk_child [] (x ∷ xs) o = absurd o
walk_child (n ∷ ns) [] o = absurd o
walk_child (n ∷ ns) (x ∷ xs) o = go (ltb 1 x.len) refl (walk_child ns xs o.3)
  where
    go : (v : Bool) → ltb 1 x.len ≡ v → InWalk ns (first_child xs) → InWalk (n ∷ ns) (pick v (first_half x ∷ xs) (x ∷ first_child xs))
    go true e i = let l : 1 < x.len = ltb-true 1 x.len e in (o.0, node_first-half o.1 l, (λ h. o.2 l), o.3)
    go false e i = let l : x.len ≤ 1 = ltb-false 1 x.len e in (o.0, o.1, (λ h. absurd (omega arith)), i)

-- ---- the next group

abbrev pub FirstPending : List ℕ → List Range → Option (List Range) → Type 0
FirstPending ns xs none = pending ns xs ≡ []
FirstPending ns xs (some ys) = InWalk ns ys × (pending ns xs ≡ ys ∷ pending ns ys)

pub next-pending : (ns : List ℕ) (xs : List Range) → InWalk ns xs → FirstPending ns xs (next_group ns xs)
next-pending [] xs o = refl
next-pending (n ∷ ns) [] o = absurd o
next-pending (n ∷ ns) (x ∷ xs) o = go (next_group ns xs) (next-pending ns xs o.3) (ltb (end_of x) n) refl
  where
    here : end_of x < n → NextOne n 0 n (end_of x) (rest_length 0 n (end_of x))
    here l = rest_next n (end_of x) (omega (arith, node_pos o.1 o.0)) l

    go : (f : Option (List Range)) → FirstPending ns xs f → (v : Bool) → ltb (end_of x) n ≡ v
        → FirstPending (n ∷ ns) (x ∷ xs) (next_by x (pick v (some (range (end_of x) (rest_length 0 n (end_of x)) ∷ top_group ns)) none) f)
    go (some ys) i v e = (
      (
        o.0,
        o.1,
        (λ l. let z : ◌≡◌ {A = ℕ} 0 1 = (let a : pending ns xs ≡ [] = ap (pending ns) (o.2 l) ∙ pending_top ns in let b = i.1 in cc) in absurd (omega arith)),
        i.0,
      ),
      rw i.1,
    )
    go none i true e =
        let l : end_of x < n = ltb-true (end_of x) n e in
        ((o.0, (here l).node, (λ h. refl), filled_top ns (walk_filled ns xs o.3)), rw (i, (here l).comes, pending_top ns))
    go none i false e = rw (i, rests_end n 0 n (end_of x) (omega (arith, ltb-false (end_of x) n e)))
