-- A table goes out exactly if each of its verdicts is a meets.
use mathlib.Core.Path.{◌≡◌, refl, sym, subst}
use Prim.Native.Nat.{ℕ}
use native.Mathlib.Omega.{arith}
use mathlib.Core.Bool.{Bool, ◌&&◌}
use mathlib.Core.List.{List, [], ◌∷◌, Memᴰ}
use lib.Dec.{T, eqb, eqb→eq}
use Rattle.meaning.specs.Verdict.{Verdict, meets, misses, unfinished, refused, kind_of}
use Rattle.meaning.specs.Whole.{of_kind, counts_of}
use Rattle.meaning.proofs.Lists.{both_left, both_right, mem_some, mem_those}
use Rattle.counts.specs.GoesOut.{goes_out}

abbrev pub Meets : Verdict → Type 0
Meets x = (c : ℕ) × (x ≡ meets c)

-- a verdict of a kind that none has
none_of_lem : (n : ℕ) {x : Verdict} {xs : List Verdict} → T (eqb (of_kind n xs) 0) → Memᴰ x xs → T (eqb (kind_of x) n) → Meets x
none_of_lem n {xs = xs} e m t =
    absurd (omega (arith, eqb→eq (of_kind n xs) 0 e, mem_some (mem_those (λ (y : Verdict). eqb (kind_of y) n) m t)))

module _ (xs : List Verdict) (t : T (goes_out (counts_of xs))) where
  abbrev none : ℕ → Bool
  none n = eqb (of_kind n xs) 0

  first_two : T (none 1 && none 2)
  first_two = both_left (none 1 && none 2) (none 3) t

  pub goes_out_meets : (x : Verdict) → Memᴰ x xs → Meets x
  goes_out_meets (meets c) m = (c, refl)
  goes_out_meets (misses c ws) m = none_of_lem 1 (both_left (none 1) (none 2) first_two) m tt
  goes_out_meets (unfinished b) m = none_of_lem 2 (both_right (none 1) (none 2) first_two) m tt
  goes_out_meets (refused k place) m = none_of_lem 3 (both_right (none 1 && none 2) (none 3) t) m tt

pub meets_go_out : (xs : List Verdict) → ((x : Verdict) → Memᴰ x xs → Meets x) → T (goes_out (counts_of xs))
meets_go_out [] h = tt
meets_go_out (x ∷ xs) h =
    subst (λ (y : Verdict). T (goes_out (counts_of (y ∷ xs)))) (sym (h x (Memᴰ.head refl)).1) (meets_go_out xs (λ y m. h y (Memᴰ.tail m)))
