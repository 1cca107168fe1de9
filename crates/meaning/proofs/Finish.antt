-- The finish: the first free tick up to the deadline, or later than it. It grows with the loads.
use mathlib.Core.Path.{◌≡◌, refl}
use Prim.Native.Nat.{ℕ, suc, ◌+◌, ◌≤◌, ◌<◌}
use native.Mathlib.Nat.{le_refl}
use native.Mathlib.Omega.{arith}
use native.Mathlib.Decide.{dec_lt}
use mathlib.Core.Bool.{Bool}
use mathlib.Core.Logic.{◌⊎◌, inl, inr}
use mathlib.Core.Option.{Option, none, some}
use lib.Dec.{T, ltb, leb, leb→le, le→leb, ltb→lt, lt→ltb}
use borrow.Author.Tests.{lt-ltb, le-ltb}
use Rattle.meaning.specs.Lists.{first_that, or_given, ticks}
use Rattle.meaning.specs.Groups.{exceeds, finish}
use Rattle.meaning.proofs.Lists.{is_true, is_false, all_mem, mem_all, mem_count_from, count_from_mem}
use Rattle.meaning.proofs.Rising.{rising_count}
use Rattle.meaning.proofs.Firsts.{first_is, first_least}

module _ (e d : ℕ) (f : ℕ → ℕ) where
  abbrev free : ℕ → Bool
  free t = leb (e + f t) t

  -- from 1 to d + 1, and free when it is at most d
  finish_is : (1 ≤ finish e d f) × (finish e d f ≤ suc d) × (finish e d f ≤ d → e + f (finish e d f) ≤ finish e d f)
  finish_is = go (first_that free (ticks d)) refl
    where
      go : (o : Option ℕ) → first_that free (ticks d) ≡ o → (1 ≤ or_given (suc d) o) × (or_given (suc d) o ≤ suc d)
          × (or_given (suc d) o ≤ d → e + f (or_given (suc d) o) ≤ or_given (suc d) o)
      go none q = (omega arith, le_refl _, λ h. absurd (omega arith))
      go (some t) q =
          let r = first_is free (ticks d) t q in
          let m = count_from_mem 1 d t r.0 in
          (m.0, omega arith, λ h. leb→le (e + f t) t r.1)

  pub finish_some : 1 ≤ finish e d f
  finish_some = finish_is.0

  pub finish_most : finish e d f ≤ suc d
  finish_most = finish_is.1

  pub finish_free : finish e d f ≤ d → e + f (finish e d f) ≤ finish e d f
  finish_free = finish_is.2

  pub finish_least : (t : ℕ) → 1 ≤ t → t ≤ d → e + f t ≤ t → finish e d f ≤ t
  finish_least t a b h =
      let r = first_least free (λ (x y : ℕ). x < y) (ticks d) (rising_count 1 d) (mem_count_from 1 d t a (omega arith)) (le→leb (e + f t) t h) in
      rw r.1 (go r.0 r.2)
    where
      go : (x : ℕ) → (x ≡ t) ⊎ (x < t) → x ≤ t
      go x (inl q) = omega arith
      go x (inr q) = omega arith

  -- ---- the overload test, at every tick

  pub exceeds-every : T (exceeds e d f) → (t : ℕ) → 1 ≤ t → t ≤ d → t < e + f t
  exceeds-every p t a b = ltb→lt t (e + f t) (all_mem (λ (s : ℕ). ltb s (e + f s)) (ticks d) p (mem_count_from 1 d t a (omega arith)))

  pub every-exceeds : ((t : ℕ) → 1 ≤ t → t ≤ d → t < e + f t) → T (exceeds e d f)
  every-exceeds h = mem_all (λ (t : ℕ). ltb t (e + f t)) (ticks d) (λ t m. let r = count_from_mem 1 d t m in lt→ltb t (e + f t) (h t r.0 (omega arith)))

  -- to overload is to finish later than d
  pub exceeds_late : exceeds e d f ≡ ltb d (finish e d f)
  exceeds_late =
      elim (dec_lt d (finish e d f)) [
        | yes h ↦ rw (lt-ltb d (finish e d f) h) (is_true (exceeds e d f) (every-exceeds (λ t a b. late h t a b (dec_lt t (e + f t)))))
        | no h ↦
            rw (le-ltb d (finish e d f) (omega arith))
            (is_false (exceeds e d f) (λ t. omega (arith, exceeds-every t (finish e d f) finish_some (omega arith), finish_free (omega arith))))
      ]
    where
      late : d < finish e d f → (t : ℕ) → 1 ≤ t → t ≤ d → Dec (t < e + f t) → t < e + f t
      late h t a b (yes k) = k
      late h t a b (no k) = absurd (omega (arith, finish_least t a b (omega arith)))

-- larger loads finish no earlier
pub finish_mono : (e d : ℕ) (f g : ℕ → ℕ) → ((t : ℕ) → 1 ≤ t → t ≤ d → f t ≤ g t) → finish e d f ≤ finish e d g
finish_mono e d f g h =
    elim (dec_lt d (finish e d g)) [
      | yes k ↦ omega (arith, finish_most e d f)
      | no k ↦
          finish_least e d f (finish e d g) (finish_some e d g) (omega arith)
          (omega (arith, h (finish e d g) (finish_some e d g) (omega arith), finish_free e d g (omega arith)))
    ]

pub finish-same : (e d : ℕ) (f g : ℕ → ℕ) → ((t : ℕ) → 1 ≤ t → t ≤ d → f t ≡ g t) → finish e d f ≡ finish e d g
finish-same e d f g h = omega (arith, finish_mono e d f g (λ t a b. omega (arith, h t a b)), finish_mono e d g f (λ t a b. omega (arith, h t a b)))

-- with no loads: e itself
pub finish-alone : (e d : ℕ) (f : ℕ → ℕ) → ((t : ℕ) → f t ≡ 0) → 1 ≤ e → finish e d f ≤ d → finish e d f ≡ e
finish-alone e d f z a h =
    let k = finish_free e d f h in
    let l = z (finish e d f) in
    omega (arith, finish_least e d f e a (omega arith) (omega (arith, z e)))

-- ---- for code that looks for it, where no tick from 1 to d is free before t (`busy`)

module _ (e d : ℕ) (f : ℕ → ℕ) (t : ℕ) (busy : finish e d f ≤ d → t ≤ finish e d f) where
  -- where t is free, it is the finish
  pub finish-here : 1 ≤ t → t ≤ d → e + f t ≤ t → finish e d f ≡ t
  finish-here a b k = let l = finish_least e d f t a b k in omega (arith, busy (omega arith))

  -- behind d, none is free
  pub finish_late : d < t → finish e d f ≡ suc d
  finish_late l =
      elim (dec_lt d (finish e d f)) [
        | yes k ↦ omega (arith, finish_most e d f)
        | no k ↦ absurd (omega (arith, busy (omega arith)))
      ]

  -- "Loads never fall as t grows, so when the sum at t is s, nothing before s can be free."
  pub finish_jump : ((u : ℕ) → t ≤ u → u ≤ d → f t ≤ f u) → finish e d f ≤ d → e + f t ≤ finish e d f
  finish_jump rises k = omega (arith, rises (finish e d f) (busy k) k, finish_free e d f k)
