-- What is known where a test that a call made has held or failed, and how a line of the right length is refused.
use mathlib.Core.Path.{◌≡◌, refl, sym, ◌∙◌}
use Prim.Native.Nat.{ℕ, ◌<◌}
use native.Mathlib.Omega.{arith}
use mathlib.Core.Bool.{Bool, true, false}
use mathlib.Core.List.{List}
use lib.ListN.{length}
use borrow.Author.Tests.{eq-eqb, ne_eqb}
use Rattle.kinds.specs.declared.Refusal.{Refusal}
use Rattle.digits.specs.Digits.{frame_at, digit_count}
use Rattle.frames.specs.Frames.{fault_of}

-- a call gave b for the test x, and the code went on, or left, at `!b`
pub held : {b x : Bool} → b ≡ x → b ≡ true → x ≡ true
held e h = sym e ∙ h

pub failed : {b x : Bool} → b ≡ x → b ≡ false → x ≡ false
failed e h = sym e ∙ h

pub fault_then : (t : List ℕ) (n : ℕ) (w : Refusal) → (length t ≡ 0 → ⊥) → (digit_count 0 (frame_at t) ≡ n) × (0 < n) → w ≡ fault_of t n w
unfolding fault_of
fault_then t n w h e = let z : n ≡ 0 → ⊥ = λ q. omega (arith, e.1) in rw (ne_eqb _ _ h, e.0, ne_eqb _ _ z, eq-eqb n n refl)
