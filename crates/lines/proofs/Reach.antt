-- How far a run of lines of eleven bytes reaches: in lines, and in the text.
use mathlib.Core.Path.{◌≡◌, ap, ◌∙◌}
use Prim.Native.Nat.{ℕ, suc, ◌+◌, ◌*◌, ◌≤◌, ◌<◌}
use native.Mathlib.Omega.{arith}
use mathlib.Core.List.{List}
use lib.ListN.{length, drop, length-drop}
use lib.Seq.{drop-drop}
use Rattle.std.specs.Prelude.{Result, Ok, Err}
use Rattle.kinds.specs.declared.Refusal.{Refusal}
use Rattle.lines.specs.declared.Stopped.{Stopped}
use Rattle.frames.specs.Frames.{part_digits, part_bytes}
use Rattle.lines.specs.Parts.{stopped}

pub drop-part : (k : ℕ) (t : List ℕ) → drop (k * part_bytes) (drop part_bytes t) ≡ drop (suc k * part_bytes) t
drop-part k t =
    let o : part_bytes + k * part_bytes ≡ suc k * part_bytes = omega arith in
    drop-drop (k * part_bytes) part_bytes t ∙ ap (λ (z : ℕ). drop z t) o

-- after i lines, k more of the text t
pub record Reach {A : Type 0} (i k : ℕ) (t : List ℕ) (r : Result A Stopped) : Type 0 where
  pub few : (s : Stopped) → r ≡ Err s → s.count ≤ i + k
  pub room : (x : A) → r ≡ Ok x → k * part_bytes ≤ length t

pub reach_none : {A : Type 0} (i : ℕ) (t : List ℕ) (x : A) → Reach {A = A} i 0 t (Ok x)
reach_none i t x = record { few = λ s e. absurd cc; room = λ y e. omega arith }

pub reach_stopped : {A : Type 0} (i k : ℕ) (t : List ℕ) (w : Refusal) → Reach {A = A} i k t (Err (stopped w i))
reach_stopped i k t w = record { few = λ s e. (let q : i ≡ s.count = cc in omega arith); room = λ x e. absurd cc }

pub reach_more : {A : Type 0} (i k : ℕ) (t : List ℕ) (r : Result A Stopped) → part_digits < length t → Reach (i + 1) k (drop part_bytes t) r → Reach i (suc k) t r
reach_more i k t r l h = record { few = λ s e. omega (arith, h.few s e); room = λ x e. omega (arith, h.room x e, length-drop part_bytes t) }
