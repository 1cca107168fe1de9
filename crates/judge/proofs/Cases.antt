-- Which case of a verdict has these numbers.
use mathlib.Core.Path.{◌≡◌, sym, ap, ap₂}
use Prim.Native.Nat.{ℕ}
use mathlib.Core.List.{List}
use native.Mathlib.Omega.{arith}
use lib.ListN.{length, get_or}
use Rattle.meaning.specs.Paths.{Path}
use Rattle.meaning.specs.Verdict as Said
use Rattle.meaning.specs.Verdict.{meets, misses, unfinished, refused, numbers, cells_of}
use Rattle.kinds.specs.declared.RefusedAt.{RefusedAt}
use Rattle.kinds.specs.declared.Verdict.TheVariants.{Meets, Misses, Unfinished, Refused}
use Rattle.kinds.specs.Numbers.{refusal_number, verdict_numbers}

cell : {ns ms : List ℕ} (j : ℕ) → ns ≡ ms → get_or ns j 0 ≡ get_or ms j 0
cell j q = ap (λ (ns : List ℕ). get_or ns j 0) q

pub says_meets : (x : Said.Verdict) (c : ℕ) → verdict_numbers (Meets c) ≡ numbers x → x ≡ meets c
says_meets (meets a) c q = ap meets (sym (cell 1 q))
says_meets (misses a ws) c q = absurd (omega (arith, cell 0 q))
says_meets (unfinished b) c q = absurd (omega (arith, cell 0 q))
says_meets (refused k place) c q = absurd (omega (arith, cell 0 q))

pub says_misses : (x : Said.Verdict) (c n : ℕ) → verdict_numbers (Misses c n) ≡ numbers x → (ws : List Path) × (x ≡ misses c ws) × (n ≡ length (cells_of ws))
says_misses (meets a) c n q = absurd (omega (arith, cell 0 q))
says_misses (misses a ws) c n q = (ws, ap (λ (k : ℕ). misses k ws) (sym (cell 1 q)), cell 2 q)
says_misses (unfinished b) c n q = absurd (omega (arith, cell 0 q))
says_misses (refused k place) c n q = absurd (omega (arith, cell 0 q))

pub says_unfinished : (x : Said.Verdict) (n : ℕ) → verdict_numbers (Unfinished n) ≡ numbers x → x ≡ unfinished n
says_unfinished (meets a) n q = absurd (omega (arith, cell 0 q))
says_unfinished (misses a ws) n q = absurd (omega (arith, cell 0 q))
says_unfinished (unfinished b) n q = ap unfinished (sym (cell 1 q))
says_unfinished (refused k place) n q = absurd (omega (arith, cell 0 q))

pub says_refused : (x : Said.Verdict) (at : RefusedAt) → verdict_numbers (Refused at) ≡ numbers x → x ≡ refused (refusal_number at.refusal) at.place
says_refused (meets a) at q = absurd (omega (arith, cell 0 q))
says_refused (misses a ws) at q = absurd (omega (arith, cell 0 q))
says_refused (unfinished b) at q = absurd (omega (arith, cell 0 q))
says_refused (refused k place) at q = ap₂ refused (sym (cell 1 q)) (sym (cell 2 q))
