-- The numbers settle the case: no two refusals and no two verdicts have the same.
use mathlib.Core.Path.{◌≡◌, refl, sym, ap, ◌∙◌}
use Prim.Native.Nat.{ℕ, zero, suc, ◌≤◌}
use native.Mathlib.Omega.{arith}
use mathlib.Core.List.{List, [], ◌∷◌}
use Rattle.kinds.specs.declared.Refusal.{Refusal}
use Rattle.kinds.specs.declared.Refusal.TheVariants.{BadLine, WrongFrame, OutOfBounds, DeadlineOverSeparation, EdgeNotAfter, NoEnd, BytesAfterEnd}
use Rattle.kinds.specs.declared.Refusal.TheVariants.{NoSuchVertex, TooManyPaths, WorkTooShort, WitnessTooShort, InputTooLong, JobOverDeadline}
use Rattle.kinds.specs.declared.Verdict.{Verdict}
use Rattle.kinds.specs.declared.Verdict.TheVariants.{Meets, Misses, Unfinished, Refused}
use Rattle.kinds.specs.declared.Lateness.{Lateness}
use Rattle.kinds.specs.declared.Lateness.TheVariants as Late
use Rattle.kinds.specs.Numbers.{refusal_number, verdict_numbers, verdict_in, lateness_numbers}
use lib.ListN.{get_or}

-- the refusal with number n, none beyond the sheet
abbrev pub refusal_of : ℕ → Refusal
refusal_of n =
    get_or
    (BadLine ∷ BadLine ∷ WrongFrame ∷ OutOfBounds ∷ DeadlineOverSeparation ∷ EdgeNotAfter ∷ NoEnd
    ∷ BytesAfterEnd ∷ NoSuchVertex ∷ TooManyPaths ∷ WorkTooShort ∷ WitnessTooShort ∷ InputTooLong ∷ JobOverDeadline ∷ [])
    n BadLine

pub refusal-of_number : (r : Refusal) → refusal_of (refusal_number r) ≡ r
refusal-of_number BadLine = refl
refusal-of_number WrongFrame = refl
refusal-of_number OutOfBounds = refl
refusal-of_number DeadlineOverSeparation = refl
refusal-of_number EdgeNotAfter = refl
refusal-of_number NoEnd = refl
refusal-of_number BytesAfterEnd = refl
refusal-of_number NoSuchVertex = refl
refusal-of_number TooManyPaths = refl
refusal-of_number WorkTooShort = refl
refusal-of_number WitnessTooShort = refl
refusal-of_number InputTooLong = refl
refusal-of_number JobOverDeadline = refl

pub number_some : (r : Refusal) → 1 ≤ refusal_number r
number_some BadLine = omega arith
number_some WrongFrame = omega arith
number_some OutOfBounds = omega arith
number_some DeadlineOverSeparation = omega arith
number_some EdgeNotAfter = omega arith
number_some NoEnd = omega arith
number_some BytesAfterEnd = omega arith
number_some NoSuchVertex = omega arith
number_some TooManyPaths = omega arith
number_some WorkTooShort = omega arith
number_some WitnessTooShort = omega arith
number_some InputTooLong = omega arith
number_some JobOverDeadline = omega arith

pub same-refusal : (r s : Refusal) → refusal_number r ≡ refusal_number s → r ≡ s
same-refusal r s q = sym (refusal-of_number r) ∙ ap refusal_of q ∙ refusal-of_number s

-- the text's rows from 1 to 7
pub number_of-refusal : (k : ℕ) → 1 ≤ k → k ≤ 7 → refusal_number (refusal_of k) ≡ k
number_of-refusal zero l h = absurd (omega arith)
number_of-refusal (suc zero) l h = refl
number_of-refusal (suc (suc zero)) l h = refl
number_of-refusal (suc (suc (suc zero))) l h = refl
number_of-refusal (suc (suc (suc (suc zero)))) l h = refl
number_of-refusal (suc (suc (suc (suc (suc zero))))) l h = refl
number_of-refusal (suc (suc (suc (suc (suc (suc zero)))))) l h = refl
number_of-refusal (suc (suc (suc (suc (suc (suc (suc zero))))))) l h = refl
number_of-refusal (suc (suc (suc (suc (suc (suc (suc (suc k)))))))) l h = absurd (omega arith)

-- a verdict from its numbers
abbrev verdict_of : List ℕ → Verdict
verdict_of ns = get_or (Meets (get_or ns 1 0) ∷ Misses (get_or ns 1 0) (get_or ns 2 0) ∷ Unfinished (get_or ns 1 0) ∷ Refused
    (record { refusal = refusal_of (get_or ns 1 0); place = get_or ns 2 0 }) ∷ []) (get_or ns 0 0) (Meets 0)

verdict_of-numbers : (v : Verdict) → verdict_of (verdict_numbers v) ≡ v
verdict_of-numbers (Meets c) = refl
verdict_of-numbers (Misses c n) = refl
verdict_of-numbers (Unfinished b) = refl
verdict_of-numbers (Refused at) = ap (λ (r : Refusal). Refused (record { refusal = r; place = at.place })) (refusal-of_number at.refusal)

pub same_verdict : (v w : Verdict) → verdict_numbers v ≡ verdict_numbers w → v ≡ w
same_verdict v w q = sym (verdict_of-numbers v) ∙ ap verdict_of q ∙ verdict_of-numbers w

-- an answer to "how late is the latest?" from its numbers
abbrev lateness_of : List ℕ → Lateness
lateness_of ns = get_or (Late.Meets (get_or ns 1 0) (record { 0 = get_or ns 3 0 }) (get_or ns 2 0) ∷ Late.Misses (get_or ns 1 0) (get_or ns 2 0)
    ∷ Late.Unfinished (get_or ns 1 0) ∷ Late.Refused (record { refusal = refusal_of (get_or ns 1 0); place = get_or ns 2 0 }) ∷ []) (get_or ns 0 0) (Late.Unfinished 0)

lateness_of-numbers : (r : Lateness) → lateness_of (lateness_numbers r) ≡ r
lateness_of-numbers (Late.Meets c t n) = refl
lateness_of-numbers (Late.Misses c n) = refl
lateness_of-numbers (Late.Unfinished b) = refl
lateness_of-numbers (Late.Refused at) = ap (λ (r : Refusal). Late.Refused (record { refusal = r; place = at.place })) (refusal-of_number at.refusal)

pub same_lateness : (r s : Lateness) → lateness_numbers r ≡ lateness_numbers s → r ≡ s
same_lateness r s q = sym (lateness_of-numbers r) ∙ ap lateness_of q ∙ lateness_of-numbers s

-- its first two numbers are its verdict's
pub verdict_number : (r : Lateness) → get_or (verdict_numbers (verdict_in r)) 0 0 ≡ get_or (lateness_numbers r) 0 0
verdict_number (Late.Meets c t n) = refl
verdict_number (Late.Misses c n) = refl
verdict_number (Late.Unfinished b) = refl
verdict_number (Late.Refused at) = refl

pub verdict_value : (r : Lateness) → get_or (verdict_numbers (verdict_in r)) 1 0 ≡ get_or (lateness_numbers r) 1 0
verdict_value (Late.Meets c t n) = refl
verdict_value (Late.Misses c n) = refl
verdict_value (Late.Unfinished b) = refl
verdict_value (Late.Refused at) = refl
