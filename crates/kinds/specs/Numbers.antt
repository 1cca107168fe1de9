-- The document's number and values of each case.
use Rattle.std.specs.Prelude.{ℕ, List, [], ◌∷◌}
use Rattle.kinds.specs.declared.Refusal.{Refusal}
use Rattle.kinds.specs.declared.Refusal.TheVariants.{BadLine, WrongFrame, OutOfBounds, DeadlineOverSeparation, EdgeNotAfter, NoEnd, BytesAfterEnd}
use Rattle.kinds.specs.declared.Refusal.TheVariants.{NoSuchVertex, TooManyPaths, WorkTooShort, WitnessTooShort, InputTooLong, JobOverDeadline}
use Rattle.kinds.specs.declared.Verdict.{Verdict}
use Rattle.kinds.specs.declared.Verdict.TheVariants.{Meets, Misses, Unfinished, Refused}
use Rattle.kinds.specs.declared.Lateness.{Lateness}
use Rattle.kinds.specs.declared.Lateness.TheVariants as Late

-- the refusal sheet
abbrev pub refusal_number : Refusal → ℕ
refusal_number BadLine = 1
refusal_number WrongFrame = 2
refusal_number OutOfBounds = 3
refusal_number DeadlineOverSeparation = 4
refusal_number EdgeNotAfter = 5
refusal_number NoEnd = 6
refusal_number BytesAfterEnd = 7
refusal_number NoSuchVertex = 8
refusal_number TooManyPaths = 9
refusal_number WorkTooShort = 10
refusal_number WitnessTooShort = 11
refusal_number InputTooLong = 12
refusal_number JobOverDeadline = 13

-- the desk's 0 to 3, then the values: the count; the count and the cells written; the budget; the refusal's number and its place
abbrev pub verdict_numbers : Verdict → List ℕ
verdict_numbers (Meets count) = 0 ∷ count ∷ []
verdict_numbers (Misses count cells) = 1 ∷ count ∷ cells ∷ []
verdict_numbers (Unfinished budget) = 2 ∷ budget ∷ []
verdict_numbers (Refused at) = 3 ∷ refusal_number at.refusal ∷ at.place ∷ []

-- an answer to "how late is the latest?" as a verdict alone
abbrev pub verdict_in : Lateness → Verdict
verdict_in (Late.Meets count finish cells) = Meets count
verdict_in (Late.Misses count cells) = Misses count cells
verdict_in (Late.Unfinished budget) = Unfinished budget
verdict_in (Late.Refused at) = Refused at

-- the verdict's numbers, but with a meets also the cells written, as with a miss, and then its worst finish
abbrev pub lateness_numbers : Lateness → List ℕ
lateness_numbers (Late.Meets count finish cells) = 0 ∷ count ∷ cells ∷ finish.0 ∷ []
lateness_numbers (Late.Misses count cells) = 1 ∷ count ∷ cells ∷ []
lateness_numbers (Late.Unfinished budget) = 2 ∷ budget ∷ []
lateness_numbers (Late.Refused at) = 3 ∷ refusal_number at.refusal ∷ at.place ∷ []
