-- How tight the statements are: any two results that satisfy one coincide. `proofs/Demands` and `proofs/Output` prove it.
use Rattle.std.specs.Prelude.{◌≡◌, ℕ, ◌≤◌, List, length, Result}
use Rattle.meaning.specs.Bounds.{longest_output}
use Rattle.meaning.specs.Desk.{output}
use Rattle.meaning.specs.Areas.{Wrote}
use Rattle.kinds.specs.declared.Verdict.{Verdict}
use Rattle.kinds.specs.declared.RefusedAt.{RefusedAt}
use Rattle.counts.specs.declared.Counts.{Counts}
use Rattle.kinds.specs.declared.Lateness.{Lateness}
use Rattle.judge.specs.Judged.{Judged, LatestJudged}
use Rattle.judge.specs.Whole.{TableJudged}
use Rattle.judge.specs.Desk.{output_room, output_into}

-- Two results that satisfy the statement of a vertex's judging coincide, in the verdict and in every cell of both areas.
abbrev pub Settled : Type 0
Settled = (text : List ℕ) (i v b : ℕ) (work wit : List ℕ) (r s : Verdict) (work₁ wit₁ work₂ wit₂ : List ℕ)
    → Judged text i v b work wit r work₁ wit₁ → Judged text i v b work wit s work₂ wit₂ → (r ≡ s) × (work₁ ≡ work₂) × (wit₁ ≡ wit₂)

-- And where the latest finish is asked for, in the answer and in every cell of both areas.
abbrev pub SettledLatest : Type 0
SettledLatest = (text : List ℕ) (i v b : ℕ) (work wit : List ℕ) (r s : Lateness) (work₁ wit₁ work₂ wit₂ : List ℕ)
    → LatestJudged text i v b work wit r work₁ wit₁ → LatestJudged text i v b work wit s work₂ wit₂ → (r ≡ s) × (work₁ ≡ work₂) × (wit₁ ≡ wit₂)

-- And of a whole table's, in the counts or the refusal and in every work cell.
abbrev pub SettledTable : Type 0
SettledTable = (text : List ℕ) (b : ℕ) (work : List ℕ) (r s : Result Counts RefusedAt) (work₁ work₂ : List ℕ)
    → TableJudged text b work r work₁ → TableJudged text b work s work₂ → (r ≡ s) × (work₁ ≡ work₂)

-- And of the desk's output, in its length and in every byte of the area.
abbrev pub SettledOutput : Type 0
SettledOutput = (text out : List ℕ) (r s : ℕ) (out₁ out₂ : List ℕ)
    → Wrote (output_into text (length out)) out 0 out₁ r → Wrote (output_into text (length out)) out 0 out₂ s → (r ≡ s) × (out₁ ≡ out₂)

-- What is written fits the area that it is written into.
abbrev pub OutputFits : Type 0
OutputFits = (text : List ℕ) (n : ℕ) → length (output_into text n) ≤ n

-- An area of `longest_output` bytes is never too short.
abbrev pub RoomEnough : Type 0
RoomEnough = (text : List ℕ) → output_room text ≤ longest_output

-- No output is empty: a length of 0 says that the area might be too short, and nothing else.
abbrev pub SomeOutput : Type 0
SomeOutput = (text : List ℕ) → 1 ≤ length (output text)
