-- What is told to a C host settles the answer, and its numbers can be taken apart again: `proofs/Settled` proves each of these sentences.
use Rattle.std.specs.Prelude.{◌≡◌, ℕ, ◌/◌, ◌%◌, ◌≤◌, List, length}
use Rattle.meaning.specs.Text.{read}
use Rattle.meaning.specs.Writing.{Writing, writable, unwritable, writing}
use Rattle.meaning.specs.Whole.{TableAnswer, counted, uncounted, table_answer}
use Rattle.cells.specs.Cells.{cells_table}
use Rattle.host.specs.Told.{VertexTold, LatestTold, TableTold, WriteTold}

-- Two results of a vertex's call coincide, in the three numbers and in every cell of both areas.
abbrev pub VertexToldSettled : Type 0
VertexToldSettled = (text : List ℕ) (i v b : ℕ) (work wit : List ℕ) (n value place m value₂ place₂ : ℕ) (work₁ wit₁ work₂ wit₂ : List ℕ)
    → VertexTold text i v b work wit n value place work₁ wit₁ → VertexTold text i v b work wit m value₂ place₂ work₂ wit₂
    → (n ≡ m) × (value ≡ value₂) × (place ≡ place₂) × (work₁ ≡ work₂) × (wit₁ ≡ wit₂)

-- And where the latest finish is asked for, in the four numbers.
abbrev pub LatestToldSettled : Type 0
LatestToldSettled = (text : List ℕ) (i v b : ℕ) (work wit : List ℕ) (n value place finish m value₂ place₂ finish₂ : ℕ) (work₁ wit₁ work₂ wit₂ : List ℕ)
    → LatestTold text i v b work wit n value place finish work₁ wit₁ → LatestTold text i v b work wit m value₂ place₂ finish₂ work₂ wit₂
    → (n ≡ m) × (value ≡ value₂) × (place ≡ place₂) × (finish ≡ finish₂) × (work₁ ≡ work₂) × (wit₁ ≡ wit₂)

-- Two results of a whole table's call coincide, in the number and in every work cell.
abbrev pub TableToldSettled : Type 0
TableToldSettled = (text : List ℕ) (b : ℕ) (work : List ℕ) (r s : ℕ) (work₁ work₂ : List ℕ)
    → TableTold text b work r work₁ → TableTold text b work s work₂ → (r ≡ s) × (work₁ ≡ work₂)

-- the four counts where the upper half is zero, else the refusal's number and its line
abbrev pub TakenApart : TableAnswer → ℕ → Type 0
TakenApart (counted c) r =
    (r / 4294967296 ≡ 0) × (r / 16777216 ≡ c.meeting) × (r / 65536 % 256 ≡ c.missing) × (r / 256 % 256 ≡ c.unfinishing) × (r % 256 ≡ c.refusing)
TakenApart (uncounted k n) r = (1 ≤ k) × (r / 4294967296 ≡ k) × (r % 4294967296 ≡ n)

-- The answer for a whole table can be taken out of its number again.
abbrev pub TableNumberUnpacked : Type 0
TableNumberUnpacked = (text : List ℕ) (b : ℕ) (work : List ℕ) (r : ℕ) (work' : List ℕ) → TableTold text b work r work'
    → TakenApart (table_answer (read text) b (length work)) r

-- Two results of a writing coincide, in the number and in every byte of the area.
abbrev pub WriteToldSettled : Type 0
WriteToldSettled = (cells before : List ℕ) (r s : ℕ) (after other : List ℕ)
    → WriteTold cells before r after → WriteTold cells before s other → (r ≡ s) × (after ≡ other)

-- the bytes written where the upper half is zero, else the refusal's number and what is returned with it
abbrev pub WritingTakenApart : Writing → ℕ → Type 0
WritingTakenApart (writable text) r = (r / 4294967296 ≡ 0) × (r % 4294967296 ≡ length text)
WritingTakenApart (unwritable k n) r = (1 ≤ k) × (r / 4294967296 ≡ k) × (r % 4294967296 ≡ n)

-- The answer of a writing can be taken out of its number again.
abbrev pub WriteNumberUnpacked : Type 0
WriteNumberUnpacked = (cells before : List ℕ) (r : ℕ) (after : List ℕ) → WriteTold cells before r after
    → WritingTakenApart (writing (cells_table cells) (length before)) r
