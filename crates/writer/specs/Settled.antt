-- A record and an area have one answer: `proofs/Demands` proves it.
use Rattle.std.specs.Prelude.{◌≡◌, ℕ, List}
use Rattle.table.specs.declared.Table.{Table}
use Rattle.writer.specs.Written.{Written, Writes}

-- Two results that satisfy the statement of `write` coincide, in the answer and in every byte of the area.
abbrev pub WriteSettled : Type 0
WriteSettled = (t : Table) (before : List ℕ) (r s : Written) (after other : List ℕ) → Writes t before r after → Writes t before s other
    → (r ≡ s) × (after ≡ other)
