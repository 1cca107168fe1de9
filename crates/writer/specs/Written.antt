-- What writing a table promises: the answer in the document's numbers, and every byte of the lent area.
use Rattle.std.specs.Prelude.{◌≡◌, ℕ, List, [], ◌∷◌, length, Result, Ok, Err}
use Rattle.meaning.specs.Writing.{writing, writing_numbers, area_after}
use Rattle.kinds.specs.declared.RefusedAt.{RefusedAt}
use Rattle.kinds.specs.Numbers.{refusal_number}
use Rattle.table.specs.declared.Table.{Table}
use Rattle.table.specs.Record.{table_held}

-- the bytes written, or what refuses the table
abbrev pub Written : Type 0
Written = Result ℕ RefusedAt

-- 0 and the bytes written; the refusal's number, and its line or the bytes needed
abbrev pub written_numbers : Written → List ℕ
written_numbers (Ok n) = 0 ∷ n ∷ []
written_numbers (Err at) = refusal_number at.refusal ∷ at.place ∷ []

-- of any record, into an area that holds `before`
pub record Writes (t : Table) (before : List ℕ) (r : Written) (after : List ℕ) : Type 0 where
  pub answer : written_numbers r ≡ writing_numbers (writing (table_held t) (length before))
  pub area : after ≡ area_after (writing (table_held t) (length before)) before
