-- What a reading of a text promises: the document's numbers of its refusal, or every cell of the table.
use Rattle.std.specs.Prelude.{◌≡◌, ℕ, List, [], ◌∷◌, Result, Ok, Err, IfOk}
use Rattle.meaning.specs.Text.{read, tasks_of, checked}
use Rattle.kinds.specs.declared.RefusedAt.{RefusedAt}
use Rattle.kinds.specs.Numbers.{refusal_number}
use Rattle.table.specs.declared.Table.{Table}
use Rattle.table.specs.Record.{table_record}

-- refusal number and line, both 0 for a readable text
abbrev pub status_numbers : Result Table RefusedAt → List ℕ
status_numbers (Ok t) = 0 ∷ 0 ∷ []
status_numbers (Err at) = refusal_number at.refusal ∷ at.place ∷ []

-- no row has number 0, so that a readable text alone gives a table, the one that it means
pub record Reads (text : List ℕ) (r : Result Table RefusedAt) : Type 0 where
  pub status : status_numbers r ≡ checked (read text)
  pub table : IfOk r (λ t. t ≡ table_record (tasks_of (read text)))
