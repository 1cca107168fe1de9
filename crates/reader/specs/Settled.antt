-- A text has one reading, and what a C host is told of it can be taken apart again: `proofs/Result` and `proofs/Check` prove it.
use Rattle.std.specs.Prelude.{◌≡◌, ℕ, ◌/◌, ◌%◌, ◌≤◌, List, Result}
use Rattle.meaning.specs.Text.{Reading, readable, unreadable, read, packed}
use Rattle.kinds.specs.declared.RefusedAt.{RefusedAt}
use Rattle.table.specs.declared.Table.{Table}
use Rattle.reader.specs.Record.{Reads}

-- number and line, both 0 for a readable text alone
abbrev pub NumberAndLine : Reading → ℕ → Type 0
NumberAndLine (readable ts) r = (r / 65536 ≡ 0) × (r % 65536 ≡ 0)
NumberAndLine (unreadable k n) r = (1 ≤ k) × (r / 65536 ≡ k) × (r % 65536 ≡ n)

-- The refusal's number and its line can be taken out of the text check's number again.
abbrev pub CheckUnpacked : Type 0
CheckUnpacked = (text : List ℕ) (r : ℕ) → r ≡ packed (read text) → NumberAndLine (read text) r

-- Two results that satisfy the statement of `read` coincide, in the refusal and in every cell of the table.
abbrev pub ReadSettled : Type 0
ReadSettled = (text : List ℕ) (r s : Result Table RefusedAt) → Reads text r → Reads text s → r ≡ s
