-- What the judge says of a whole table, and what the writer says, in the number that a C host is told.
use mathlib.Core.Path.{◌≡◌, ap, ◌∙◌}
use Prim.Native.Nat.{ℕ, ◌+◌, ◌*◌}
use native.Mathlib.Omega.{arith}
use mathlib.Core.List.{List}
use lib.ListN.{length, get_or}
use Rattle.std.specs.Prelude.{Result}
use Rattle.meaning.specs.Writing.{Writing, writable, unwritable, writing, writing_numbers}
use Rattle.kinds.specs.declared.RefusedAt.{RefusedAt}
use Rattle.counts.specs.declared.Counts.{Counts}
use Rattle.writer.specs.Written.{written_numbers}
use Rattle.cells.specs.Cells.{cells_table}
use Rattle.cells.specs.Inner.{CellsWritten}
use Rattle.judge.specs.Whole.{answer_of, TableJudged}
use Rattle.host.specs.Told.{table_number, TableTold, writing_number, WriteTold}

pub table_told : {text : List ℕ} {b : ℕ} {work work' : List ℕ} {r : Result Counts RefusedAt} → TableJudged text b work r work'
    → {n : ℕ} → n ≡ table_number (answer_of r) → TableTold text b work n work'
table_told j p = record { number = p ∙ ap table_number j.verdict; cells = j.cells }

-- two numbers in one: an answer that is written has 0 for the first
abbrev packed : List ℕ → ℕ
packed l = get_or l 0 0 * 4294967296 + get_or l 1 0

writing-packed : (w : Writing) → packed (writing_numbers w) ≡ writing_number w
writing-packed (writable text) = omega arith
writing-packed (unwritable k n) = omega arith

pub write_told : {cells before after : List ℕ} {r : Result ℕ RefusedAt} → CellsWritten cells before r after
    → {n : ℕ} → n ≡ packed (written_numbers r) → WriteTold cells before n after
write_told {cells} {before} w p =
    record { number = p ∙ ap packed w.answer ∙ writing-packed (writing (cells_table cells) (length before)); area = w.area }
