-- What a C host is told of a judging and of a writing: the answer's numbers, and every cell of the lent areas.
use Rattle.std.specs.Prelude.{◌≡◌, ℕ, ◌+◌, ◌*◌, List, length, get_or}
use Rattle.meaning.specs.Text.{read}
use Rattle.meaning.specs.Writing.{Writing, writable, unwritable, writing, area_after}
use Rattle.meaning.specs.Whole.{Counts, TableAnswer, counted, uncounted, table_answer, table_work_after}
use Rattle.kinds.specs.declared.Verdict.{Verdict}
use Rattle.kinds.specs.declared.Lateness.{Lateness}
use Rattle.kinds.specs.Numbers.{verdict_numbers, lateness_numbers}
use Rattle.cells.specs.Cells.{cells_table}
use Rattle.judge.specs.Judged.{Judged, LatestJudged}

-- ---- one vertex

-- a verdict as `judge` promises it, told as the desk's 0 to 3, its value and its place; a verdict without a place has 0 for it
pub record VertexTold (text : List ℕ) (i v b : ℕ) (work wit : List ℕ) (number value place : ℕ) (work' wit' : List ℕ) : Type 0 where
  pub verdict : Verdict
  pub judged : Judged text i v b work wit verdict work' wit'
  pub number_is : number ≡ get_or (verdict_numbers verdict) 0 0
  pub value_is : value ≡ get_or (verdict_numbers verdict) 1 0
  pub place_is : place ≡ get_or (verdict_numbers verdict) 2 0

-- an answer as `latest` promises it, told as its 0 to 3, its value, its place and its finish; an answer without one of these has 0 for it
pub record LatestTold (text : List ℕ) (i v b : ℕ) (work wit : List ℕ) (number value place finish : ℕ) (work' wit' : List ℕ) : Type 0 where
  pub late : Lateness
  pub judged : LatestJudged text i v b work wit late work' wit'
  pub number_is : number ≡ get_or (lateness_numbers late) 0 0
  pub value_is : value ≡ get_or (lateness_numbers late) 1 0
  pub place_is : place ≡ get_or (lateness_numbers late) 2 0
  pub finish_is : finish ≡ get_or (lateness_numbers late) 3 0

-- ---- a whole table

-- each count in a byte, those that meet highest
abbrev pub counts_number : Counts → ℕ
counts_number c = ((c.meeting * 256 + c.missing) * 256 + c.unfinishing) * 256 + c.refusing

-- the counts in the lower half of 64 bits; a refusal's number in the upper half and its line in the lower
abbrev pub table_number : TableAnswer → ℕ
table_number (counted c) = counts_number c
table_number (uncounted k n) = k * 4294967296 + n

-- a judging call on a text: budget b, and the work area before and after
pub record TableTold (text : List ℕ) (b : ℕ) (work : List ℕ) (r : ℕ) (work' : List ℕ) : Type 0 where
  pub number : r ≡ table_number (table_answer (read text) b (length work))
  pub cells : work' ≡ table_work_after (read text) b work

-- ---- a table as text

-- the bytes written in the lower half of 64 bits; a refusal's number in the upper half and what is returned with it in the lower
abbrev pub writing_number : Writing → ℕ
writing_number (writable text) = length text
writing_number (unwritable k n) = k * 4294967296 + n

-- a writing of the table that the cells hold: the area before and after
pub record WriteTold (cells before : List ℕ) (r : ℕ) (after : List ℕ) : Type 0 where
  pub number : r ≡ writing_number (writing (cells_table cells) (length before))
  pub area : after ≡ area_after (writing (cells_table cells) (length before)) before
