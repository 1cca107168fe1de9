-- What holds of every text: the rules that a readable one's table keeps, how long it is, and where a refusal of the others stands. `proofs/Readable`,
-- `proofs/LongestText` and `proofs/FaultyLine` prove it.
use Rattle.std.specs.Prelude.{◌≡◌, ℕ, suc, ◌+◌, ◌*◌, ◌≤◌, ◌<◌, List, map, length, take, eqb}
use Rattle.meaning.specs.Lists.{pick, sum}
use Rattle.meaning.specs.Bounds.{most_tasks, most_vertices, most_edges, largest_m, line_length}
use Rattle.meaning.specs.Table.{Task, Table}
use Rattle.meaning.specs.Text.{lines_of, readable, unreadable, read}
use Rattle.meaning.specs.Sound.{SoundTable}
use Rattle.meaning.specs.Writing.{text_of}
use Rattle.meaning.specs.Rings.{Plain}
use Rattle.meaning.specs.Slips.{LineRow}

-- ---- readable texts

abbrev pub ReadableSound : Type 0
ReadableSound = (text : List ℕ) (ts : Table) → read text ≡ readable ts → SoundTable ts

-- ---- the bytes of their lines

-- 01, vertices, edges; with a masked length 04, vertices, edges, m in 2 bytes
abbrev pub task_line : ℕ → ℕ
task_line m = pick (eqb m 0) (line_length 3) (line_length 5)

-- 02, e in 2 bytes, d in 2
abbrev pub vertex_line : ℕ
vertex_line = line_length 5

-- 03, from, to, p in 2 bytes
abbrev pub edge_line : ℕ
edge_line = line_length 5

-- 00
abbrev pub end_line : ℕ
end_line = line_length 1

-- a task's own line, its vertices' and its edges'
abbrev pub longest_task : ℕ
longest_task = task_line largest_m + most_vertices * vertex_line + most_edges * edge_line

abbrev pub longest_text : ℕ
longest_text = most_tasks * longest_task + end_line

-- the bytes of a task's lines: its own, its vertices' and its edges'
abbrev pub task_length : Task → ℕ
task_length k = task_line k.m + vertex_line * length k.vertices + edge_line * length k.edges

-- every task's lines, then the end frame's
abbrev pub text_length : Table → ℕ
text_length ts = sum (map task_length ts) + end_line

-- "The longest text is now 3,963 bytes." The text that is written for a table has the bytes of the table's lines, and so has every text without 05 to 07
-- that reads as it; a text with them has no more. No readable text has more than that number, and some text has so many.
pub record LongestText : Type 0 where
  pub number : longest_text ≡ 3963
  pub of_table : (ts : Table) → length (text_of ts) ≡ text_length ts
  pub exactly : (text : List ℕ) (ts : Table) → Plain text → read text ≡ readable ts → length text ≡ text_length ts
  pub at_most : (text : List ℕ) (ts : Table) → read text ≡ readable ts → length text ≤ text_length ts
  pub none_longer : (text : List ℕ) (ts : Table) → read text ≡ readable ts → length text ≤ longest_text
  pub reached : (text : List ℕ) × (ts : Table) × (read text ≡ readable ts) × (length text ≡ longest_text)

-- ---- refused texts

-- a whole task has at most so many lines: its own, its vertices' and its edges'
abbrev pub most_lines : ℕ
most_lines = 1 + most_vertices + most_edges

-- the last line that a refusal can name: eight whole tasks, the end frame, and the line after it
abbrev pub last_line : ℕ
last_line = most_tasks * most_lines + 2

-- A refusal of the text has a number from 1 to 7 or 13, and some text gets each of these; it has a line from 1 to that one, and some text is refused there.
pub record TextRefused : Type 0 where
  pub number : last_line ≡ 362
  pub within : (text : List ℕ) (k n : ℕ) → read text ≡ unreadable k n → LineRow 1 7 k × (1 ≤ n) × (n ≤ last_line)
  pub each : (k : ℕ) → LineRow 1 7 k → (text : List ℕ) × (n : ℕ) × (read text ≡ unreadable k n)
  pub reached : (text : List ℕ) × (k : ℕ) × (read text ≡ unreadable k last_line)

-- "Lines are read from the first, and the first faulty line decides": the lines behind the one that a refusal names play no part. Cut after any line
-- before it, the text lacks only its end, so no line before it is faulty; not so for 7, where the end frame was read.
pub record FirstFaulty : Type 0 where
  pub behind : (text other : List ℕ) (k n : ℕ) → read text ≡ unreadable k n → take n (lines_of other) ≡ take n (lines_of text) → read other ≡ unreadable k n
  pub before : (text other : List ℕ) (k n j : ℕ) → read text ≡ unreadable k n → (k ≡ 7 → ⊥) → j < n → lines_of other ≡ take j (lines_of text)
      → read other ≡ unreadable 6 (suc j)
