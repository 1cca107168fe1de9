-- What the customer asks of the writer, wish 4's sentences, of rings and gear tables, wish 5's, and of a job longer than its own deadline, wish 6's: for every
-- call of `write` and `read` that their promises allow, and for every text's reading, which these promise. `proofs/Demands` proves it.
use Rattle.std.specs.Prelude.{◌≡◌, ℕ, suc, ◌+◌, ◌-◌, ◌≤◌, ◌<◌, length, take, drop, Result, Ok, Err}
use Rattle.std.proofs.Math.Option.{some}
use mathlib.Core.List.{List, [], ◌∷◌, map, Memᴰ}
use Rattle.meaning.specs.Lists.{gather}
use Rattle.meaning.specs.Bounds.{most_tasks, most_vertices, most_edges, largest_m}
use Rattle.meaning.specs.Table as Meant
use Rattle.meaning.specs.Text.{unreadable, read}
use Rattle.meaning.specs.Slips.{LineRow, TooLong, Slip, frame_in, SlipRefused}
use Rattle.meaning.specs.Sound.{SoundVertex, AllSound, SoundTable}
use Rattle.meaning.specs.Writing.{frames_of_task, frames_of, text_of}
use Rattle.meaning.specs.Rings.{Plain, Expansion, Form, task_of, text_of_forms}
use Rattle.kinds.specs.declared.RefusedAt.{RefusedAt}
use Rattle.table.specs.declared.Table.{Table}
use Rattle.table.specs.Record.{table_record, table_held}
use Rattle.reader.specs.Record.{Reads}
use Rattle.writer.specs.Written.{Written, written_numbers, Writes}

-- ---- there and back

-- what the record of a table holds is that table
abbrev pub RecordHolds : Type 0
RecordHolds = (ts : Meant.Table) → table_held (table_record ts) ≡ ts

-- "Reading what was written gives the same tasks, masked lengths, vertices and edges": of the n bytes that were written; what stands behind them in the
-- area is no part of the text.
abbrev pub ReadBack : Type 0
ReadBack = (t : Table) (before : List ℕ) (n : ℕ) (after : List ℕ) (q : Result Table RefusedAt) → Writes t before (Ok n) after → Reads (take n after) q
    → (u : Table) × (q ≡ Ok u) × (table_held u ≡ table_held t)

-- "Writing what was read gives the same bytes", of a text without 05 to 07, in any area that has room for them; `short` below says what is where there is
-- none.
abbrev pub WrittenBack : Type 0
WrittenBack = (text : List ℕ) (t : Table) (before : List ℕ) (r : Written) (after : List ℕ) → Plain text → Reads text (Ok t)
    → length text ≤ length before → Writes t before r after → (r ≡ Ok (length text)) × (take (length text) after ≡ text)

-- "Two texts mean the same table only if they are equal", two without 05 to 07.
abbrev pub OneText : Type 0
OneText = (text other : List ℕ) (t u : Table) → Plain text → Plain other → Reads text (Ok t) → Reads other (Ok u)
    → table_held t ≡ table_held u → text ≡ other

-- ---- rings and gear tables

-- "Both are read as the plain task they stand for", beside plain tasks, if the tasks that they stand for are a table that keeps the rules
abbrev pub AsPlainTasks : Type 0
AsPlainTasks = (fs : List Form) (q : Result Table RefusedAt) → SoundTable (map task_of fs) → Reads (text_of_forms fs) q
    → (t : Table) × (q ≡ Ok t) × (table_held t ≡ map task_of fs)

-- and no other text is read: each that is has its tasks described in these ways
abbrev pub OnlyForms : Type 0
OnlyForms = (text : List ℕ) (t : Table) → Reads text (Ok t) → (fs : List Form) × (text ≡ text_of_forms fs) × (table_held t ≡ map task_of fs)

-- any table that was read is written in an area that has room for its plain text, which may be longer than the text that was read; and the same reading is
-- the reading of what was written
abbrev pub ReadAgain : Type 0
ReadAgain = (text : List ℕ) (t : Table) (before : List ℕ) (r : Written) (after : List ℕ) → Reads text (Ok t)
    → let n = length (text_of (table_held t)) in n ≤ length before → Writes t before r after → (r ≡ Ok n) × Reads (take n after) (Ok t)

-- ---- what is written, and what is refused

-- A call of `write` with a record that holds ts, an area that holds `before`, its answer, and what the area holds after it.
module _ (t : Table) (before : List ℕ) (r : Written) (after : List ℕ) where
  abbrev pub ts : Meant.Table
  ts = table_held t

  -- the answer has these numbers
  abbrev pub Gets : ℕ → ℕ → Type 0
  Gets k n = written_numbers r ≡ k ∷ n ∷ []

  -- as many frames stand before task i's own, so that its line is the next
  abbrev pub line_of : ℕ → ℕ
  line_of i = suc (length (gather frames_of_task (take i ts)))

  -- task i is there, is no ninth, and no task before it breaks a rule
  abbrev pub Reached : ℕ → Type 0
  Reached i = (i < t.n) × (i < most_tasks) × AllSound (take i ts)

  -- its counts and its m are within their bounds
  abbrev pub Allowed : ℕ → Type 0
  Allowed i =
      let k = Meant.task_at ts i in
      (1 ≤ length k.vertices) × (length k.vertices ≤ most_vertices) × (length k.edges ≤ most_edges) × (k.m ≤ largest_m)

  pub record WriteCall : Type 0 where
    -- a table that breaks no rule is written, and no other; "then 10 with the bytes needed"
    pub fits : SoundTable ts → length (text_of ts) ≤ length before → r ≡ Ok (length (text_of ts))
    pub short : SoundTable ts → length before < length (text_of ts) → Gets 10 (length (text_of ts))
    pub only_sound : (n : ℕ) → r ≡ Ok n → SoundTable ts
    -- "writes the frames", of which `frame_of_task` says "01 is written for m = 0, 04 otherwise"
    pub front : (n : ℕ) → r ≡ Ok n → take n after ≡ text_of ts
    -- "the writer never writes those", 05 to 07
    pub never_linked : (n : ℕ) → r ≡ Ok n → Plain (take n after)
    -- "A table that breaks a rule gets 2 to 5 with the line its frame would have", or wish 6's 13
    pub broken : (SoundTable ts → ⊥) → (k : ℕ) × (n : ℕ) × Gets k n × LineRow 2 5 k × (1 ≤ n) × (n ≤ length (frames_of ts))
    -- "first line first": what the reader says of these frames' lines; but for 1, which it says of a number that has no digits in them
    pub same_line : (k n : ℕ) → 2 ≤ k → read (text_of ts) ≡ unreadable k n → Gets k n
    -- "no task: 2, line 1; more than eight: 2, the ninth's line", if no task before it breaks a rule
    pub no_task : t.n ≡ 0 → Gets 2 1
    pub ninth : most_tasks < t.n → AllSound (take most_tasks ts) → Gets 2 (line_of most_tasks)
    -- counts that no task may have and m above 1,000 are 3 at the task's line, also where a byte can't hold them
    pub counts : (i : ℕ) → Reached i → (Allowed i → ⊥) → Gets 3 (line_of i)
    -- "Refuse it, [..] written: number 13, at the vertex's line, when e exceeds d, after 3, before 4 and before wish 3's test of m": vertex j of task i, if
    -- no line before its own breaks a rule
    pub slip : (i j : ℕ) → Reached i → Allowed i → let k = Meant.task_at ts i in let x = Meant.vertex_at k j in j < length k.vertices
        → ((y : Meant.Vertex) → Memᴰ y (take j k.vertices) → SoundVertex y) → TooLong x.e x.d → Gets 13 (line_of i + suc j)
    -- and no other frame gets it
    pub slip_only : (n : ℕ) → Gets 13 n → (f : List ℕ) × (frame_in some (frames_of ts) (n - 1) ≡ some f) × Slip f
    -- m above the largest e is 3 at the last vertex's line, after its own checks
    pub mask : (i : ℕ) → Reached i → Allowed i → let k = Meant.task_at ts i in ((x : Meant.Vertex) → Memᴰ x k.vertices → SoundVertex x)
        → Meant.largest_e_in k.vertices < k.m → Gets 3 (line_of i + length k.vertices)
    -- "A refusal changes nothing; else the rest of the area is unchanged."
    pub unchanged : (at : RefusedAt) → r ≡ Err at → after ≡ before
    pub rest : (n : ℕ) → r ≡ Ok n → (length after ≡ length before) × (drop n after ≡ drop n before)

abbrev pub WriteDemands : Type 0
WriteDemands = (t : Table) (before : List ℕ) (r : Written) (after : List ℕ) → Writes t before r after → WriteCall t before r after

-- the page
pub record Demands : Type 0 where
  pub record_holds : RecordHolds
  pub read_back : ReadBack
  pub written_back : WrittenBack
  pub one_text : OneText
  pub expansion : Expansion
  pub as_plain_tasks : AsPlainTasks
  pub only_forms : OnlyForms
  pub read_again : ReadAgain
  pub slips : SlipRefused
  pub calls : WriteDemands
