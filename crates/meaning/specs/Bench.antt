-- The bench examples R1 to R8, tables of which the latest finish is asked, masked lengths, tables that are written, rings and gear tables, jobs longer than
-- their own deadlines, and slower cradles, as one table under one claim; `proofs/Bench` proves it.
use Rattle.std.specs.Prelude.{ℕ, ◌-◌, ◌*◌, Bool, true, false, ◌&&◌, List, [], ◌∷◌, ◌++◌, replicate, take, T, eqb}
use Prim.Native.Char.{code}
use Prim.Native.String.{String, [] as []ˢ, ◌∷◌ as ◌∷ˢ◌}
use Rattle.meaning.specs.Lists.{all, gather}
use Rattle.meaning.specs.Bounds.{desk_budget, desk_work, desk_witness}
use Rattle.meaning.specs.Table.{Task, Table, vertex, edge, task}
use Rattle.meaning.specs.Paths.{complete_paths}
use Rattle.meaning.specs.Groups.{P}
use Rattle.meaning.specs.Verdict.{Verdict, numbers, cells_of, miss_paths, late_numbers, shown_paths, plain, latest, top_at, worst_at, latest_paths}
use Rattle.meaning.specs.Text.{line, read, tasks_of, checked}
use Rattle.meaning.specs.Judge.{judged}
use Rattle.meaning.specs.Desk.{path_frame, output}
use Rattle.meaning.specs.Writing.{text_of, writing, writing_numbers, front_of}

-- ---- what the definitions give, beside what the document says, or its rules by hand

pub record Example : Type 0 where
  pub got : List ℕ
  pub said : List ℕ

infix 20 ◌gives◌
abbrev pub ◌gives◌ : List ℕ → List ℕ → Example
g gives s = record { got = g; said = s }

abbrev pub same : List ℕ → List ℕ → Bool
same [] [] = true
same [] (y ∷ ys) = false
same (x ∷ xs) [] = false
same (x ∷ xs) (y ∷ ys) = eqb x y && same xs ys

abbrev pub right : Example → Bool
right x = same x.got x.said

-- ---- tables

abbrev pub self_edge : ℕ → ℕ → ℕ → Task
self_edge e d p = task 0 (vertex e d ∷ []) (edge 0 0 p ∷ [])

abbrev pub lone : ℕ → ℕ → Task
lone e d = task 0 (vertex e d ∷ []) []

-- the same with a masked length m
abbrev pub masking : ℕ → ℕ → ℕ → Task
masking m e d = task m (vertex e d ∷ []) []

abbrev pub r1 : Table
r1 = self_edge 2 5 5 ∷ self_edge 2 7 7 ∷ self_edge 2 6 7 ∷ []

-- R1 with the last e = 1
abbrev pub r2 : Table
r2 = self_edge 2 5 5 ∷ self_edge 2 7 7 ∷ self_edge 1 6 7 ∷ []

-- above, two vertices e 1 and e 3, no edges; judged e 2
abbrev pub r5 : ℕ → Table
r5 d = task 0 (vertex 1 5 ∷ vertex 3 5 ∷ []) [] ∷ lone 2 d ∷ []

abbrev pub r7above : Task
r7above = task 0 (vertex 3 10 ∷ vertex 1 2 ∷ vertex 4 10 ∷ []) (edge 1 2 2 ∷ [])

abbrev pub r7 : Table
r7 = r7above ∷ lone 1 5 ∷ []

-- ---- what is compared

-- a quoted text's bytes
abbrev pub bytes : String → List ℕ
bytes []ˢ = []
bytes (c ∷ˢ s) = code c ∷ bytes s

abbrev pub r1_in : String
r1_in = "010101\n0200020005\n0300000005\n010101\n0200020007\n0300000007\n010101\n0200020006\n0300000007\n00\n"

abbrev pub r1_out : String
r1_out = "1000000000000001\n1001000000000001\n1002000100000001\n120000020000\n1201000100\n1f02010000\n"

-- R2's frames, without the end
abbrev pub r2_frames : String
r2_frames = "010101\n0200020005\n0300000005\n010101\n0200020007\n0300000007\n010101\n0200010006\n0300000007\n"

-- one vertex e 1 d 100, m 1; and the same with m 0
abbrev pub mask_frames : String
mask_frames = "0401000001\n0200010064\n"

abbrev pub unmasked_frames : String
unmasked_frames = "010100\n0200010064\n"

-- what the desk writes for frames, and what the text check says of them
abbrev pub desk_of : List ℕ → List ℕ
desk_of frames = output (frames ++ bytes "00\n")

abbrev pub check_of : String → List ℕ
check_of text = checked (read (bytes text))

-- the desk's output, where R2's vertex misses: with a task below it, and with one above it
abbrev pub miss_below : String
miss_below = "1000000000000001\n1001000000000001\n1002000100000001\n120000020000\n1201000100\n1003000000000001\n1f03010000\n"

abbrev pub miss_above : String
miss_above = "1000000000000001\n1001000000000001\n1002000000000001\n1003000100000001\n1200000100\n120100020000\n1202000100\n1f03010000\n"

-- each path with its length before it
abbrev pub path_list : Task → ℕ → List ℕ
path_list k horizon = cells_of (complete_paths k horizon)

-- the verdict in numbers, then a miss's cells
abbrev pub shown : Verdict → List ℕ
shown x = numbers x ++ cells_of (miss_paths x)

-- the first vertex of task i, with budget b and the desk's areas
abbrev pub judged_with : ℕ → Table → ℕ → List ℕ
judged_with b ts i = shown (judged plain ts i 0 b desk_work desk_witness)

-- where the latest finish is asked for: the answer in numbers, then the cells written
abbrev pub late_with : ℕ → Table → ℕ → List ℕ
late_with b ts i =
    let x = judged latest ts i 0 b desk_work desk_witness in
    late_numbers (worst_at ts i 0) (latest_paths ts i 0) x ++ cells_of (shown_paths (latest_paths ts i 0) x)

-- a table that is written into an area of so many bytes: the answer in numbers, then the bytes written
abbrev pub written_into : ℕ → Table → List ℕ
written_into room ts = let w = writing ts room in writing_numbers w ++ front_of w

-- a text so many times over
abbrev pub times : ℕ → String → List ℕ
times n text = gather bytes (replicate n text)

-- the text of the table that a text means
abbrev pub plain_of : String → List ℕ
plain_of text = text_of (tasks_of (read (bytes text)))

-- four tasks of two lines each
abbrev pub four_tasks : Table
four_tasks = replicate 4 (lone 1 1)

-- above, four vertices of these e, no edges; judged e 2, d 6
abbrev pub below : ℕ → ℕ → ℕ → ℕ → Table
below a b c d = task 0 (vertex a 5 ∷ vertex b 5 ∷ vertex c 5 ∷ vertex d 5 ∷ []) [] ∷ lone 2 6 ∷ []

-- above, two tasks of two such vertices each; judged e 1, d 6
abbrev pub below_two : ℕ → ℕ → ℕ → ℕ → Table
below_two a b c d = task 0 (vertex a 5 ∷ vertex b 5 ∷ []) [] ∷ task 0 (vertex c 5 ∷ vertex d 5 ∷ []) [] ∷ lone 1 6 ∷ []

abbrev pub examples : List Example
examples =
    -- R1
    (output (bytes r1_in) gives (bytes r1_out))
    -- R2: meets, C = 1
    ∷ (judged_with desk_budget r2 2 gives (0 ∷ 1 ∷ []))
    -- R3: horizon 5 has path (0), horizon 6 has (0,0)
    ∷ (path_list (self_edge 2 5 5) 5 gives (1 ∷ 0 ∷ []))
    ∷ (path_list (self_edge 2 5 5) 6 gives (2 ∷ 0 ∷ 0 ∷ []))
    -- R4: refusal 13, line 2, read or written
    ∷ (desk_of (bytes "010100\n0200030002\n") gives (bytes "1e0d0002\n"))
    ∷ (written_into 99 (lone 3 2 ∷ []) gives (13 ∷ 2 ∷ []))
    -- R5: meets, C = 1
    ∷ (judged_with desk_budget (r5 5) 1 gives (0 ∷ 1 ∷ []))
    -- R6: misses, C = 3, path (1)
    ∷ (judged_with desk_budget (r5 4) 1 gives (1 ∷ 3 ∷ 2 ∷ 1 ∷ 1 ∷ []))
    -- R7: paths (0), (1,2), (2); meets, C = 5 = 2P - 1
    ∷ (path_list r7above 5 gives (1 ∷ 0 ∷ 2 ∷ 1 ∷ 2 ∷ 1 ∷ 2 ∷ []))
    ∷ (judged_with desk_budget r7 1 gives (0 ∷ 5 ∷ []))
    ∷ (((2 * P (top_at r7 1 0) - 1) ∷ []) gives (5 ∷ []))
    -- R8: budgets 0, 4, 5, 6
    ∷ (judged_with 0 r7 1 gives (2 ∷ 0 ∷ []))
    ∷ (judged_with 4 r7 1 gives (2 ∷ 4 ∷ []))
    ∷ (judged_with 5 r7 1 gives (0 ∷ 5 ∷ []))
    ∷ (judged_with 6 r7 1 gives (0 ∷ 5 ∷ []))
    -- how late is the latest. R2: C = 1, tick 5, paths (0,0) and (0)
    ∷ (late_with desk_budget r2 2 gives (0 ∷ 1 ∷ 5 ∷ 5 ∷ 2 ∷ 0 ∷ 0 ∷ 1 ∷ 0 ∷ []))
    -- nothing above: e itself, no cells
    ∷ (late_with desk_budget (lone 2 5 ∷ []) 0 gives (0 ∷ 1 ∷ 0 ∷ 2 ∷ []))
    -- R5: (0) finishes at 3, (1) at 5; R6 misses as before, with this C
    ∷ (late_with desk_budget (r5 5) 1 gives (0 ∷ 3 ∷ 2 ∷ 5 ∷ 1 ∷ 1 ∷ []))
    ∷ (late_with desk_budget (r5 4) 1 gives (1 ∷ 3 ∷ 2 ∷ 1 ∷ 1 ∷ []))
    -- R7: finishes 4, 2 and 5, and a budget below C
    ∷ (late_with desk_budget r7 1 gives (0 ∷ 5 ∷ 2 ∷ 5 ∷ 1 ∷ 2 ∷ []))
    ∷ (late_with 4 r7 1 gives (2 ∷ 4 ∷ []))
    -- the first path finishes at 6, and the second half of the range at 3: it is passed over
    ∷ (judged_with desk_budget (below 4 1 1 1) 1 gives (0 ∷ 1 ∷ []))
    ∷ (late_with 4 (below 4 1 1 1) 1 gives (2 ∷ 4 ∷ []))
    ∷ (late_with 5 (below 4 1 1 1) 1 gives (0 ∷ 5 ∷ 2 ∷ 6 ∷ 1 ∷ 0 ∷ []))
    -- so it is when it finishes no earlier and no later, and the first choice stays
    ∷ (late_with 5 (below 1 1 1 1) 1 gives (0 ∷ 5 ∷ 2 ∷ 3 ∷ 1 ∷ 0 ∷ []))
    -- a tick later it isn't, and the last choice is the latest
    ∷ (late_with desk_budget (below 1 1 1 2) 1 gives (0 ∷ 7 ∷ 2 ∷ 4 ∷ 1 ∷ 3 ∷ []))
    -- two tasks above: (0) and (1) finish at 5, and the second half of the first task's range at 4
    ∷ (late_with desk_budget (below_two 2 1 1 2) 2 gives (0 ∷ 5 ∷ 4 ∷ 5 ∷ 1 ∷ 0 ∷ 1 ∷ 1 ∷ []))
    -- a miss, with the old witness and this call's C: document 01's walk doesn't go into the first half of the range
    ∷ (judged_with desk_budget (below 1 1 5 1) 1 gives (1 ∷ 4 ∷ 2 ∷ 1 ∷ 2 ∷ []))
    ∷ (late_with desk_budget (below 1 1 5 1) 1 gives (1 ∷ 6 ∷ 2 ∷ 1 ∷ 2 ∷ []))
    -- masked lengths. R2 with m 1 below it: tick 5 has 2 + 2 + 2, tick 6 has 2 + 4 + 2; C = 1, paths (0,0) and (0)
    ∷ (desk_of (bytes r2_frames ++ bytes mask_frames) gives (bytes miss_below))
    ∷ (late_with desk_budget (r2 ++ (masking 1 1 100 ∷ [])) 2 gives (1 ∷ 1 ∷ 5 ∷ 2 ∷ 0 ∷ 0 ∷ 1 ∷ 0 ∷ []))
    -- above it instead, its m plays no part: the answer is the one with frame 01. R2's vertex misses by the new task's e; the one above it would too, if
    -- the m of a higher task counted
    ∷ (desk_of (bytes mask_frames ++ bytes r2_frames) gives (bytes miss_above))
    ∷ (desk_of (bytes unmasked_frames ++ bytes r2_frames) gives (bytes miss_above))
    -- R7 with m 1 below it: path (0) leaves tick 5 free, 2 + 3; path (1,2) none, 2 + 1 up to tick 2 and 2 + 5 from there on, so it is the witness; C = 4
    ∷ (judged_with desk_budget (r7 ++ (masking 1 1 100 ∷ [])) 1 gives (1 ∷ 4 ∷ 3 ∷ 2 ∷ 1 ∷ 2 ∷ []))
    ∷ (judged_with 3 (r7 ++ (masking 1 1 100 ∷ [])) 1 gives (2 ∷ 3 ∷ []))
    -- the largest m of the lower tasks, 3, the first's or the second's: 2 + 3. Of a task its own plays no part: e 3, m 2 below, and 2 above
    ∷ (late_with desk_budget (lone 2 9 ∷ masking 3 3 9 ∷ masking 2 2 9 ∷ []) 0 gives (0 ∷ 1 ∷ 0 ∷ 5 ∷ []))
    ∷ (late_with desk_budget (lone 2 9 ∷ masking 2 2 9 ∷ masking 3 3 9 ∷ []) 0 gives (0 ∷ 1 ∷ 0 ∷ 5 ∷ []))
    ∷ (late_with desk_budget (lone 2 9 ∷ masking 3 3 9 ∷ masking 2 2 9 ∷ []) 1 gives (0 ∷ 1 ∷ 2 ∷ 7 ∷ 1 ∷ 0 ∷ []))
    -- 04 with 0, with 1,001, and with an m above, at and one above the largest e
    ∷ (check_of "0401000000\n0200010009\n00\n" gives (3 ∷ 1 ∷ []))
    ∷ (check_of "04010003e9\n0203e80009\n00\n" gives (3 ∷ 1 ∷ []))
    ∷ (check_of "04010003e8\n0200c800c8\n00\n" gives (3 ∷ 2 ∷ []))
    ∷ (check_of "04010000c8\n0200c800c8\n00\n" gives (0 ∷ 0 ∷ []))
    ∷ (check_of "04010000c9\n0200c800c8\n00\n" gives (3 ∷ 2 ∷ []))
    -- m 5 is the largest e, in the last vertex or the first; one less, and the last vertex's line is refused, before a faulty edge's
    ∷ (check_of "0402000005\n0200040009\n0200050009\n00\n" gives (0 ∷ 0 ∷ []))
    ∷ (check_of "0402000005\n0200050009\n0200040009\n00\n" gives (0 ∷ 0 ∷ []))
    ∷ (check_of "0402010005\n0200040009\n0200040009\n0302000009\n00\n" gives (3 ∷ 3 ∷ []))
    -- 04 of another length, and where a vertex or an edge must come
    ∷ (check_of "040100\n0200010009\n00\n" gives (2 ∷ 1 ∷ []))
    ∷ (check_of "010100\n0401000001\n00\n" gives (2 ∷ 2 ∷ []))
    ∷ (check_of "010101\n0200010001\n0401000001\n00\n" gives (2 ∷ 3 ∷ []))
    -- written: R1 into an area of its 90 bytes, of more, and of one less
    ∷ (written_into 90 r1 gives (0 ∷ 90 ∷ bytes r1_in))
    ∷ (written_into 1000 r1 gives (0 ∷ 90 ∷ bytes r1_in))
    ∷ (written_into 89 r1 gives (10 ∷ 90 ∷ []))
    -- 01 for m = 0, 04 otherwise, with m up to the largest e; numbers with the high byte first
    ∷ (written_into 99 (lone 5 9 ∷ []) gives (0 ∷ 21 ∷ bytes "010100\n0200050009\n00\n"))
    ∷ (written_into 99 (masking 5 5 9 ∷ []) gives (0 ∷ 25 ∷ bytes "0401000005\n0200050009\n00\n"))
    ∷ (written_into 99 (self_edge 200 200 1000 ∷ []) gives (0 ∷ 32 ∷ bytes "010101\n0200c800c8\n03000003e8\n00\n"))
    -- no task; nine of them, two lines each; nine of which the fifth breaks a rule; each before 10
    ∷ (written_into 0 [] gives (2 ∷ 1 ∷ []))
    ∷ (written_into 0 (four_tasks ++ four_tasks ++ (lone 0 0 ∷ [])) gives (2 ∷ 17 ∷ []))
    ∷ (written_into 0 (four_tasks ++ (lone 0 1 ∷ []) ++ four_tasks) gives (3 ∷ 10 ∷ []))
    -- counts that a task may not have, at its line, also where a byte can't hold them; so m 1,001; m above the largest e at the last vertex's line
    ∷ (written_into 0 (task 0 [] [] ∷ []) gives (3 ∷ 1 ∷ []))
    ∷ (written_into 0 (task 0 (replicate 13 (vertex 1 1)) [] ∷ []) gives (3 ∷ 1 ∷ []))
    ∷ (written_into 0 (task 0 (replicate 300 (vertex 1 1)) [] ∷ []) gives (3 ∷ 1 ∷ []))
    ∷ (written_into 0 (task 0 (vertex 1 1 ∷ []) (replicate 33 (edge 0 0 1)) ∷ []) gives (3 ∷ 1 ∷ []))
    ∷ (written_into 0 (masking 1001 1000 9 ∷ []) gives (3 ∷ 1 ∷ []))
    ∷ (written_into 0 (task 6 (vertex 5 9 ∷ vertex 4 9 ∷ []) [] ∷ []) gives (3 ∷ 3 ∷ []))
    -- a number that two bytes can't hold
    ∷ (written_into 0 (lone 65537 1 ∷ []) gives (3 ∷ 2 ∷ []))
    -- edges: 3 before 4 before 5
    ∷ (written_into 0 (task 0 (vertex 1 5 ∷ []) (edge 0 1 1 ∷ []) ∷ []) gives (3 ∷ 3 ∷ []))
    ∷ (written_into 0 (task 0 (vertex 1 5 ∷ []) (edge 0 0 5 ∷ edge 0 0 4 ∷ []) ∷ []) gives (4 ∷ 4 ∷ []))
    ∷ (written_into 0 (task 0 (vertex 1 5 ∷ []) (edge 0 0 5 ∷ edge 0 0 5 ∷ []) ∷ []) gives (5 ∷ 4 ∷ []))
    -- a ring: 0 leads to 1, 1 to 2, 2 to 0, each with its own p; a gear table: each to itself; of one vertex both are the same
    ∷ (plain_of "0503\n06000100050009\n0600020006000a\n0600030007000b\n00\n"
    gives (bytes "010303\n0200010005\n0200020006\n0200030007\n0300010009\n030102000a\n030200000b\n00\n"))
    ∷ (plain_of "0702\n06000100050009\n0600020006000a\n00\n" gives (bytes "010202\n0200010005\n0200020006\n0300000009\n030101000a\n00\n"))
    ∷ (plain_of "0501\n06000100050009\n0701\n06000100050009\n00\n"
    gives (bytes "010101\n0200010005\n0300000009\n010101\n0200010005\n0300000009\n00\n"))
    -- m = 0, also behind a task with another
    ∷ (plain_of "0401000005\n0200050009\n0501\n06000100010001\n00\n" gives (bytes "0401000005\n0200050009\n010101\n0200010001\n0300000001\n00\n"))
    -- counts that a task may have, and may not
    ∷ (check_of "0500\n00\n" gives (3 ∷ 1 ∷ []))
    ∷ (check_of "050d\n00\n" gives (3 ∷ 1 ∷ []))
    ∷ (check_of "0700\n00\n" gives (3 ∷ 1 ∷ []))
    ∷ (check_of "070d\n00\n" gives (3 ∷ 1 ∷ []))
    ∷ (checked (read (bytes "050c\n" ++ times 12 "06000100010001\n" ++ bytes "00\n")) gives (0 ∷ 0 ∷ []))
    -- they count among the eight tasks: a ninth is 2, whatever its count
    ∷ (checked (read (times 8 "0501\n06000100010001\n" ++ bytes "00\n")) gives (0 ∷ 0 ∷ []))
    ∷ (checked (read (times 8 "0701\n06000100010001\n" ++ bytes "0500\n")) gives (2 ∷ 17 ∷ []))
    -- at the 06's own line: e, d and p out of bounds
    ∷ (check_of "0701\n06000000090001\n00\n" gives (3 ∷ 2 ∷ []))
    ∷ (check_of "0501\n0603e900010001\n00\n" gives (3 ∷ 2 ∷ []))
    ∷ (check_of "0501\n06000100000001\n00\n" gives (3 ∷ 2 ∷ []))
    ∷ (check_of "0701\n06000103e903e8\n00\n" gives (3 ∷ 2 ∷ []))
    ∷ (check_of "0501\n06000100010000\n00\n" gives (3 ∷ 2 ∷ []))
    ∷ (check_of "0701\n0600010001ea61\n00\n" gives (3 ∷ 2 ∷ []))
    ∷ (check_of "0501\n0603e803e8ea60\n00\n" gives (0 ∷ 0 ∷ []))
    -- then d above p: its own p, not the next one's
    ∷ (check_of "0502\n06000100050004\n06000100030009\n00\n" gives (4 ∷ 2 ∷ []))
    ∷ (check_of "0502\n06000100050005\n06000100030003\n00\n" gives (0 ∷ 0 ∷ []))
    -- a 02, the end or another task inside; a 03 or one 06 more behind
    ∷ (check_of "0501\n0200010001\n00\n" gives (2 ∷ 2 ∷ []))
    ∷ (check_of "0702\n06000100010001\n00\n" gives (2 ∷ 3 ∷ []))
    ∷ (check_of "0502\n06000100010001\n0701\n00\n" gives (2 ∷ 3 ∷ []))
    ∷ (check_of "0501\n06000100010001\n0300000001\n00\n" gives (2 ∷ 3 ∷ []))
    ∷ (check_of "0701\n06000100010001\n06000100010001\n00\n" gives (2 ∷ 3 ∷ []))
    -- a 06 where a task, a vertex or an edge must come; a 05 where a vertex must
    ∷ (check_of "06000100010001\n00\n" gives (2 ∷ 1 ∷ []))
    ∷ (check_of "010100\n06000100010001\n00\n" gives (2 ∷ 2 ∷ []))
    ∷ (check_of "010101\n0200010001\n06000100010001\n00\n" gives (2 ∷ 3 ∷ []))
    ∷ (check_of "010100\n0501\n00\n" gives (2 ∷ 2 ∷ []))
    -- other lengths
    ∷ (check_of "050101\n06000100010001\n00\n" gives (2 ∷ 1 ∷ []))
    ∷ (check_of "070101\n06000100010001\n00\n" gives (2 ∷ 1 ∷ []))
    ∷ (check_of "05\n06000100010001\n00\n" gives (2 ∷ 1 ∷ []))
    ∷ (check_of "0501\n060001000101\n00\n" gives (2 ∷ 2 ∷ []))
    ∷ (check_of "0501\n0600010001000100\n00\n" gives (2 ∷ 2 ∷ []))
    -- a text that ends inside, and bytes behind the end
    ∷ (check_of "0502\n06000100010001\n" gives (6 ∷ 3 ∷ []))
    ∷ (check_of "0701\n06000100010001\n00\n00\n" gives (7 ∷ 4 ∷ []))
    -- a job as long as its own deadline, and one longer; e 1,000 is in its bounds, 1,001 isn't, and 3 comes before 13
    ∷ (check_of "010100\n0200050005\n00\n" gives (0 ∷ 0 ∷ []))
    ∷ (check_of "010100\n0200060005\n00\n" gives (13 ∷ 2 ∷ []))
    ∷ (check_of "010100\n0200c900c8\n00\n" gives (13 ∷ 2 ∷ []))
    ∷ (check_of "010100\n02010000c8\n00\n" gives (13 ∷ 2 ∷ []))
    ∷ (check_of "010100\n0203e800c8\n00\n" gives (13 ∷ 2 ∷ []))
    ∷ (check_of "010100\n0203e900c8\n00\n" gives (3 ∷ 2 ∷ []))
    ∷ (check_of "010100\n0200010000\n00\n" gives (3 ∷ 2 ∷ []))
    ∷ (check_of "010100\n0203ea03e9\n00\n" gives (3 ∷ 2 ∷ []))
    ∷ (written_into 0 (lone 5 5 ∷ []) gives (10 ∷ 21 ∷ []))
    ∷ (written_into 0 (lone 1000 200 ∷ []) gives (13 ∷ 2 ∷ []))
    ∷ (written_into 0 (lone 1001 200 ∷ []) gives (3 ∷ 2 ∷ []))
    -- so do 1 and 2, in a plain task, in a ring and where no vertex may stand; behind the end it is 7
    ∷ (check_of "010100\n0200060005" gives (1 ∷ 2 ∷ []))
    ∷ (check_of "010100\n02000600050\n00\n" gives (1 ∷ 2 ∷ []))
    ∷ (check_of "010100\n020006000500\n00\n" gives (2 ∷ 2 ∷ []))
    ∷ (check_of "010100\n06000600050005\n00\n" gives (2 ∷ 2 ∷ []))
    ∷ (check_of "0501\n0200060005\n00\n" gives (2 ∷ 2 ∷ []))
    ∷ (check_of "0200060005\n00\n" gives (2 ∷ 1 ∷ []))
    ∷ (check_of "010101\n0200010001\n0200060005\n00\n" gives (2 ∷ 3 ∷ []))
    ∷ (check_of "010100\n0200010001\n00\n0200060005\n" gives (7 ∷ 4 ∷ []))
    -- 13 comes before the test of m in the last vertex's line, and before what is wrong in a later line; behind what is wrong in an earlier one, and behind a
    -- ninth task's 2
    ∷ (check_of "0402000007\n0200040005\n0200060005\n00\n" gives (13 ∷ 3 ∷ []))
    ∷ (check_of "010201\n0200060005\n0200000005\n0300000004\n00\n" gives (13 ∷ 2 ∷ []))
    ∷ (written_into 0 (task 7 (vertex 4 5 ∷ vertex 6 5 ∷ []) [] ∷ []) gives (13 ∷ 3 ∷ []))
    ∷ (written_into 0 (task 0 (vertex 6 5 ∷ vertex 0 5 ∷ []) (edge 0 0 4 ∷ []) ∷ []) gives (13 ∷ 2 ∷ []))
    ∷ (check_of "0401000002\n0200010001\n010100\n0200060005\n00\n" gives (3 ∷ 2 ∷ []))
    ∷ (written_into 0 (four_tasks ++ (lone 2 1 ∷ []) ++ four_tasks) gives (13 ∷ 10 ∷ []))
    ∷ (written_into 0 (four_tasks ++ four_tasks ++ (lone 2 1 ∷ [])) gives (2 ∷ 17 ∷ []))
    -- in a 06 line 3, also of p, then 13, then 4
    ∷ (check_of "0501\n06000500050005\n00\n" gives (0 ∷ 0 ∷ []))
    ∷ (check_of "0501\n06000600050009\n00\n" gives (13 ∷ 2 ∷ []))
    ∷ (check_of "0701\n06000600050000\n00\n" gives (3 ∷ 2 ∷ []))
    ∷ (check_of "0501\n0600060005ea61\n00\n" gives (3 ∷ 2 ∷ []))
    ∷ (check_of "0702\n06000500050005\n06000600050004\n00\n" gives (13 ∷ 3 ∷ []))
    ∷ (check_of "0502\n06000600050005\n06000200020001\n00\n" gives (13 ∷ 2 ∷ []))
    ∷ (check_of "0502\n06000200020001\n06000600050005\n00\n" gives (4 ∷ 2 ∷ []))
    -- "Masked time isn't counted here": 2 + 1 ticks exceed the deadline of 2, and the job misses with nothing above it. Its own task's masked time doesn't count
    ∷ (desk_of (bytes "010100\n0200020002\n0401000001\n0200010009\n") gives (bytes "1000000100000001\n1001000000000001\n1f01010000\n"))
    ∷ (late_with desk_budget (lone 2 2 ∷ masking 1 1 9 ∷ []) 0 gives (1 ∷ 1 ∷ 0 ∷ []))
    ∷ (written_into 0 (lone 2 2 ∷ masking 1 1 9 ∷ []) gives (10 ∷ 43 ∷ []))
    ∷ (desk_of (bytes "0401000002\n0200020002\n") gives (bytes "1000000000000001\n1f01000000\n"))
    -- slower cradles: d up to 1,000 and p up to 60,000, read and written; e and m keep their bounds
    ∷ (check_of "010101\n0203e803e8\n030000ea60\n00\n" gives (0 ∷ 0 ∷ []))
    ∷ (check_of "010100\n02000103e9\n00\n" gives (3 ∷ 2 ∷ []))
    ∷ (check_of "010101\n0200010001\n030000ea61\n00\n" gives (3 ∷ 3 ∷ []))
    ∷ (check_of "04010003e8\n0203e803e8\n00\n" gives (0 ∷ 0 ∷ []))
    ∷ (check_of "04010003e8\n0203e703e8\n00\n" gives (3 ∷ 2 ∷ []))
    ∷ (written_into 99 (self_edge 1000 1000 60000 ∷ []) gives (0 ∷ 32 ∷ bytes "010101\n0203e803e8\n030000ea60\n00\n"))
    ∷ (written_into 0 (lone 1 1001 ∷ []) gives (3 ∷ 2 ∷ []))
    ∷ (written_into 0 (self_edge 1 1 60001 ∷ []) gives (3 ∷ 3 ∷ []))
    ∷ (check_of "010101\n0203e803e8\n03000003e7\n00\n" gives (4 ∷ 3 ∷ []))
    -- a byte of p that is no digit
    ∷ (check_of "010101\n0200010001\n030000ea6g\n00\n" gives (1 ∷ 3 ∷ []))
    ∷ (check_of "010101\n0200010001\n030000Ea60\n00\n" gives (1 ∷ 3 ∷ []))
    -- paths of 1,000 vertices and of one, with p 1 and 60,000; a length that takes two bytes
    ∷ (path_list (self_edge 1 1 1) 1000 gives (1000 ∷ replicate 1000 0))
    ∷ (path_list (self_edge 1 1 60000) 1000 gives (1 ∷ 0 ∷ []))
    ∷ (take 10 (line (path_frame 3 (replicate 258 0))) gives (bytes "1203010200"))
    -- finishes and misses late in a long deadline: four releases of 249 ticks and 4 of its own work are 1,000, with 5 or with releases of 250 too many
    ∷ (late_with desk_budget (self_edge 249 250 250 ∷ lone 4 1000 ∷ []) 1 gives (0 ∷ 1 ∷ 5 ∷ 1000 ∷ 4 ∷ 0 ∷ 0 ∷ 0 ∷ 0 ∷ []))
    ∷ (late_with desk_budget (self_edge 249 250 250 ∷ lone 5 1000 ∷ []) 1 gives (1 ∷ 1 ∷ 5 ∷ 4 ∷ 0 ∷ 0 ∷ 0 ∷ 0 ∷ []))
    ∷ (desk_of (bytes "010101\n0200fa00fa\n03000000fa\n010100\n02000103e8\n")
    gives (bytes "1000000000000001\n1001000100000001\n1200000400000000\n1f01010000\n"))
    -- a path of 1,000 vertices needs 1,000 work cells, and seven tasks above need 7 x 1,001 witness cells, as many as the desk lends
    ∷ (shown (judged plain (self_edge 1 1 1 ∷ lone 1 1000 ∷ []) 1 0 desk_budget 999 desk_witness) gives (3 ∷ 10 ∷ 1000 ∷ []))
    ∷ (shown (judged plain (replicate 8 (lone 1 1000)) 7 0 desk_budget desk_work 7006) gives (3 ∷ 11 ∷ 7007 ∷ []))
    ∷ (judged_with desk_budget (replicate 8 (lone 1 1000)) 7 gives (0 ∷ 1 ∷ []))
    -- "Its work area stays, so refusal 10 is expected on large tables": three tasks of two paths need 3 x 3 x 1,000 cells
    ∷ (judged_with desk_budget (replicate 3 (task 0 (replicate 2 (vertex 1 1)) []) ++ (lone 1 1000 ∷ [])) 3 gives (3 ∷ 10 ∷ 9000 ∷ []))
    ∷ []

-- the claim
abbrev pub Right : Type 0
Right = T (all right examples)
