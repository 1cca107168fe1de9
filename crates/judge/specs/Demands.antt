-- The customer's demands, said of the judging calls; `proofs/Demands`, `proofs/MaskedLengths`, `proofs/OwnDeadline` and `proofs/SlowerCradles` prove them.
-- "Any bytes, any vertex number, any budget and any lent areas get an answer" is what the check of the calls says: they have no `requires`, and return.
use Rattle.std.specs.Prelude.{◌≡◌, ℕ, ◌-◌, ◌*◌, ◌≤◌, ◌<◌, ◌⊎◌, length, drop, get_or, Result, Ok, Err}
use Rattle.std.proofs.Math.Option.{Option, none, some}
use mathlib.Core.List.{List, [], ◌∷◌, Memᴰ}
use Rattle.meaning.specs.Bounds.{largest_d, largest_p, desk_work, desk_witness}
use Rattle.meaning.specs.Table.{Task, Table, task_at, higher}
use Rattle.meaning.specs.Text.{readable, unreadable, read, word}
use Rattle.meaning.specs.Paths.{Path, load, paths_of}
use Rattle.meaning.specs.Groups.{P}
use Rattle.meaning.specs.Verdict.{misses, refused, cells_of, Asked, plain, latest, B, own_e, deadline, top_at, C}
use Rattle.meaning.specs.Areas.{work_need, zeroed, written}
use Rattle.meaning.specs.Judge.{Row, refusal}
use Rattle.meaning.specs.Whole.{Place, places, uncounted, counts_of, verdicts}
use Rattle.meaning.specs.Desk.{path_frame, desk_verdict, frames}
use Rattle.meaning.specs.Demands.{Overloadable, First, Worst, SameJobs, vertex_total}
use Rattle.kinds.specs.declared.RefusedAt.{RefusedAt}
use Rattle.kinds.specs.declared.Verdict.{Verdict}
use Rattle.kinds.specs.declared.Verdict.TheVariants.{Meets, Misses, Unfinished, Refused}
use Rattle.kinds.specs.Numbers.{verdict_numbers, verdict_in}
use Rattle.counts.specs.declared.Counts.{Counts}
use Rattle.counts.specs.Counts.{meant_counts, total_of}
use Rattle.kinds.specs.declared.Ticks.{Ticks}
use Rattle.kinds.specs.declared.Lateness.{Lateness}
use Rattle.kinds.specs.declared.Lateness.TheVariants as Late
use Rattle.judge.specs.Judged.{JudgedBy, LatestJudged}
use Rattle.judge.specs.Whole.{answer_of, TableJudged}

-- ---- a vertex

-- A call of `judge` or `latest`: what it was asked and given, the verdict r in its answer, and the areas as it returned. What is promised of these is all
-- that is known of them.
pub record Call : Type 0 where
  pub asked : Asked
  pub text : List ℕ
  pub i : ℕ
  pub v : ℕ
  pub b : ℕ
  pub work : List ℕ
  pub wit : List ℕ
  pub r : Verdict
  pub work' : List ℕ
  pub wit' : List ℕ
  pub promised : JudgedBy asked text i v b work wit r work' wit'

-- the number of groups that its rule has to examine
abbrev pub groups : Call → Table → ℕ
groups x ts = C x.asked ts x.i x.v

-- a call on a text that means the table ts
abbrev pub Means : Call → Table → Type 0
Means x ts = read x.text ≡ readable ts

-- the row of 8 to 11 that refuses it, if any
abbrev pub refused_by : Call → Table → Option Row
refused_by x ts = refusal ts x.i x.v (length x.work) (length x.wit)

-- "A bad table is refused at its first faulty line. A refusal changes nothing in the areas lent to it." And the refusal sheet's rows 8 to 11: "Each is
-- given exactly when its row holds and none before it in this order does."
pub record Demand1 : Type 0 where
  pub bad_table : (x : Call) (k n : ℕ) → read x.text ≡ unreadable k n → verdict_numbers x.r ≡ 3 ∷ k ∷ n ∷ []
  pub sheet : (x : Call) (ts : Table) → Means x ts → (q : Row) → refused_by x ts ≡ some q → verdict_numbers x.r ≡ 3 ∷ q.number ∷ q.place ∷ []
  pub sheet_only : (x : Call) (ts : Table) → Means x ts → refused_by x ts ≡ none → (at : RefusedAt) → x.r ≡ Refused at → ⊥
  pub unchanged : (x : Call) (at : RefusedAt) → x.r ≡ Refused at → (x.work' ≡ x.work) × (x.wit' ≡ x.wit)

-- ""misses" is said only if some legal path from each of those tasks, of any length, together overload every tick up to the deadline [..]. The paths
-- returned are the first such among document 01's complete paths, in its order. "Meets" is said only if there are none." To overload is to do so with
-- e + B, and so it is below: "demands 2 and 3 and wish 1 read e + B".
pub record Demand2 : Type 0 where
  pub misses_only : (x : Call) (ts : Table) → Means x ts → (c n : ℕ) → x.r ≡ Misses c n → Overloadable ts x.i x.v × (c ≡ groups x ts)
      × ((ws : List Path) × First ts x.i x.v ws × (x.wit' ≡ written (cells_of ws) x.wit) × (n ≡ length (cells_of ws)))
  pub meets_only : (x : Call) (ts : Table) → Means x ts → (c : ℕ) → x.r ≡ Meets c → (Overloadable ts x.i x.v → ⊥) × (c ≡ groups x ts)
  pub misses_if : (x : Call) (ts : Table) → Means x ts → refused_by x ts ≡ none → groups x ts ≤ x.b → Overloadable ts x.i x.v
      → (n : ℕ) × (x.r ≡ Misses (groups x ts) n)
  pub meets_if : (x : Call) (ts : Table) → Means x ts → refused_by x ts ≡ none → groups x ts ≤ x.b → (Overloadable ts x.i x.v → ⊥) → x.r ≡ Meets (groups x ts)

-- on one table and vertex
pub record SameVertex (x y : Call) : Type 0 where
  pub table : read y.text ≡ read x.text
  pub vertex : (y.i ≡ x.i) × (y.v ≡ x.v)

-- the same call there, with a larger budget or larger areas
pub record Larger (x y : Call) : Type 0 where
  pub asked : y.asked ≡ x.asked
  pub same : SameVertex x y
  pub budget : x.b ≤ y.b
  pub areas : (length x.work ≤ length y.work) × (length x.wit ≤ length y.wit)

-- "For one table and vertex, a larger budget or larger areas never alter a "meets" or a "misses" once given, its paths or its count. When no refusal
-- applies, "unfinished" is given exactly if the budget is below the number of groups that document 01's rule has to examine, and that number is at
-- most twice the product of the tasks' path counts, less one."
pub record Demand3 : Type 0 where
  pub meets_lasts : (x y : Call) → Larger x y → (c : ℕ) → x.r ≡ Meets c → y.r ≡ Meets c
  pub misses_lasts : (x y : Call) → Larger x y → (c n : ℕ) → x.r ≡ Misses c n
      → (y.r ≡ Misses c n)
      × ((ws : List Path) × (n ≡ length (cells_of ws)) × (x.wit' ≡ written (cells_of ws) x.wit) × (y.wit' ≡ written (cells_of ws) y.wit))
  pub unfinished_if : (x : Call) (ts : Table) → Means x ts → refused_by x ts ≡ none → x.b < groups x ts → x.r ≡ Unfinished x.b
  pub unfinished_only : (x : Call) (ts : Table) → Means x ts → (n : ℕ) → x.r ≡ Unfinished n → (n ≡ x.b) × (x.b < groups x ts)
  pub few : (asked : Asked) (text : List ℕ) (ts : Table) → read text ≡ readable ts → (i v : ℕ) → C asked ts i v ≤ 2 * P (top_at ts i v) - 1

-- "After any of the three verdicts the needed cells, from the front, are zero and the rest unchanged." Of the witness area: "The other verdicts don't touch
-- it"; wish 1 lets a meets of its own call write there.
pub record AreasAfter : Type 0 where
  pub zeros : (x : Call) (ts : Table) → Means x ts → refused_by x ts ≡ none → x.work' ≡ zeroed (work_need ts x.i x.v) x.work
  pub meets_unchanged : (x : Call) → x.asked ≡ plain → (c : ℕ) → x.r ≡ Meets c → x.wit' ≡ x.wit
  pub unfinished_unchanged : (x : Call) (n : ℕ) → x.r ≡ Unfinished n → x.wit' ≡ x.wit

-- ---- how late is the latest

-- A call of `latest`, and its whole answer.
pub record LatestCall : Type 0 where
  pub call : Call
  pub asks : call.asked ≡ latest
  pub told : Lateness
  pub promised : LatestJudged call.text call.i call.v call.b call.work call.wit told call.work' call.wit'

-- "a figure beside "meets": the worst finish [..] with the first choice in document 01's order that reaches it, written to the witness area in its layout
-- (so in this call a meets writes there too; the rest of it is unchanged, and unfinished doesn't touch it) [..]. A vertex that misses gives the old
-- witness, with this call's C."
--
-- "Budget, areas, refusals and demand 3 read the same over this C": each answer of `latest` makes a call as above.
pub record HowLate : Type 0 where
  pub is_call : (text : List ℕ) (i v b : ℕ) (work wit : List ℕ) (r : Lateness) (work' wit' : List ℕ) → LatestJudged text i v b work wit r work' wit'
      → JudgedBy latest text i v b work wit (verdict_in r) work' wit'
  pub meets_worst : (x : LatestCall) (ts : Table) → Means x.call ts → (c : ℕ) (t : Ticks) (n : ℕ) → x.told ≡ Late.Meets c t n → (ws : List Path)
      × Worst ts x.call.i x.call.v t.0 ws × (x.call.wit' ≡ written (cells_of ws) x.call.wit) × (n ≡ length (cells_of ws))
  pub meets_lasts : (x y : LatestCall) → Larger x.call y.call → (c : ℕ) (t : Ticks) (n : ℕ) → x.told ≡ Late.Meets c t n
      → (y.told ≡ Late.Meets c t n) × ((ws : List Path) × (n ≡ length (cells_of ws))
      × (x.call.wit' ≡ written (cells_of ws) x.call.wit) × (y.call.wit' ≡ written (cells_of ws) y.call.wit))
  pub old_witness : (x y : Call) → SameVertex x y → (c n c' n' : ℕ) → x.r ≡ Misses c n → y.r ≡ Misses c' n'
      → (n' ≡ n) × ((ws : List Path) × (n ≡ length (cells_of ws)) × (x.wit' ≡ written (cells_of ws) x.wit) × (y.wit' ≡ written (cells_of ws) y.wit))
  pub alone : (x : LatestCall) (ts : Table) → Means x.call ts → (c : ℕ) (t : Ticks) (n : ℕ) → x.told ≡ Late.Meets c t n → higher ts x.call.i ≡ []
      → t.0 ≡ own_e ts x.call.i x.call.v
  pub agree : (x y : Call) → SameVertex x y → (c c' n : ℕ) → x.r ≡ Meets c → y.r ≡ Misses c' n → ⊥
  pub more : (text : List ℕ) (ts : Table) → read text ≡ readable ts → (i v : ℕ) → C plain ts i v ≤ C latest ts i v

-- ---- masked lengths

-- two calls that differ in nothing but the masked lengths in their tables, ts and us
pub record ButForMasks (x y : Call) (ts us : Table) : Type 0 where
  pub asked : y.asked ≡ x.asked
  pub tables : Means x ts × Means y us
  pub jobs : SameJobs ts us
  pub vertex : (y.i ≡ x.i) × (y.v ≡ x.v)
  pub budget : y.b ≡ x.b
  pub areas : (y.work ≡ x.work) × (y.wit ≡ x.wit)

-- "a vertex's e in the overload rule becomes e + B, with B the largest m among lower tasks, 0 if none." Nothing but B depends on m: no path and no load, none
-- of the sheet's rows 8 to 11, no work cell that is needed or zeroed. Of the masked lengths B alone tells answers apart, so a task's own and those of the
-- higher tasks play no part. Where B is larger, what overloads still does, and no job is done earlier at worst.
pub record MaskedLengths : Type 0 where
  pub paths : (ts us : Table) → SameJobs ts us → (j d : ℕ) → paths_of (task_at us j) d ≡ paths_of (task_at ts j) d
  pub loads : (ts us : Table) → SameJobs ts us → (j : ℕ) (w : Path) (t : ℕ) → load (task_at us j) w t ≡ load (task_at ts j) w t
  pub rows : (ts us : Table) → SameJobs ts us → (i v work wit : ℕ) → refusal us i v work wit ≡ refusal ts i v work wit
  pub needs : (ts us : Table) → SameJobs ts us → (i v : ℕ) → work_need us i v ≡ work_need ts i v
  pub work_after : (x y : Call) (ts us : Table) → ButForMasks x y ts us → y.work' ≡ x.work'
  pub by_B : (x y : Call) (ts us : Table) → ButForMasks x y ts us → B us x.i ≡ B ts x.i → (y.r ≡ x.r) × (y.wit' ≡ x.wit')
  pub by_B_latest : (x y : LatestCall) (ts us : Table) → ButForMasks x.call y.call ts us → B us x.call.i ≡ B ts x.call.i → y.told ≡ x.told
  pub never_kinder : (ts us : Table) → SameJobs ts us → (i v : ℕ) → B ts i ≤ B us i → Overloadable ts i v → Overloadable us i v
  pub never_earlier : (ts us : Table) → SameJobs ts us → (i v : ℕ) → B ts i ≤ B us i → (n n' : ℕ) (ws ws' : List Path)
      → Worst ts i v n ws → Worst us i v n' ws' → n ≤ n'

-- ---- a job longer than its own deadline

-- "Masked time isn't counted here; a vertex whose e + B exceeds d is still judged, and misses", unless a row of 8 to 11 refuses it or the budget is too small.
-- That it is read and written stands on the writer's page (`AsPlainTasks`, `fits`), whose `SoundTable` knows no B.
-- Since no e of a readable table exceeds its d, no vertex misses that has no task above it and no masked time below.
pub record OwnDeadline : Type 0 where
  pub masked_misses : (x : Call) (ts : Table) → Means x ts → refused_by x ts ≡ none → groups x ts ≤ x.b → deadline ts x.i x.v < own_e ts x.i x.v
      → (n : ℕ) × (x.r ≡ Misses (groups x ts) n)
  pub alone_never : (x : Call) (ts : Table) → Means x ts → higher ts x.i ≡ [] → B ts x.i ≡ 0 → (c n : ℕ) → x.r ≡ Misses c n → ⊥

-- ---- a whole table

-- A call of `judge_table`.
pub record TableCall : Type 0 where
  pub text : List ℕ
  pub b : ℕ
  pub work : List ℕ
  pub r : Result Counts RefusedAt
  pub work' : List ℕ
  pub promised : TableJudged text b work r work'

-- "Judging a whole table first checks the text (1 to 7, nothing changed)." By wish 6 it can get 13, too.
pub record TextFirst : Type 0 where
  pub bad_table : (x : TableCall) (k n : ℕ) → read x.text ≡ unreadable k n → answer_of x.r ≡ uncounted k n
  pub unchanged : (x : TableCall) (at : RefusedAt) → x.r ≡ Err at → x.work' ≡ x.work

-- It "returns how many meet, miss, are unfinished and are refused by 9 or 10. The four add up to the number of vertices, counted from the text. [..] More
-- budget never lowers the first two counts."
pub record FourCounts : Type 0 where
  pub each : (x : TableCall) (ts : Table) → read x.text ≡ readable ts
      → (c : Counts) × (x.r ≡ Ok c) × (meant_counts c ≡ counts_of (verdicts ts x.b (length x.work))) × (total_of (meant_counts c) ≡ vertex_total ts)
  pub more : (x y : TableCall) → read y.text ≡ read x.text → x.b ≤ y.b → length y.work ≡ length x.work → (c d : Counts)
      → x.r ≡ Ok c → y.r ≡ Ok d → (c.meeting ≤ d.meeting) × (c.missing ≤ d.missing)

-- And of a whole table: where each task's B is the same, the counts and the work cells are.
pub record TableMasks : Type 0 where
  pub by_B : (x y : TableCall) (ts us : Table) → read x.text ≡ readable ts → read y.text ≡ readable us → SameJobs ts us → y.b ≡ x.b → y.work ≡ x.work
      → ((i : ℕ) → B us i ≡ B ts i) → (y.r ≡ x.r) × (y.work' ≡ x.work')

-- ---- slower cradles

-- "Raise d to 1,000 and p to 60,000", "The program lends 7,007 witness cells. Its work area stays": these numbers. That every table within them is written
-- and read stands on the writer's page (`AsPlainTasks`, `fits`), and so does that no other is written (`only_sound`); that none is read is `ReadableSound`.
--
-- "A path may now have 1,000 vertices": no complete path has more, and one has so many. The witness cells are as many as any vertex needs: the desk refuses
-- none by 11.
--
-- "so the program's path frame becomes 12 with a two-byte length, and frame 11 is no longer written": the desk's output has a line for each of `frames`. None
-- is an 11; each path of a miss, one a higher task, has its 12 among them; and in each 12 the two bytes behind the task are the number of vertices that follow.
pub record SlowerCradles : Type 0 where
  pub numbers : (largest_d ≡ 1000) × (largest_p ≡ 60000) × (desk_witness ≡ 7007) × (desk_work ≡ 8192)
  pub paths : (text : List ℕ) (ts : Table) → read text ≡ readable ts → (q : Place) → Memᴰ q (places ts)
      → (k : Task) → Memᴰ k (higher ts q.task) → (w : Path) → Memᴰ w (paths_of k (deadline ts q.task q.vertex)) → length w ≤ largest_d
  pub reached : (text : List ℕ) × (ts : Table) × (read text ≡ readable ts) × (q : Place) × Memᴰ q (places ts)
      × (k : Task) × Memᴰ k (higher ts q.task) × (w : Path) × Memᴰ w (paths_of k (deadline ts q.task q.vertex)) × (length w ≡ largest_d)
  pub desk_refuses : (text : List ℕ) (ts : Table) → read text ≡ readable ts → (q : Place) → Memᴰ q (places ts)
      → (k n : ℕ) → desk_verdict ts q ≡ refused k n → (k ≡ 9) ⊎ (k ≡ 10)
  pub never_11 : (text f : List ℕ) → Memᴰ f (frames text) → get_or f 0 0 ≡ 17 → ⊥
  pub shown : (text : List ℕ) (ts : Table) → read text ≡ readable ts → (q : Place) → Memᴰ q (places ts) → (c : ℕ) (ws : List Path)
      → desk_verdict ts q ≡ misses c ws → (length ws ≡ q.task) × ((i : ℕ) → i < q.task → Memᴰ (path_frame i (get_or ws i [])) (frames text))
  pub lengths : (text f : List ℕ) → Memᴰ f (frames text) → get_or f 0 0 ≡ 18
      → (get_or f 2 0 < 256) × (get_or f 3 0 < 256) × (word f 2 ≡ length (drop 4 f))
