-- The answer to a text: refused at its line, or that of its table.
use mathlib.Core.Path.{◌≡◌, refl, sym, ap, subst}
use Prim.Native.Nat.{ℕ}
use mathlib.Core.List.{List}
use lib.ListN.{length}
use Rattle.std.specs.Prelude.{Result, Ok, Err}
use Rattle.meaning.specs.Table as Meant
use Rattle.meaning.specs.Text.{Reading, read, tasks_of}
use Rattle.meaning.specs.Verdict.{Asked, meets_paths}
use Rattle.meaning.specs.Areas.{work_need}
use Rattle.meaning.specs.Judge.{judged, on_reading}
use Rattle.meaning.specs.Whole.{counted, table_answer, table_work_after}
use Rattle.kinds.specs.declared.RefusedAt.{RefusedAt}
use Rattle.kinds.specs.declared.Verdict.{Verdict}
use Rattle.kinds.specs.declared.Lateness.{Lateness}
use Rattle.kinds.specs.declared.Lateness.TheVariants as Late
use Rattle.kinds.specs.Numbers.{verdict_in}
use Rattle.table.specs.declared.Table.{Table}
use Rattle.table.specs.Inner.{table_of, Held}
use Rattle.reader.proofs.Result.{TableRead, LineRefused}
use Rattle.counts.specs.declared.Counts.{Counts}
use Rattle.judge.specs.Judged.{JudgedBy, AnsweredBy}
use Rattle.judge.specs.Inner.{last_tick, VertexJudged, TextJudged, TableCounted}
use Rattle.judge.specs.Whole.{answer_of, TableJudged}
use Rattle.judge.proofs.Told.{answered}

pub read_held : {text : List ℕ} {t : Table} → TableRead text t → Held t
read_held r = record { whole = r.is; sound = r.sound }

module _ (asked : Asked) (text : List ℕ) (i v b : ℕ) (work wit : List ℕ) where
  abbrev For : Reading → Lateness → List ℕ → List ℕ → Type 0
  For m r work' wit' =
      AnsweredBy (on_reading m (λ (ts : Meant.Table). judged asked ts i v b (length work) (length wit))) (last_tick asked (tasks_of m) i v)
      (meets_paths asked (tasks_of m) i v) (work_need (tasks_of m) i v) work wit r work' wit'

  pub text_refuses : (at : RefusedAt) → LineRefused text at → {r : Lateness} → r ≡ Late.Refused at → TextJudged asked text i v b work wit r work wit
  text_refuses at l {r} q =
      subst (λ (y : Lateness). TextJudged asked text i v b work wit y work wit) (sym q)
      (subst (λ m. For m (Late.Refused at) work wit) (sym l.means)
      (record { answer_is = refl; cells = refl; paths = refl }))

  pub table_answers : (t : Table) (r : Lateness) (work' wit' : List ℕ) → TableRead text t
      → VertexJudged asked (table_of t) i v b work wit r work' wit' → TextJudged asked text i v b work wit r work' wit'
  table_answers t r work' wit' q x = subst (λ m. For m r work' wit') (sym q.means) x

-- the verdict alone
pub judged_by : {asked : Asked} {text : List ℕ} {i v b : ℕ} {work wit : List ℕ} {r : Lateness} {x : Verdict} {work' wit' : List ℕ}
    → TextJudged asked text i v b work wit r work' wit' → x ≡ verdict_in r → JudgedBy asked text i v b work wit x work' wit'
judged_by t q =
    let a = answered t q in
    record { verdict = a.verdict; cells = a.cells; paths = a.paths }

-- ---- of a whole table

module _ (text : List ℕ) (b : ℕ) (work : List ℕ) where
  abbrev ForTable : Reading → Result Counts RefusedAt → List ℕ → Type 0
  ForTable m r work' = (answer_of r ≡ table_answer m b (length work)) × (work' ≡ table_work_after m b work)

  on_reading_lem : (m : Reading) (r : Result Counts RefusedAt) (work' : List ℕ) → read text ≡ m → ForTable m r work' → TableJudged text b work r work'
  on_reading_lem m r work' q x = let y = subst (λ n. ForTable n r work') (sym q) x in record { verdict = y.0; cells = y.1 }

  pub text_uncounted : (at : RefusedAt) → LineRefused text at → TableJudged text b work (Err at) work
  text_uncounted at l = on_reading_lem _ (Err at) work l.means (refl, refl)

  pub table_counted : (t : Table) (c : Counts) (work' : List ℕ) → TableRead text t
      → TableCounted (table_of t) b work c work' → TableJudged text b work (Ok c) work'
  table_counted t c work' q x = on_reading_lem _ (Ok c) work' q.means (ap counted x.counts, x.cells)
