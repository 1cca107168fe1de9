-- Of two calls that differ in nothing but masked lengths, B alone tells the answers apart.
use mathlib.Core.Path.{◌≡◌, refl, sym, ap, ap₂, ◌∙◌}
use Prim.Native.Nat.{ℕ}
use mathlib.Core.Option.{Option, none, some}
use mathlib.Core.List.{List}
use lib.ListN.{length}
use Rattle.meaning.specs.Table.{Table}
use Rattle.meaning.specs.Text.{Reading, readable, read, tasks_of}
use Rattle.meaning.specs.Paths.{Path}
use Rattle.meaning.specs.Verdict as Said
use Rattle.meaning.specs.Verdict.{Asked, numbers, late_numbers, latest, B, worst_at, latest_paths, meets_paths}
use Rattle.meaning.specs.Areas.{zeroed, work_need, witness_after}
use Rattle.meaning.specs.Judge.{Row, refusal, judged, on_reading, answer}
use Rattle.meaning.specs.Whole.{table_answer, table_work_after}
use Rattle.meaning.proofs.Verdicts.{judged_refused}
use Rattle.meaning.proofs.SameJobs.{same_paths, same_table_loads, same-refusal, same_need, same-judged, same_worst, same_latest, same-shown}
use Rattle.meaning.proofs.SameJobs.{still_overloads, no_earlier, same_answer, same_work}
use Rattle.kinds.proofs.Numbers.{same_verdict, same_lateness}
use Rattle.judge.specs.Demands.{Call, Means, refused_by, ButForMasks, MaskedLengths, TableCall, TableMasks}
use Rattle.judge.proofs.Demands.{said, cells_are, on_text, areas_after, said_late, tick, ls, same_table_verdict}

refused_cells : (x : Call) (ts : Table) → Means x ts → (q : Row) → refused_by x ts ≡ some q → x.work' ≡ x.work
refused_cells x ts m q e = cells_are x (on_text x m ∙ judged_refused x.asked ts x.i x.v x.b (length x.work) (length x.wit) q e)

module _ (x y : Call) (ts us : Table) (l : ButForMasks x y ts us) where
  -- what is made of the vertex, the budget and the areas
  over_call : {X : Type 0} (F : ℕ → ℕ → ℕ → List ℕ → List ℕ → X) → F y.i y.v y.b y.work y.wit ≡ F x.i x.v x.b x.work x.wit
  over_call F =
      ap₂ (λ (i v : ℕ). F i v y.b y.work y.wit) l.vertex.0 l.vertex.1
      ∙ ap (λ (b : ℕ). F x.i x.v b y.work y.wit) l.budget
      ∙ ap₂ (F x.i x.v x.b) l.areas.0 l.areas.1

  -- and of the table and the vertex
  over_tables : {X : Type 0} (f : Table → ℕ → ℕ → X) → f us x.i x.v ≡ f ts x.i x.v
      → f (tasks_of (read y.text)) y.i y.v ≡ f (tasks_of (read x.text)) x.i x.v
  over_tables f q =
      ap (λ (m : Reading). f (tasks_of m) y.i y.v) l.tables.1
      ∙ over_call (λ i v b work wit. f us i v)
      ∙ q ∙ sym (ap (λ (m : Reading). f (tasks_of m) x.i x.v) l.tables.0)

  same_refused : refused_by y us ≡ refused_by x ts
  same_refused =
      over_call (λ i v b work wit. refusal us i v (length work) (length wit)) ∙ same-refusal ts us l.jobs x.i x.v (length x.work) (length x.wit)

  needs : work_need us y.i y.v ≡ work_need ts x.i x.v
  needs = over_call (λ i v b work wit. work_need us i v) ∙ same_need ts us l.jobs x.i x.v

  same_cells : y.work' ≡ x.work'
  same_cells = by (refused_by x ts) refl
    where
      by : (o : Option Row) → refused_by x ts ≡ o → y.work' ≡ x.work'
      by none e =
          areas_after.zeros y us l.tables.1 (same_refused ∙ e) ∙ ap₂ zeroed needs l.areas.0 ∙ sym (areas_after.zeros x ts l.tables.0 e)
      by (some q) e = refused_cells y us l.tables.1 q (same_refused ∙ e) ∙ l.areas.0 ∙ sym (refused_cells x ts l.tables.0 q e)

  -- ---- where B is the same

  module _ (h : B us x.i ≡ B ts x.i) where
    answers : (a : Asked) → answer a y.text y.i y.v y.b (length y.work) (length y.wit)
        ≡ answer a x.text x.i x.v x.b (length x.work) (length x.wit)
    answers a =
        ap (λ (m : Reading). on_reading m (λ (t : Table). judged a t y.i y.v y.b (length y.work) (length y.wit))) l.tables.1
        ∙ over_call (λ i v b work wit. judged a us i v b (length work) (length wit))
        ∙ same-judged ts us l.jobs x.i x.v h a x.b (length x.work) (length x.wit)
        ∙ sym (ap (λ (m : Reading). on_reading m (λ (t : Table). judged a t x.i x.v x.b (length x.work) (length x.wit))) l.tables.0)

    same-said : said y ≡ said x
    same-said = ap (λ (a : Asked). answer a y.text y.i y.v y.b (length y.work) (length y.wit)) l.asked ∙ answers x.asked

    same-written : y.wit' ≡ x.wit'
    same-written =
        let paths = ap (λ (a : Asked). meets_paths a (tasks_of (read y.text)) y.i y.v) l.asked
        ∙ over_tables (meets_paths x.asked) (same-shown ts us l.jobs x.i x.v h x.asked) in
        y.promised.paths
        ∙ ap₂ (λ (ws : List Path) (z : Said.Verdict). witness_after ws z y.wit) paths same-said
        ∙ ap (witness_after (meets_paths x.asked (tasks_of (read x.text)) x.i x.v) (said x)) l.areas.1
        ∙ sym x.promised.paths

pub masked_lengths : MaskedLengths
masked_lengths =
    record {
      paths = same_paths;
      loads = same_table_loads;
      rows = same-refusal;
      needs = same_need;
      work_after = same_cells;
      by_B = λ x y ts us l h. (
        same_verdict y.r x.r (y.promised.verdict ∙ ap numbers (same-said x y ts us l h) ∙ sym x.promised.verdict),
        same-written x y ts us l h,
      );
      by_B_latest = λ x y ts us l h.
          let k = x.call in
          let ticks = over_tables k y.call ts us l worst_at (same_worst ts us l.jobs k.i k.v h) in
          let paths = over_tables k y.call ts us l latest_paths (same_latest ts us l.jobs k.i k.v h) in
          same_lateness y.told x.told
          (y.promised.answer_is ∙ ap₂ (λ (t : ℕ) (ws : List Path). late_numbers t ws (said_late y)) ticks paths
          ∙ ap (late_numbers (tick x) (ls x)) (answers k y.call ts us l h latest) ∙ sym x.promised.answer_is);
      never_kinder = still_overloads;
      never_earlier = no_earlier;
    }

-- ---- a whole table

pub table_masks : TableMasks
table_masks =
    record {
      by_B = λ x y ts us m n q b w h. (
        same_table_verdict y.r x.r
            (y.promised.verdict ∙ over_reads x y ts us m n b w (λ r c cells. table_answer r c (length cells))
            (same_answer ts us q h x.b (length x.work)) ∙ sym x.promised.verdict),
        y.promised.cells ∙ over_reads x y ts us m n b w table_work_after (same_work ts us q h x.b x.work) ∙ sym x.promised.cells,
      );
    }
  where
    over_reads : (x y : TableCall) (ts us : Table) → read x.text ≡ readable ts → read y.text ≡ readable us → y.b ≡ x.b → y.work ≡ x.work
        → {X : Type 0} (F : Reading → ℕ → List ℕ → X) → F (readable us) x.b x.work ≡ F (readable ts) x.b x.work
        → F (read y.text) y.b y.work ≡ F (read x.text) x.b x.work
    over_reads x y ts us m n b w F e =
        ap (λ (r : Reading). F r y.b y.work) n ∙ ap₂ (F (readable us)) b w ∙ e ∙ sym (ap (λ (r : Reading). F r x.b x.work) m)
