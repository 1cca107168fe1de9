-- A line for each vertex of a text's table, each judged from the text: what holds when the loop comes to a place.
use mathlib.Core.Path.{◌≡◌, refl, sym, ap, ◌∙◌}
use Prim.Native.Nat.{ℕ, ◌<◌}
use native.Mathlib.Omega.{arith}
use mathlib.Core.List.{List, [], ◌∷◌}
use Rattle.std.specs.Prelude.{Ok, Err}
use Rattle.meaning.specs.Bounds.{most_tasks, most_vertices, desk_budget, desk_work, desk_witness}
use Rattle.meaning.specs.Table as Meant
use Rattle.meaning.specs.Text.{Reading, readable, read}
use Rattle.meaning.specs.Verdict.{numbers, plain}
use Rattle.meaning.specs.Judge.{judged, on_reading, answer}
use Rattle.meaning.specs.Whole.{Place, places, verdict_at, verdicts, counts_of, counted, table_answer}
use Rattle.kinds.specs.declared.RefusedAt.{RefusedAt}
use Rattle.kinds.specs.declared.Verdict.{Verdict}
use Rattle.kinds.specs.Numbers.{verdict_numbers}
use Rattle.table.specs.declared.Table.{Table}
use Rattle.table.specs.Inner.{table_of, Held}
use Rattle.table.proofs.Records.{held_count, held_few}
use Rattle.table.proofs.Vertices.{own_size, own_few}
use Rattle.reader.proofs.Result.{TableRead, LineRefused}
use Rattle.counts.specs.declared.Counts.{Counts}
use Rattle.counts.specs.Counts.{meant_counts}
use Rattle.counts.specs.Inner.{no_counts, one_more}
use Rattle.judge.specs.Whole.{answer_of}
use Rattle.judge.proofs.Answers.{read_held}
use Rattle.judge.proofs.SoFar.{SoFar, so_far_none, so_far_there, so_far_said, so_far_more, so_far_all}

pub record Saying (text : List ℕ) (t : Table) (c : Counts) (qs : List Place) : Type 0 where
  pub means : read text ≡ readable (table_of t)
  pub so_far : SoFar t desk_budget desk_work c qs

pub saying_none : {text : List ℕ} {t : Table} → Held t × (read text ≡ readable (table_of t)) → {c : Counts} {qs : List Place} → c ≡ no_counts
    → qs ≡ places (table_of t) → Saying text t c qs
saying_none h e f = record { means = h.1; so_far = so_far_none h.0 desk_budget desk_work e f }

module _ {text : List ℕ} {t : Table} {c : Counts} {qs : List Place} (k : Saying text t c qs) where
  module _ {q : Place} {rest : List Place} (e : qs ≡ q ∷ rest) where
    -- its cells in the record
    pub saying_cells : (q.task < most_tasks) × (q.vertex < most_vertices)
    saying_cells =
        let place = so_far_there k.so_far e in
        let task : q.task < t.n = omega (arith, held_count t place.0, place.1.task) in
        let few = own_few t place.0 q.task task in
        (omega (arith, task, held_few t place.0), omega (arith, few.0, own_size t place.0 q.task task, place.1.vertex))

    -- what is judged from the text is the table's verdict
    judged_so : answer plain text q.task q.vertex desk_budget desk_work desk_witness ≡ verdict_at (table_of t) desk_budget desk_work q
    judged_so =
        ap (λ (m : Reading). on_reading m (λ (ts : Meant.Table). judged plain ts q.task q.vertex desk_budget desk_work desk_witness)) k.means
        ∙ so_far_said k.so_far e refl refl

    pub saying_more : (r : Verdict) → verdict_numbers r ≡ numbers (answer plain text q.task q.vertex desk_budget desk_work desk_witness)
        → {n : Counts} → n ≡ one_more c r → Saying text t n rest
    saying_more r a m = record { means = k.means; so_far = so_far_more k.so_far e r (a ∙ ap numbers judged_so) m }

  pub saying_all : qs ≡ [] → meant_counts c ≡ counts_of (verdicts (table_of t) desk_budget desk_work)
  saying_all = so_far_all k.so_far

-- ---- of a text

module _ {text : List ℕ} where
  pub lines_ask : {t : Table} → TableRead text t → Held t × (read text ≡ readable (table_of t))
  lines_ask q = (read_held q, q.means)

  pub lines_counted : {t : Table} {c : Counts} → TableRead text t → meant_counts c ≡ counts_of (verdicts (table_of t) desk_budget desk_work)
      → answer_of (Ok c) ≡ table_answer (read text) desk_budget desk_work
  lines_counted q e = ap counted e ∙ sym (ap (λ (m : Reading). table_answer m desk_budget desk_work) q.means)

  pub lines_refused : {at : RefusedAt} → LineRefused text at → answer_of (Err at) ≡ table_answer (read text) desk_budget desk_work
  lines_refused l = sym (ap (λ (m : Reading). table_answer m desk_budget desk_work) l.means)
