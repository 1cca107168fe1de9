-- Judging a table's vertices one after the other: the four counts and the work area.
use mathlib.Core.Path.{◌≡◌, refl, sym, ap, ◌∙◌}
use Prim.Native.Nat.{ℕ}
use mathlib.Core.List.{List, [], ◌∷◌, map}
use lib.ListN.{length}
use Rattle.meaning.specs.Lists.{largest}
use Rattle.meaning.specs.Bounds.{desk_witness}
use Rattle.meaning.specs.Table as Meant
use Rattle.meaning.specs.Verdict as Said
use Rattle.meaning.specs.Verdict.{numbers, plain}
use Rattle.meaning.specs.Areas.{work_need, zeroed, need_unless}
use Rattle.meaning.specs.Judge.{judged}
use Rattle.meaning.specs.Whole.{Place, places, verdict_at, table_need}
use Rattle.kinds.specs.declared.Verdict.{Verdict}
use Rattle.kinds.specs.declared.Lateness.{Lateness}
use Rattle.kinds.specs.Numbers.{verdict_in}
use Rattle.table.specs.declared.Table.{Table}
use Rattle.table.specs.Inner.{table_of, Held}
use Rattle.areas.proofs.Fronts.{zeroed_twice}
use Rattle.counts.specs.declared.Counts.{Counts}
use Rattle.counts.specs.Inner.{no_counts, one_more}
use Rattle.judge.specs.Inner.{Answered, VertexJudged, TableCounted}
use Rattle.judge.proofs.Told.{answered}
use Rattle.judge.proofs.SoFar.{SoFar, so_far_none, so_far_all, so_far_said, so_far_more}

-- what a vertex zeroes
abbrev need_at : Meant.Table → ℕ → ℕ → Place → ℕ
need_at ts b work q = need_unless (verdict_at ts b work q) (work_need ts q.task q.vertex)

-- with what some vertices zero
abbrev front : Meant.Table → ℕ → ℕ → List Place → List ℕ → List ℕ
front ts b work qs cells = zeroed (largest (map (need_at ts b work) qs)) cells

-- with these counts and these areas, and the places qs still to come
pub record JudgedSoFar (t : Table) (b : ℕ) (before now wit : List ℕ) (c : Counts) (qs : List Place) : Type 0 where
  pub so_far : SoFar t b (length before) c qs
  pub same : length now ≡ length before
  pub wits : length wit ≡ desk_witness
  pub cells : front (table_of t) b (length before) qs now ≡ zeroed (table_need (table_of t) b (length before)) before

pub judged-none : {t : Table} → Held t → (b : ℕ) (before wit : List ℕ) → length wit ≡ desk_witness → {c : Counts} {qs : List Place} → c ≡ no_counts
    → qs ≡ places (table_of t) → JudgedSoFar t b before before wit c qs
judged-none {t} h b before wit w e f =
    record {
      so_far = so_far_none h b (length before) e f;
      same = refl;
      wits = w;
      cells = ap (λ (qs : List Place). front (table_of t) b (length before) qs before) f;
    }

module _ {t : Table} {b : ℕ} {before now wit : List ℕ} {c : Counts} {qs : List Place} (k : JudgedSoFar t b before now wit c qs) where
  abbrev zeroes : List Place → List ℕ → List ℕ
  zeroes ps cells = front (table_of t) b (length before) ps cells

  pub judged-all : qs ≡ [] → TableCounted (table_of t) b before c now
  judged-all e = record { counts = so_far_all k.so_far e; cells = sym (ap (λ (ps : List Place). zeroes ps now) e) ∙ k.cells }

  module _ {q : Place} {rest : List Place} (e : qs ≡ q ∷ rest) where
    abbrev said : Said.Verdict
    said = judged plain (table_of t) q.task q.vertex b (length now) (length wit)

    abbrev need : ℕ
    need = work_need (table_of t) q.task q.vertex

    is_said : said ≡ verdict_at (table_of t) b (length before) q
    is_said = so_far_said k.so_far e k.same k.wits

    abbrev Told : Lateness → List ℕ → List ℕ → Type 0
    Told l now' wit' = VertexJudged plain (table_of t) q.task q.vertex b now wit l now' wit'

    module _ {l : Lateness} {now' wit' : List ℕ} (told : Told l now' wit') {r : Verdict} (in-it : r ≡ verdict_in l) where
      a : Answered said [] need now wit r now' wit'
      a = answered told in-it

      zeroes_own : now' ≡ zeroed (need_at (table_of t) b (length before) q) now
      zeroes_own = a.cells ∙ ap (λ (x : Said.Verdict). zeroed (need_unless x need) now) is_said

      pub judged_more : {m : Counts} → length now' ≡ length now → length wit' ≡ length wit → m ≡ one_more c r → JudgedSoFar t b before now' wit' m rest
      judged_more x y n =
          record {
            so_far = so_far_more k.so_far e r (a.verdict ∙ ap numbers is_said) n;
            same = x ∙ k.same;
            wits = y ∙ k.wits;
            cells =
                ap (zeroes rest) zeroes_own
                ∙ zeroed_twice (largest (map (need_at (table_of t) b (length before)) rest)) (need_at (table_of t) b (length before) q) now
                ∙ ap (λ (ps : List Place). zeroes ps now) (sym e)
                ∙ k.cells;
          }
