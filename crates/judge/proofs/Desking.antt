-- The desk's lines, one vertex after the other, and the counts behind them.
use mathlib.Core.Path.{◌≡◌, refl, sym, ap, subst, ◌∙◌}
use Prim.Native.Nat.{ℕ, ◌+◌, ◌≤◌}
use native.Mathlib.Omega.{arith}
use mathlib.Core.List.{List, [], ◌∷◌, ◌++◌, map, append-nil, append_assoc}
use lib.ListN.{length, length-append}
use Rattle.meaning.specs.Bounds.{desk_budget, desk_work, desk_witness, counts_line}
use Rattle.meaning.specs.Table as Meant
use Rattle.meaning.specs.Verdict.{numbers, plain}
use Rattle.meaning.specs.Areas.{work_need}
use Rattle.meaning.specs.Judge.{judged}
use Rattle.meaning.specs.Sound.{SoundTable}
use Rattle.meaning.specs.Whole.{Place, places, verdict_at, verdicts, counts_of}
use Rattle.meaning.specs.Text.{line}
use Rattle.meaning.specs.Desk.{counts_frame, desk_verdict}
use Rattle.meaning.proofs.Lists.{map_mem}
use Rattle.meaning.proofs.Wrote.{wrote_none}
use Rattle.meaning.proofs.Whole.{verdict_at_lem, desk_witness_lem}
use Rattle.kinds.specs.declared.Verdict.{Verdict}
use Rattle.kinds.specs.declared.Lateness.{Lateness}
use Rattle.kinds.specs.Numbers.{verdict_in}
use Rattle.table.specs.declared.Table.{Table}
use Rattle.table.specs.Inner.{table_of, Held}
use Rattle.put.specs.declared.Pen.{Pen}
use Rattle.put.specs.Pens.{Penned}
use Rattle.put.proofs.Pens.{penned_then, penned_as, penned_length, penned_end}
use Rattle.desk_frames.specs.Lines.{WholeShown, shown_lines}
use Rattle.counts.specs.declared.Counts.{Counts}
use Rattle.counts.specs.Counts.{meant_counts}
use Rattle.counts.specs.Inner.{no_counts, one_more}
use Rattle.judge.specs.Desk.{table_room}
use Rattle.judge.specs.Inner.{Answered, VertexJudged, table_output}
use Rattle.judge.proofs.Told.{answered}
use Rattle.judge.proofs.SoFar.{SoFar, so_far_none, so_far_all, so_far_in, so_far_said, so_far_more}
use Rattle.judge.proofs.DeskLines.{vertex_lines, bytes_of, lines_cons, counts_bytes, table_lines, lines_fit}
use Rattle.judge.proofs.Shown.{Shown, vertex-shown}

-- the desk's verdicts are those of the whole table
desk_verdicts : (ts : Meant.Table) → SoundTable ts → verdicts ts desk_budget desk_work ≡ map (desk_verdict ts) (places ts)
desk_verdicts ts s =
    map_mem (verdict_at ts desk_budget desk_work) (desk_verdict ts) (places ts)
    (λ q m. verdict_at_lem ts desk_budget desk_work desk_witness q (desk_witness_lem ts s q m))

-- ---- with the places qs still to come

pub record Desking (t : Table) (before now : Pen) (work wit : List ℕ) (c : Counts) (qs : List Place) : Type 0 where
  pub so_far : SoFar t desk_budget desk_work c qs
  pub works : length work ≡ desk_work
  pub wits : length wit ≡ desk_witness
  pub done : List ℕ
  pub penned : Penned done before now
  pub whole : bytes_of (table_of t) (places (table_of t)) ≡ done ++ bytes_of (table_of t) qs
  pub room : before.at + table_room (table_of t) ≤ length before.out.now

pub desking_none : {t : Table} {p : Pen} {work wit : List ℕ} → Held t × (p.at + table_room (table_of t) ≤ length p.out.now) → length work ≡ desk_work
    → length wit ≡ desk_witness → {c : Counts} {qs : List Place} → c ≡ no_counts → qs ≡ places (table_of t) → Desking t p p work wit c qs
desking_none {t} {p} h a b e f =
    record {
      so_far = so_far_none h.0 desk_budget desk_work e f;
      works = a;
      wits = b;
      done = [];
      penned = record { same_area = refl; wrote = wrote_none p.out.now p.at };
      whole = ap (bytes_of (table_of t)) (sym f);
      room = h.1;
    }

module _ {t : Table} {before now : Pen} {work wit : List ℕ} {c : Counts} {qs : List Place} (d : Desking t before now work wit c qs) where
  abbrev ts : Meant.Table
  ts = table_of t

  sound : SoundTable ts
  sound = d.so_far.held.sound

  module _ {q : Place} {rest : List Place} (e : qs ≡ q ∷ rest) where
    abbrev behind : List ℕ
    behind = bytes_of ts rest

    splits : bytes_of ts (places ts) ≡ (d.done ++ vertex_lines ts q) ++ behind
    splits =
        d.whole
        ∙ ap (λ (l : List ℕ). d.done ++ l) (ap (bytes_of ts) e ∙ lines_cons ts q rest)
        ∙ sym (append_assoc d.done (vertex_lines ts q) behind)

    -- this vertex's lines fit
    fits : now.at + length (vertex_lines ts q) ≤ length now.out.now
    fits =
        let all = ap length splits ∙ length-append (d.done ++ vertex_lines ts q) behind in
        omega (arith, all, length-append d.done (vertex_lines ts q), penned_end d.penned, penned_length d.penned, d.room, lines_fit ts sound)

    abbrev Told : Lateness → List ℕ → List ℕ → Type 0
    Told l work' wit' = VertexJudged plain ts q.task q.vertex desk_budget work wit l work' wit'

    module _ {l : Lateness} {work' wit' : List ℕ} (told : Told l work' wit') {r : Verdict} (in-it : r ≡ verdict_in l) where
      a : Answered (judged plain ts q.task q.vertex desk_budget (length work) (length wit)) [] (work_need ts q.task q.vertex) work wit r work' wit'
      a = answered told in-it

      shown : Shown ts q r wit'
      shown = vertex-shown ts sound q (so_far_in d.so_far e) d.works d.wits a

      pub lines_ask : WholeShown r q.task wit' × (now.at + length (shown_lines q r wit') ≤ length now.out.now)
      lines_ask = (shown.whole, subst (λ (l : List ℕ). now.at + length l ≤ length now.out.now) (sym shown.lines) fits)

      pub desking_more : {after : Pen} {n : Counts} → Penned (shown_lines q r wit') now after → length work' ≡ length work → length wit' ≡ length wit
          → n ≡ one_more c r → Desking t before after work' wit' n rest
      desking_more w x y m =
          record {
            so_far = so_far_more d.so_far e r (a.verdict ∙ ap numbers (so_far_said d.so_far e d.works d.wits)) m;
            works = x ∙ d.works;
            wits = y ∙ d.wits;
            done = d.done ++ vertex_lines ts q;
            penned = penned_then d.done (vertex_lines ts q) d.penned (penned_as shown.lines w);
            whole = splits;
            room = d.room;
          }

  module _ (e : qs ≡ []) where
    all_done : bytes_of ts (places ts) ≡ d.done
    unfolding bytes_of
    all_done = d.whole ∙ ap (λ (ps : List Place). d.done ++ bytes_of ts ps) e ∙ append-nil d.done

    pub counts_ask : now.at + counts_line ≤ length now.out.now
    counts_ask = omega (arith, ap length all_done, penned_end d.penned, penned_length d.penned, d.room, lines_fit ts sound)

    counts_are : counts_frame (meant_counts c) ≡ counts_frame (counts_of (map (desk_verdict ts) (places ts)))
    counts_are = ap counts_frame (so_far_all d.so_far e ∙ ap counts_of (desk_verdicts ts sound))

    pub desking_all : {after : Pen} → Penned (line (counts_frame (meant_counts c))) now after → Penned (table_output ts) before after
    unfolding table_output counts_bytes
    desking_all w =
        penned_as (sym (table_lines ts ∙ ap (λ (bs : List ℕ). bs ++ counts_bytes ts) all_done))
        (penned_then d.done (counts_bytes ts) d.penned (penned_as (ap line counts_are) w))
