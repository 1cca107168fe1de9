-- The demands hold of the judging calls: what a verdict's numbers say of the answer, then what the definitions say of it.
use mathlib.Core.Path.{◌≡◌, refl, sym, ap, ap₂, subst, subst₂, ◌∙◌}
use Prim.Native.Nat.{ℕ, ◌≤◌}
use mathlib.Core.Option.{none, some}
use mathlib.Core.List.{List, [], ◌∷◌}
use native.Mathlib.Omega.{arith}
use lib.ListN.{length, get_or}
use Rattle.std.specs.Prelude.{Result, Ok, Err}
use Rattle.meaning.specs.Table.{Table, higher}
use Rattle.meaning.specs.Text.{Reading, readable, unreadable, read, tasks_of}
use Rattle.meaning.specs.Verdict as Said
use Rattle.meaning.specs.Verdict.{meets, misses, numbers, cells_of, late_numbers, paths_in, latest, own_e, worst_at, latest_paths, meets_paths}
use Rattle.meaning.specs.Paths.{Path}
use Rattle.meaning.specs.Areas.{zeroed, written, work_need, need_unless, work_after, witness_after}
use Rattle.meaning.specs.Judge.{judged, on_reading, answer}
use Rattle.meaning.specs.Whole as Meant
use Rattle.meaning.specs.Whole.{TableAnswer, counted, uncounted, counts_of, verdicts, table_answer, table_work_after}
use Rattle.meaning.specs.Sound.{AllSound}
use Rattle.meaning.specs.Demands.{Overloadable, Worst}
use Rattle.meaning.proofs.Demands.{readable_sound}
use Rattle.meaning.proofs.Verdicts.{Given, judged_given, judged_refused, judged_row}
use Rattle.meaning.proofs.Answers.{sound_higher, misses_witness, misses_says, meets_says, overload_misses, free_meets, given_lasts, short_unfinished}
use Rattle.meaning.proofs.Answers.{unfinished_short}
use Rattle.meaning.proofs.Answers.{few_groups, more_groups}
use Rattle.meaning.proofs.Latest.{worst_is, worst_alone}
use Rattle.meaning.proofs.Refusals.{admitted_sound}
use Rattle.meaning.proofs.Counts.{counts_all, meets_mono, misses_mono}
use Rattle.kinds.specs.declared.Refusal.{Refusal}
use Rattle.kinds.specs.declared.RefusedAt.{RefusedAt}
use Rattle.kinds.specs.declared.Verdict.{Verdict}
use Rattle.kinds.specs.declared.Verdict.TheVariants.{Meets, Misses, Unfinished, Refused}
use Rattle.kinds.specs.Numbers.{refusal_number, verdict_numbers, lateness_numbers}
use Rattle.kinds.proofs.Numbers.{refusal_of, refusal-of_number, same_verdict, same_lateness}
use Rattle.counts.specs.declared.Counts.{Counts}
use Rattle.counts.specs.Counts.{meant_counts, total_of}
use Rattle.kinds.specs.declared.Ticks.{Ticks}
use Rattle.kinds.specs.declared.Lateness.TheVariants as Late
use Rattle.judge.specs.Whole.{answer_of}
use Rattle.judge.specs.Demands.{Call, groups, refused_by, Demand1, Demand2, SameVertex, Larger, Demand3, AreasAfter, LatestCall, HowLate, TableCall}
use Rattle.judge.specs.Demands.{TextFirst, FourCounts}
use Rattle.judge.specs.Settled.{Settled, SettledLatest, SettledTable, SettledOutput, OutputFits}
use Rattle.judge.proofs.Answers.{judged_by}
use Rattle.judge.proofs.Cases.{says_meets, says_misses, says_unfinished, says_refused}
use Rattle.judge.proofs.Output.{output-fits}

-- ---- what a call says

module _ (x : Call) where
  abbrev pub said : Said.Verdict
  said = answer x.asked x.text x.i x.v x.b (length x.work) (length x.wit)

  pub says : {r : Verdict} → x.r ≡ r → verdict_numbers r ≡ numbers said
  says q = ap verdict_numbers (sym q) ∙ x.promised.verdict

  gives : {y : Said.Verdict} (r : Verdict) → said ≡ y → verdict_numbers r ≡ numbers y → x.r ≡ r
  gives r q e = same_verdict x.r r (x.promised.verdict ∙ ap numbers q ∙ sym e)

  -- the paths that a meets writes
  abbrev us : List Path
  us = meets_paths x.asked (tasks_of (read x.text)) x.i x.v

  paths_are : {y : Said.Verdict} → said ≡ y → x.wit' ≡ witness_after us y x.wit
  paths_are q = x.promised.paths ∙ ap (λ (y : Said.Verdict). witness_after us y x.wit) q

  pub cells_are : {y : Said.Verdict} → said ≡ y → x.work' ≡ work_after y (work_need (tasks_of (read x.text)) x.i x.v) x.work
  cells_are q = x.promised.cells ∙ ap (λ (y : Said.Verdict). work_after y (work_need (tasks_of (read x.text)) x.i x.v) x.work) q

  pub on_text : {m : Reading} → read x.text ≡ m
      → said ≡ on_reading m (λ (ts : Table). judged x.asked ts x.i x.v x.b (length x.work) (length x.wit))
  on_text q = ap (λ (m : Reading). on_reading m (λ (ts : Table). judged x.asked ts x.i x.v x.b (length x.work) (length x.wit))) q

  sound : (ts : Table) → read x.text ≡ readable ts → AllSound (higher ts x.i)
  sound ts q = sound_higher ts x.i (readable_sound x.text ts q)

-- ---- the demands

pub demand1 : Demand1
demand1 =
    record {
      bad_table = λ x k n q. x.promised.verdict ∙ ap numbers (on_text x q);
      sheet = λ x ts m q e.
          x.promised.verdict ∙ ap numbers (on_text x m ∙ judged_refused x.asked ts x.i x.v x.b (length x.work) (length x.wit) q e);
      sheet_only = λ x ts m e at q.
          judged_row x.asked ts x.i x.v x.b (length x.work) (length x.wit) e (refusal_number at.refusal) at.place
          (sym (on_text x m) ∙ says_refused (said x) at (says x q));
      unchanged = λ x at q. let p = says_refused (said x) at (says x q) in (cells_are x p, paths_are x p);
    }

pub demand2 : Demand2
demand2 =
    record {
      misses_only = λ x ts q c n e.
          let p = says_misses (said x) c n (says x e) in
          let m = misses_says x.asked x.text ts q x.i x.v (sound x ts q) x.b (length x.work) (length x.wit) c p.0 p.1 in
          (m.0, m.2, (p.0, m.1, paths_are x p.1, p.2));
      meets_only = λ x ts q c e.
          meets_says x.asked x.text ts q x.i x.v (sound x ts q) x.b (length x.work) (length x.wit) c (says_meets (said x) c (says x e));
      misses_if = λ x ts q a h o.
          let p = overload_misses x.asked x.text ts q x.i x.v (sound x ts q) x.b (length x.work) (length x.wit) a h o in
          (length (cells_of p.0), gives x (Misses (groups x ts) (length (cells_of p.0))) p.1 refl);
      meets_if = λ x ts q a h o.
          gives x (Meets (groups x ts))
          (free_meets x.asked x.text ts q x.i x.v (sound x ts q) x.b (length x.work) (length x.wit) a h o) refl;
    }

module _ (x y : Call) (l : Larger x y) where
  -- a judging of the one is a judging of the other
  same-said : (b work wit : ℕ) → answer y.asked y.text y.i y.v b work wit ≡ answer x.asked x.text x.i x.v b work wit
  same-said b work wit =
      ap₂ (λ (a : Said.Asked) (m : Reading). on_reading m (λ (ts : Table). judged a ts y.i y.v b work wit)) l.asked l.same.table
      ∙ ap₂ (λ (i v : ℕ). answer x.asked x.text i v b work wit) l.same.vertex.0 l.same.vertex.1

  lasts : (z : Said.Verdict) → said x ≡ z → Given z → said y ≡ z
  lasts z e g = go (read x.text) refl
    where
      go : (m : Reading) → read x.text ≡ m → said y ≡ z
      go (readable ts) q =
          same-said y.b (length y.work) (length y.wit)
          ∙ given_lasts x.asked x.text ts q x.i x.v x.b y.b (length x.work) (length y.work) (length x.wit) (length y.wit)
          l.budget l.areas.0 l.areas.1 (subst Given (sym e) g)
          ∙ e
      go (unreadable k n) q = absurd (subst Given (sym e ∙ on_text x q) g)

pub demand3 : Demand3
demand3 =
    record {
      meets_lasts = λ x y l c e.
          gives y (Meets c) (lasts x y l (meets c) (says_meets (said x) c (says x e)) tt) refl;
      misses_lasts = λ x y l c n e.
          let p = says_misses (said x) c n (says x e) in
          let z = lasts x y l (misses c p.0) p.1 tt in
          (gives y (Misses c n) z (ap (λ (m : ℕ). 1 ∷ c ∷ m ∷ []) p.2), (p.0, p.2, paths_are x p.1, paths_are y z));
      unfinished_if = λ x ts q a h.
          gives x (Unfinished x.b) (short_unfinished x.asked x.text ts q x.i x.v x.b (length x.work) (length x.wit) a h) refl;
      unfinished_only = λ x ts q n e.
          unfinished_short x.asked x.text ts q x.i x.v x.b (length x.work) (length x.wit) n (says_unfinished (said x) n (says x e));
      few = λ a text ts q i v. few_groups a ts i v (sound_higher ts i (readable_sound text ts q));
    }

-- ---- the areas

pub areas_after : AreasAfter
areas_after =
    record {
      zeros = λ x ts q a.
          x.promised.cells
          ∙ ap (λ (n : ℕ). zeroed n x.work) (judged_need x ts q a (work_need (tasks_of (read x.text)) x.i x.v) x.r refl
          ∙ ap (λ (us : Table). work_need us x.i x.v) (ap tasks_of q));
      meets_unchanged = λ x a c e.
          paths_are x (says_meets (said x) c (says x e))
          ∙ ap (λ (z : Said.Asked). written (cells_of (meets_paths z (tasks_of (read x.text)) x.i x.v)) x.wit) a;
      unfinished_unchanged = λ x n e. paths_are x (says_unfinished (said x) n (says x e));
    }
  where
    -- not refused, so all needed cells are
    judged_need : (x : Call) (ts : Table) → read x.text ≡ readable ts → refused_by x ts ≡ none → (need : ℕ) (r : Verdict) → x.r ≡ r
        → need_unless (said x) need ≡ need
    judged_need x ts q a need (Meets c) e = ap (λ (y : Said.Verdict). need_unless y need) (says_meets (said x) c (says x e))
    judged_need x ts q a need (Misses c n) e = ap (λ (y : Said.Verdict). need_unless y need) (says_misses (said x) c n (says x e)).1
    judged_need x ts q a need (Unfinished n) e = ap (λ (y : Said.Verdict). need_unless y need) (says_unfinished (said x) n (says x e))
    judged_need x ts q a need (Refused at) e = absurd (demand1.sheet_only x ts q a at e)

-- ---- how late is the latest

module _ (x : LatestCall) where
  abbrev c₁ : Call
  c₁ = x.call

  -- what the call says, as one that asks for the latest finish
  abbrev pub said_late : Said.Verdict
  said_late = answer latest c₁.text c₁.i c₁.v c₁.b (length c₁.work) (length c₁.wit)

  said_late_lem : said_late ≡ said c₁
  said_late_lem = ap (λ (a : Said.Asked). answer a c₁.text c₁.i c₁.v c₁.b (length c₁.work) (length c₁.wit)) (sym x.asks)

  abbrev pub tick : ℕ
  tick = worst_at (tasks_of (read c₁.text)) c₁.i c₁.v

  abbrev pub ls : List Path
  ls = latest_paths (tasks_of (read c₁.text)) c₁.i c₁.v

  -- a meets with its numbers
  met : (c : ℕ) (t : Ticks) (n : ℕ) → x.told ≡ Late.Meets c t n → (said_late ≡ meets c) × (t.0 ≡ tick) × (n ≡ length (cells_of ls))
  met c t n e = go said_late refl
    where
      is : lateness_numbers (Late.Meets c t n) ≡ late_numbers tick ls said_late
      is = ap lateness_numbers (sym e) ∙ x.promised.answer_is

      go : (y : Said.Verdict) → said_late ≡ y → (said_late ≡ meets c) × (t.0 ≡ tick) × (n ≡ length (cells_of ls))
      go (meets k) q =
          let z = is ∙ ap (late_numbers tick ls) q in
          (q ∙ ap meets (sym (ap (λ (ns : List ℕ). get_or ns 1 0) z)), ap (λ (ns : List ℕ). get_or ns 3 0) z, ap (λ (ns : List ℕ). get_or ns 2 0) z)
      go (misses k ws) q = absurd (let z = ap (λ (ns : List ℕ). get_or ns 0 9) (is ∙ ap (late_numbers tick ls) q) in omega arith)
      go (Said.unfinished k) q = absurd (let z = ap (λ (ns : List ℕ). get_or ns 0 9) (is ∙ ap (late_numbers tick ls) q) in omega arith)
      go (Said.refused k m) q = absurd (let z = ap (λ (ns : List ℕ). get_or ns 0 9) (is ∙ ap (late_numbers tick ls) q) in omega arith)

  meets_verdict : (c : ℕ) (t : Ticks) (n : ℕ) → x.told ≡ Late.Meets c t n → c₁.r ≡ Meets c
  meets_verdict c t n e = gives c₁ (Meets c) (sym said_late_lem ∙ (met c t n e).0) refl

  meets_written : (c : ℕ) → said_late ≡ meets c → c₁.wit' ≡ written (cells_of ls) c₁.wit
  meets_written c m = x.promised.paths ∙ ap (λ (y : Said.Verdict). witness_after ls y c₁.wit) m

meets_worst : (x : LatestCall) (ts : Table) → read x.call.text ≡ readable ts → (c : ℕ) (t : Ticks) (n : ℕ) → x.told ≡ Late.Meets c t n → (ws : List Path)
    × Worst ts x.call.i x.call.v t.0 ws × (x.call.wit' ≡ written (cells_of ws) x.call.wit) × (n ≡ length (cells_of ws))
meets_worst x ts q c t n e =
    let k = x.call in
    let m = met x c t n e in
    let free = (meets_says latest k.text ts q k.i k.v (sound k ts q) k.b (length k.work) (length k.wit) c m.0).0 in
    let w = worst_is ts k.i k.v (sound k ts q) free in
    let is : tasks_of (read k.text) ≡ ts = ap tasks_of q in
    let paths = ap (λ (us : Table). latest_paths us k.i k.v) is in (
      latest_paths ts k.i k.v,
      subst (λ (d : ℕ). Worst ts k.i k.v d (latest_paths ts k.i k.v)) (sym (m.1 ∙ ap (λ (us : Table). worst_at us k.i k.v) is)) w,
      meets_written x c m.0 ∙ ap (λ (ws : List Path). written (cells_of ws) k.wit) paths,
      m.2 ∙ ap (λ (ws : List Path). length (cells_of ws)) paths,
    )

-- a meets has a vertex of the table
own_some : (x : Call) (ts : Table) → read x.text ≡ readable ts → (c : ℕ) → x.r ≡ Meets c → 1 ≤ own_e ts x.i x.v
own_some x ts q c e =
    let p = sym (on_text x q) ∙ says_meets (said x) c (says x e) in
    let g = judged_given x.asked ts x.i x.v x.b (length x.work) (length x.wit) (meets c) p tt in
    omega (arith, (admitted_sound ts (readable_sound x.text ts q) x.i x.v (length x.work) (length x.wit) g.0).some_e)

-- and so the text has one
reads_table : (x : Call) (c : ℕ) → x.r ≡ Meets c → (ts : Table) × (read x.text ≡ readable ts)
reads_table x c e = go (read x.text) refl
  where
    go : (m : Reading) → read x.text ≡ m → (ts : Table) × (read x.text ≡ readable ts)
    go (readable ts) q = (ts, q)
    go (unreadable k n) q =
        let z : Said.refused k n ≡ meets c = sym (on_text x q) ∙ says_meets (said x) c (says x e) in
        let u : ◌≡◌ {A = ℕ} 0 1 = cc in
        absurd (omega arith)

pub how_late : HowLate
how_late =
    record {
      is_call = λ text i v b work wit r work' wit' p. judged_by p refl;
      meets_worst = meets_worst;
      meets_lasts = λ x y l c t n e.
          let p = met x c t n e in
          let z = said_late_lem y ∙ lasts x.call y.call l (meets c) (sym (said_late_lem x) ∙ p.0) tt in
          let paths = same_of latest_paths x y l in (
            same_lateness y.told (Late.Meets c t n)
                (y.promised.answer_is ∙ ap (late_numbers (tick y) (ls y)) z
                ∙ ap₂ (λ (m k : ℕ). 0 ∷ c ∷ m ∷ k ∷ []) (ap (λ (ws : List Path). length (cells_of ws)) paths ∙ sym p.2)
                (same_of worst_at x y l ∙ sym p.1)),
            (ls x, p.2, meets_written x c p.0, meets_written y c z ∙ ap (λ (ws : List Path). written (cells_of ws) y.call.wit) paths),
          );
      old_witness = λ x y l c n c' n' e f.
          let p = says_misses (said x) c n (says x e) in
          let q = says_misses (said y) c' n' (says y f) in
          let same : q.0 ≡ p.0 = same_paths_of x y l c c' p.0 q.0 p.1 q.1 in (
            q.2 ∙ ap (λ (ws : List Path). length (cells_of ws)) same ∙ sym p.2,
            (p.0, p.2, paths_are x p.1, paths_are y q.1 ∙ ap (λ (ws : List Path). written (cells_of ws) y.wit) same),
          );
      alone = λ x ts q c t n e h.
          let k = x.call in
          let w = meets_worst x ts q c t n e in
          worst_alone ts k.i k.v (sound k ts q) h (own_some k ts q c (meets_verdict x c t n e)) t.0 w.0 w.1;
      agree = λ x y l c c' n e f.
          let t = reads_table x c e in
          let over = (demand2.misses_only y t.0 (l.table ∙ t.1) c' n f).0 in
          (demand2.meets_only x t.0 t.1 c e).0 (subst₂ (Overloadable t.0) l.vertex.0 l.vertex.1 over);
      more = λ text ts q i v. more_groups ts i v (sound_higher ts i (readable_sound text ts q));
    }
  where
    same_paths_of : (x y : Call) → SameVertex x y → (c c' : ℕ) (ws us : List Path) → said x ≡ misses c ws → said y ≡ misses c' us → us ≡ ws
    same_paths_of x y l c c' ws us p q = go (read x.text) refl
      where
        there : said y ≡ answer y.asked x.text x.i x.v y.b (length y.work) (length y.wit)
        there =
            ap (λ (m : Reading). on_reading m (λ (ts : Table). judged y.asked ts y.i y.v y.b (length y.work) (length y.wit))) l.table
            ∙ ap₂ (λ (i v : ℕ). answer y.asked x.text i v y.b (length y.work) (length y.wit)) l.vertex.0 l.vertex.1

        go : (m : Reading) → read x.text ≡ m → us ≡ ws
        go (readable ts) r =
            let a = misses_witness x.asked x.text ts r x.i x.v x.b (length x.work) (length x.wit) c ws p in
            let b = misses_witness y.asked x.text ts r x.i x.v y.b (length y.work) (length y.wit) c' us (sym there ∙ q) in
            let k : some b.0 ≡ some a.0 = sym b.1 ∙ a.1 in
            let same : b.0 ≡ a.0 = cc in
            b.2 ∙ ap paths_in same ∙ sym a.2
        go (unreadable k n) r = let z : Said.refused k n ≡ misses c ws = sym (on_text x r) ∙ p in let u : ◌≡◌ {A = ℕ} 0 1 = cc in absurd (omega arith)

    same_of : {A : Type 0} (f : Table → ℕ → ℕ → A) (x y : LatestCall) → Larger x.call y.call
        → f (tasks_of (read y.call.text)) y.call.i y.call.v ≡ f (tasks_of (read x.call.text)) x.call.i x.call.v
    same_of f x y l =
        ap (λ (m : Reading). f (tasks_of m) y.call.i y.call.v) l.same.table
        ∙ ap₂ (λ (i v : ℕ). f (tasks_of (read x.call.text)) i v) l.same.vertex.0 l.same.vertex.1

-- ---- a whole table

counted_is : (r : Result Counts RefusedAt) (n : Meant.Counts) → answer_of r ≡ counted n → (c : Counts) × (r ≡ Ok c) × (meant_counts c ≡ n)
counted_is (Ok c) n q = (c, refl, cc)
counted_is (Err at) n q = let z : ◌≡◌ {A = ℕ} 0 1 = cc in absurd (omega arith)

uncounted_unchanged : (m : Reading) (b : ℕ) (work : List ℕ) (k n : ℕ) → uncounted k n ≡ table_answer m b (length work) → table_work_after m b work ≡ work
uncounted_unchanged (readable ts) b work k n q = let z : ◌≡◌ {A = ℕ} 0 1 = cc in absurd (omega arith)
uncounted_unchanged (unreadable i l) b work k n q = refl

module _ (x : TableCall) where
  answered : {m : Reading} → read x.text ≡ m → answer_of x.r ≡ table_answer m x.b (length x.work)
  answered q = x.promised.verdict ∙ ap (λ (n : Reading). table_answer n x.b (length x.work)) q

  -- a text that is counted is readable
  is_readable : (c : Counts) (m : Reading) → read x.text ≡ m → x.r ≡ Ok c
      → (ts : Table) × (m ≡ readable ts)
  is_readable c (readable ts) q e = (ts, refl)
  is_readable c (unreadable k n) q e = let p = ap answer_of (sym e) ∙ answered q in let z : ◌≡◌ {A = ℕ} 0 1 = cc in absurd (omega arith)

  counts_of_lem : (c : Counts) (ts : Table) → read x.text ≡ readable ts → x.r ≡ Ok c
      → meant_counts c ≡ counts_of (verdicts ts x.b (length x.work))
  counts_of_lem c ts q e = let p = ap answer_of (sym e) ∙ answered q in cc

pub text_first : TextFirst
text_first =
    record {
      bad_table = λ x k n q. answered x q;
      unchanged = λ x at e.
          x.promised.cells
          ∙ uncounted_unchanged (read x.text) x.b x.work (refusal_number at.refusal) at.place (ap answer_of (sym e) ∙ x.promised.verdict);
    }

pub four_counts : FourCounts
four_counts =
    record {
      each = λ x ts q.
          let p = counted_is x.r (counts_of (verdicts ts x.b (length x.work))) (answered x q) in
          (p.0, p.1, p.2, ap total_of p.2 ∙ counts_all ts x.b (length x.work));
      more = λ x y same h room c d e f. more x y same h room c d e f;
    }
  where
    more : (x y : TableCall) → read y.text ≡ read x.text → x.b ≤ y.b → length y.work ≡ length x.work → (c d : Counts)
        → x.r ≡ Ok c → y.r ≡ Ok d → (c.meeting ≤ d.meeting) × (c.missing ≤ d.missing)
    more x y same h room c d e f =
        let m = is_readable x c (read x.text) refl e in
        let ts = m.0 in
        let own = counts_of_lem x c ts m.1 e in
        let other = counts_of_lem y d ts (same ∙ m.1) f ∙ ap (λ (n : ℕ). counts_of (verdicts ts y.b n)) room in (
          omega (
            arith,
            ap (λ (n : Meant.Counts). n.meeting) own,
            ap (λ (n : Meant.Counts). n.meeting) other,
            meets_mono ts (length x.work) x.b y.b h,
          ),
          omega (
            arith,
            ap (λ (n : Meant.Counts). n.missing) own,
            ap (λ (n : Meant.Counts). n.missing) other,
            misses_mono ts (length x.work) x.b y.b h,
          ),
        )

-- ---- what the statements settle

pub settled : Settled
settled text i v b work wit r s work₁ wit₁ work₂ wit₂ j k =
    (same_verdict r s (j.verdict ∙ sym k.verdict), j.cells ∙ sym k.cells, j.paths ∙ sym k.paths)

pub settled_latest : SettledLatest
settled_latest text i v b work wit r s work₁ wit₁ work₂ wit₂ j k =
    (same_lateness r s (j.answer_is ∙ sym k.answer_is), j.cells ∙ sym k.cells, j.paths ∙ sym k.paths)

-- a table's verdict from its answer
abbrev table_verdict_of : TableAnswer → Result Counts RefusedAt
table_verdict_of (counted n) = Ok (record { meeting = n.meeting; missing = n.missing; unfinishing = n.unfinishing; refusing = n.refusing })
table_verdict_of (uncounted k n) = Err (record { refusal = refusal_of k; place = n })

verdict_of-answer : (r : Result Counts RefusedAt) → table_verdict_of (answer_of r) ≡ r
verdict_of-answer (Ok c) = refl
verdict_of-answer (Err at) = ap (λ (k : Refusal). Err (record { refusal = k; place = at.place })) (refusal-of_number at.refusal)

pub same_table_verdict : (r s : Result Counts RefusedAt) → answer_of r ≡ answer_of s → r ≡ s
same_table_verdict r s q = sym (verdict_of-answer r) ∙ ap table_verdict_of q ∙ verdict_of-answer s

pub settled_table : SettledTable
settled_table text b work r s work₁ work₂ j k = (same_table_verdict r s (j.verdict ∙ sym k.verdict), j.cells ∙ sym k.cells)

pub settled-output : SettledOutput
settled-output text out r s out₁ out₂ j k = (j.end ∙ sym k.end, j.cells ∙ sym k.cells)

pub fits : OutputFits
fits = output-fits
