-- A yes for a whole table is right: no counted doubt, so every verdict meets, so no vertex can be late.
use mathlib.Core.Path.{◌≡◌, refl, sym, ap, subst, ◌∙◌}
use Prim.Native.Nat.{ℕ}
use native.Mathlib.Omega.{arith}
use mathlib.Core.List.Memᴰ
use mathlib.Core.List.{List}
use lib.Dec.{T}
use Rattle.std.specs.Prelude.{Result, Ok, Err}
use Rattle.meaning.specs.Verdict.{plain}
use Rattle.meaning.specs.Table.{Table}
use Rattle.meaning.specs.Text.{Reading, readable, unreadable, read}
use Rattle.meaning.specs.Areas.{witness_need}
use Rattle.meaning.specs.Judge.{judged, on_reading}
use Rattle.meaning.specs.Whole as Meant
use Rattle.meaning.specs.Whole.{places, verdict_at, verdicts, counts_of, table_answer}
use Rattle.meaning.proofs.Demands.{readable_sound}
use Rattle.meaning.proofs.Answers.{sound_higher, meets_says}
use Rattle.kinds.specs.declared.RefusedAt.{RefusedAt}
use Rattle.counts.specs.declared.Counts.{Counts}
use Rattle.counts.specs.Counts.{meant_counts}
use Rattle.counts.specs.GoesOut.{goes_out}
use Rattle.counts.proofs.GoesOut.{Meets, goes_out_meets, meets_go_out}
use Rattle.judge.specs.Whole.{answer_of}
use Rattle.judge.specs.GoesOut.{SaysYes, NoneLate, AllMeet, GoesOut}

module _ (text : List ℕ) (b n : ℕ) where
  all_meet : (r : Result Counts RefusedAt) (ts : Table) → answer_of r ≡ table_answer (readable ts) b n → SaysYes r → AllMeet ts b n
  all_meet (Ok c) ts e t p m =
      let same : meant_counts c ≡ counts_of (verdicts ts b n) = cc in
      goes_out_meets (verdicts ts b n) (subst (λ (k : Meant.Counts). T (goes_out k)) same t) (verdict_at ts b n p) (Memᴰ.map (verdict_at ts b n) m)
  all_meet (Err at) ts e t p m = absurd t

  goes : (r : Result Counts RefusedAt) (ts : Table) → answer_of r ≡ table_answer (readable ts) b n → AllMeet ts b n → SaysYes r
  goes (Ok c) ts e h =
      let same : meant_counts c ≡ counts_of (verdicts ts b n) = cc in
      subst (λ (k : Meant.Counts). T (goes_out k)) (sym same)
      (meets_go_out (verdicts ts b n) (λ x m. let p = Memᴰ.of_map (verdict_at ts b n) (places ts) m in subst Meets p.2 (h p.0 p.1)))
  goes (Err at) ts e h = let z : ◌≡◌ {A = ℕ} 0 1 = cc in absurd (omega arith)

  late_none : (ts : Table) → read text ≡ readable ts → AllMeet ts b n → NoneLate ts
  late_none ts q h p m =
      let i = p.task in
      let v = p.vertex in
      let need = witness_need ts i v in
      let x = h p m in
      let from-text = ap (λ (k : Reading). on_reading k (λ (us : Table). judged plain us i v b n need)) q in
      (meets_says plain text ts q i v (sound_higher ts i (readable_sound text ts q)) b n need x.0 (from-text ∙ x.1)).0

  only : (r : Result Counts RefusedAt) (m : Reading) → read text ≡ m → answer_of r ≡ table_answer m b n → SaysYes r → (ts : Table) × (read text ≡ readable ts) × NoneLate ts
  only r (readable ts) q e t = (ts, q, late_none ts q (all_meet r ts e t))
  only (Ok c) (unreadable k l) q e t = let z : ◌≡◌ {A = ℕ} 0 1 = cc in absurd (omega arith)
  only (Err at) (unreadable k l) q e t = absurd t

pub goes_out_lem : GoesOut
goes_out_lem =
    record {
      exactly = λ text b n r e ts q.
          let same = e ∙ ap (λ (m : Reading). table_answer m b n) q in
          (all_meet text b n r ts same, goes text b n r ts same);
      none_late = λ text b n r e. only text b n r (read text) refl e;
    }
