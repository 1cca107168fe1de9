-- A task or vertex number above 255 gets the answer that 255 gets: no readable table has so many tasks, and no task so many vertices.
use mathlib.Core.Path.{◌≡◌, refl, sym, ap, ◌∙◌}
use Prim.Native.Nat.{ℕ, ◌<◌, min}
use native.Mathlib.Omega.{arith}
use native.Mathlib.Decide.{dec_lt}
use mathlib.Core.List.{List}
use lib.ListN.{length}
use Rattle.meaning.specs.Table.{Table, no_task, task_at}
use Rattle.meaning.specs.Text.{Reading, readable, unreadable, read, tasks_of}
use Rattle.meaning.specs.Sound.{SoundTable}
use Rattle.meaning.specs.Verdict.{Verdict, refused, numbers, late_numbers, Asked, latest, worst_at, latest_paths, meets_paths}
use Rattle.meaning.specs.Areas.{work_need, work_after, witness_after}
use Rattle.meaning.specs.Judge.{judged, on_reading}
use Rattle.meaning.proofs.Lists.{mem_get_or}
use Rattle.meaning.proofs.Demands.{readable_sound}
use Rattle.kinds.specs.declared.Verdict as Code
use Rattle.kinds.specs.declared.Lateness.{Lateness}
use Rattle.judge.specs.Judged.{JudgedBy, LatestJudged}
use Rattle.judge.proofs.Sheet.{no_task_lem, no_vertex_lem}

-- whatever a call gives by its verdict and the two numbers, and of a refusal by no number
module _ (asked : Asked) (i v b lw lx : ℕ) {X : Type 0} (F : Verdict → ℕ → ℕ → X) (blind : (k n j w : ℕ) → F (refused k n) j w ≡ F (refused k n) i v) where
  abbrev At : Reading → ℕ → ℕ → X
  At m j w = F (on_reading m (λ (ts : Table). judged asked ts j w b lw lx)) j w

  both_refused : {x y : Verdict} (j w : ℕ) → x ≡ refused 8 0 → y ≡ refused 8 0 → F x j w ≡ F y i v
  both_refused j w p q = ap (λ (z : Verdict). F z j w) p ∙ blind 8 0 j w ∙ sym (ap (λ (z : Verdict). F z i v) q)

  of-task : (ts : Table) → SoundTable ts → i < length ts → At (readable ts) i (min v 255) ≡ At (readable ts) i v
  of-task ts s h =
      let few = (s.each_task (task_at ts i) (mem_get_or no_task ts i h)).vertex_count in
      elim (dec_lt v (length (task_at ts i).vertices)) [
        | yes l ↦ let e : min v 255 ≡ v = omega (arith, few) in ap (At (readable ts) i) e
        | no l ↦
            both_refused i (min v 255) (no_vertex_lem asked ts i (min v 255) b lw lx (omega (arith, few))) (no_vertex_lem asked ts i v b lw lx (omega arith))
      ]

  of_table : (ts : Table) → SoundTable ts → At (readable ts) (min i 255) (min v 255) ≡ At (readable ts) i v
  of_table ts s =
      elim (dec_lt i (length ts)) [
        | yes h ↦ let e : min i 255 ≡ i = omega (arith, s.task_count) in ap (λ (j : ℕ). At (readable ts) j (min v 255)) e ∙ of-task ts s h
        | no h ↦
            both_refused (min i 255) (min v 255) (no_task_lem asked ts (min i 255) (min v 255) b lw lx (omega (arith, s.task_count)))
            (no_task_lem asked ts i v b lw lx (omega arith))
      ]

  of_reading : (text : List ℕ) (m : Reading) → read text ≡ m → At m (min i 255) (min v 255) ≡ At m i v
  of_reading text (readable ts) e = of_table ts (readable_sound text ts e)
  of_reading text (unreadable k n) e = blind k n (min i 255) (min v 255)

  of_text : (text : List ℕ) {j w : ℕ} → j ≡ min i 255 → w ≡ min v 255 → At (read text) j w ≡ At (read text) i v
  of_text text p q = rw (p, q) (of_reading text (read text) refl)

pub wide_judged : (asked : Asked) (text : List ℕ) (i v b : ℕ) {work wit : List ℕ} {j w : ℕ} {r : Code.Verdict} {work' wit' : List ℕ} → j ≡ min i 255
    → w ≡ min v 255 → JudgedBy asked text j w b work wit r work' wit' → JudgedBy asked text i v b work wit r work' wit'
wide_judged asked text i v b {work} {wit} {j} {w} p q t =
    let ts = tasks_of (read text) in
    let lw = length work in
    let lx = length wit in
    record {
      verdict = t.verdict ∙ of_text asked i v b lw lx (λ x m n. numbers x) (λ k n m o. refl) text p q;
      cells = t.cells ∙ of_text asked i v b lw lx (λ x m n. work_after x (work_need ts m n) work) (λ k n m o. refl) text p q;
      paths = t.paths ∙ of_text asked i v b lw lx (λ x m n. witness_after (meets_paths asked ts m n) x wit) (λ k n m o. refl) text p q;
    }

pub wide_latest : (text : List ℕ) (i v b : ℕ) {work wit : List ℕ} {j w : ℕ} {r : Lateness} {work' wit' : List ℕ} → j ≡ min i 255 → w ≡ min v 255
    → LatestJudged text j w b work wit r work' wit' → LatestJudged text i v b work wit r work' wit'
wide_latest text i v b {work} {wit} {j} {w} p q t =
    let ts = tasks_of (read text) in
    let lw = length work in
    let lx = length wit in
    record {
      answer_is = t.answer_is ∙ of_text latest i v b lw lx (λ x m n. late_numbers (worst_at ts m n) (latest_paths ts m n) x) (λ k n m o. refl) text p q;
      cells = t.cells ∙ of_text latest i v b lw lx (λ x m n. work_after x (work_need ts m n) work) (λ k n m o. refl) text p q;
      paths = t.paths ∙ of_text latest i v b lw lx (λ x m n. witness_after (latest_paths ts m n) x wit) (λ k n m o. refl) text p q;
    }
