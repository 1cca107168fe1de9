-- What is told of a vertex at a return: a refusal with nothing changed, or what a walk's ending says.
use mathlib.Core.Path.{◌≡◌, refl, sym, ap, ap₂, subst, ◌∙◌}
use Prim.Native.Nat.{ℕ, ◌≤◌, ◌<◌}
use native.Mathlib.Omega.{arith}
use native.Mathlib.Decide.{dec_lt}
use mathlib.Core.List.{List, [], ◌∷◌}
use lib.ListN.{length, get_or, take}
use lib.Dec.{eqb}
use Rattle.std.specs.Prelude.{Result, Err}
use Rattle.meaning.specs.Lists.{pick}
use Rattle.meaning.specs.Paths.{Path}
use Rattle.meaning.specs.Verdict as Said
use Rattle.meaning.specs.Verdict.{numbers, late_numbers, cells_of, shown_paths}
use Rattle.meaning.specs.Areas.{zeroed, written, work_after, Wrote}
use Rattle.meaning.proofs.Wrote.{front-set}
use Rattle.kinds.specs.declared.Refusal.{Refusal}
use Rattle.kinds.specs.declared.Refusal.TheVariants.{NoSuchVertex, WorkTooShort, WitnessTooShort}
use Rattle.kinds.specs.declared.RefusedAt.{RefusedAt}
use Rattle.kinds.specs.declared.Verdict.{Verdict}
use Rattle.kinds.specs.declared.Lateness.{Lateness}
use Rattle.kinds.specs.declared.Lateness.TheVariants as Late
use Rattle.kinds.specs.Numbers.{refusal_number, verdict_numbers, verdict_in, lateness_numbers}
use Rattle.table.specs.declared.Table.{Table}
use Rattle.table.specs.Inner.{table_of, Held}
use Rattle.table.proofs.Records.{held_count}
use Rattle.table.proofs.Vertices.{own_task, own_size}
use Rattle.walk.specs.declared.Ending.{Ending}
use Rattle.walk.specs.declared.Ending.TheVariants.{Meets, Misses, Unfinished}
use Rattle.search.specs.Meant.{beside, meant_by}
use Rattle.sheet.specs.Sheet.{refused_at, no_such_vertex, area_rows, said_of}
use Rattle.sheet.proofs.Needs.{row_10, row_11, rows_passed, same_at, not_refused}
use Rattle.judge.specs.Judged.{AnsweredBy}
use Rattle.judge.specs.Inner.{Answered, VertexJudged, There}
use Rattle.judge.proofs.Sheet.{no_task_lem, no_vertex_lem}

-- a refusal changes nothing
pub answer_refused : (J : Said.Verdict) (us : List Path) (t : ℕ) (ρ : Refusal) (place need : ℕ) (work wit : List ℕ) {r : Lateness}
    → r ≡ Late.Refused (refused_at ρ place) → J ≡ Said.refused (refusal_number ρ) place → AnsweredBy J t us need work wit r work wit
answer_refused J us t ρ place need work wit {r} e q =
    subst (λ (y : Lateness). AnsweredBy J t us need work wit y work wit) (sym e)
    (subst (λ y. AnsweredBy y t us need work wit (Late.Refused (refused_at ρ place)) work wit) (sym q)
    (record { answer_is = refl; cells = refl; paths = refl }))

-- rows 10 and 11, for areas of which so many cells are needed
pub answer_area : {J : Said.Verdict} {us : List Path} {t need : ℕ} {work wit : List ℕ} (n m : ℕ) → (length work < n → J ≡ Said.refused 10 n)
    → (n ≤ length work → length wit < m → J ≡ Said.refused 11 m) → {x : Result (Unit {0}) RefusedAt} → x ≡ area_rows n m (length work) (length wit)
    → {at : RefusedAt} → x ≡ Err at → {r : Lateness} → r ≡ Late.Refused at → AnsweredBy J t us need work wit r work wit
answer_area {J} {us} {t} {need} {work} {wit} n m ten eleven p {at} q {r} g = by (dec_lt (length work) n) (dec_lt (length wit) m)
  where
    row : (ρ : Refusal) (place : ℕ) → area_rows n m (length work) (length wit) ≡ Err (refused_at ρ place) → J ≡ Said.refused (refusal_number ρ) place
        → AnsweredBy J t us need work wit r work wit
    row ρ place e said = answer_refused J us t ρ place need work wit (g ∙ ap Late.Refused (sym (same_at (sym e ∙ sym p ∙ q)))) said

    by : Dec (length work < n) → Dec (length wit < m) → AnsweredBy J t us need work wit r work wit
    by (yes h) l = row WorkTooShort n (sym (row_10 n m (length work) (length wit) h)) (ten h)
    by (no h) (yes l) = row WitnessTooShort m (sym (row_11 n m (length work) (length wit) (omega arith) l)) (eleven (omega arith) l)
    by (no h) (no l) = absurd (not_refused (rows_passed n m (length work) (length wit) (omega arith) (omega arith) ∙ sym p ∙ q))

-- ---- a vertex that the table hasn't

module _ (asks : Said.Asked) (t : Table) (k : Held t) (i v b : ℕ) (work wit : List ℕ) where
  abbrev Refuses : Lateness → Type 0
  Refuses r = VertexJudged asks (table_of t) i v b work wit r work wit

  -- "no such task or vertex"
  pub answer_8 : t.n ≤ i → {r : Lateness} → r ≡ no_such_vertex → Refuses r
  answer_8 h e =
      answer_refused _ _ _ NoSuchVertex 0 _ work wit e (no_task_lem asks (table_of t) i v b (length work) (length wit) (omega (arith, held_count t k)))

  pub answer_8_vertex : i < t.n → (own_task t i).nv ≤ v → {r : Lateness} → r ≡ no_such_vertex → Refuses r
  answer_8_vertex l h e = answer_refused _ _ _ NoSuchVertex 0 _ work wit e
      (no_vertex_lem asks (table_of t) i v b (length work) (length wit) (omega (arith, own_size t k i l)))

  pub is_there_lem : i < t.n → v < (own_task t i).nv → There (table_of t) (record { task = i; vertex = v })
  is_there_lem l m = record { task = omega (arith, held_count t k); vertex = omega (arith, own_size t k i l) }

-- ---- a walk's ending

-- the paths ps are shown, and their cells stand in the witness area
pub answer_ended : (end : Ending) (ws : List Path) {us ps : List Path} {tick need finish cells : ℕ} {work wit Z wit' : List ℕ} {r : Lateness}
    → shown_paths us (meant_by end ws) ≡ ps → Wrote (cells_of ps) wit 0 wit' cells → cells ≤ length wit → finish ≡ beside (meant_by end ws) tick
    → Z ≡ zeroed need work → r ≡ said_of end finish cells → AnsweredBy (meant_by end ws) tick us need work wit r Z wit'
answer_ended end ws {us} {ps} {tick} {need} {finish} {cells} {work} {wit} {Z} {wit'} shown w room f clear q =
    record {
      answer_is = ap lateness_numbers q ∙ said-numbers end f (w.end ∙ omega arith ∙ ap (λ (vs : List Path). length (cells_of vs)) (sym shown));
      cells = clear ∙ all-zeroed end;
      paths = w.cells ∙ front-set (cells_of ps) wit (omega (arith, w.end)) ∙ ap (λ (vs : List Path). written (cells_of vs) wit) (sym shown);
    }
  where
    said-numbers : (y : Ending) → finish ≡ beside (meant_by y ws) tick → cells ≡ length (cells_of (shown_paths us (meant_by y ws)))
        → lateness_numbers (said_of y finish cells) ≡ late_numbers tick us (meant_by y ws)
    said-numbers (Meets n) p l = ap₂ (λ (m t : ℕ). 0 ∷ n ∷ m ∷ t ∷ []) l p
    said-numbers (Misses n) p l = ap (λ (m : ℕ). 1 ∷ n ∷ m ∷ []) l
    said-numbers (Unfinished n) p l = refl

    all-zeroed : (y : Ending) → zeroed need work ≡ work_after (meant_by y ws) need work
    all-zeroed (Meets n) = refl
    all-zeroed (Misses n) = refl
    all-zeroed (Unfinished n) = refl

-- ---- the verdict in it

-- a verdict's numbers among those of an answer with more of them
abbrev alone : List ℕ → List ℕ
alone ns = pick (eqb (get_or ns 0 0) 0) (take 2 ns) ns

code_alone : (r : Lateness) → alone (lateness_numbers r) ≡ verdict_numbers (verdict_in r)
code_alone (Late.Meets c t n) = refl
code_alone (Late.Misses c n) = refl
code_alone (Late.Unfinished b) = refl
code_alone (Late.Refused at) = refl

meant_alone : (x : Said.Verdict) (t : ℕ) (us : List Path) → alone (late_numbers t us x) ≡ numbers x
meant_alone (Said.meets c) t us = refl
meant_alone (Said.misses c ws) t us = refl
meant_alone (Said.unfinished b) t us = refl
meant_alone (Said.refused k place) t us = refl

pub answered : {x : Said.Verdict} {t need : ℕ} {us : List Path} {work wit : List ℕ} {r : Lateness} {v : Verdict} {work' wit' : List ℕ}
    → AnsweredBy x t us need work wit r work' wit' → v ≡ verdict_in r → Answered x us need work wit v work' wit'
answered {x} {t} {us = us} {r = r} a q =
    record {
      verdict = ap verdict_numbers q ∙ sym (code_alone r) ∙ ap alone a.answer_is ∙ meant_alone x t us;
      cells = a.cells;
      paths = a.paths;
    }
