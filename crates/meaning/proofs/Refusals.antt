-- The refusal sheet's rows 8 to 11: none is given exactly when none holds.
use mathlib.Core.Path.{◌≡◌, refl, sym, ◌∙◌}
use Prim.Native.Nat.{ℕ, ◌≤◌, ◌<◌}
use native.Mathlib.Nat.{le_trans}
use native.Mathlib.Omega.{arith}
use mathlib.Core.Bool.{Bool, true, false, not, ◌&&◌, true≢false}
use mathlib.Core.Option.{Option, none, some}
use mathlib.Core.List.{List, [], ◌∷◌}
use lib.ListN.{length}
use lib.Dec.{T, ltb, ltb→lt}
use borrow.Author.Tests.{lt-ltb, le-ltb, ltb-false}
use Rattle.meaning.specs.Lists.{first_that}
use Rattle.meaning.specs.Table.{Table, no_task, no_vertex, task_at, vertex_at}
use Rattle.meaning.specs.Verdict.{deadline}
use Rattle.meaning.specs.Areas.{work_need, witness_need}
use Rattle.meaning.specs.Judge.{Row, crowded, row8, row9, row10, row11, refusal}
use Rattle.meaning.specs.Sound.{SoundVertex, SoundTable}
use Rattle.meaning.proofs.Lists.{both_left, both_right, mem_get_or}
use Rattle.meaning.proofs.Firsts.{first_hit, first_skip}

-- ---- rows in order

-- the first that holds
abbrev pub first_row : List Row → Option Row
first_row rows = first_that (λ (r : Row). r.holds) rows

pub row_none : (r : Row) (rs : List Row) → r.holds ≡ false → first_row (r ∷ rs) ≡ first_row rs
row_none r rs h = first_skip (λ (x : Row). x.holds) r rs h

pub row_some : (r : Row) (rs : List Row) → r.holds ≡ true → first_row (r ∷ rs) ≡ some r
row_some r rs h = first_hit (λ (x : Row). x.holds) r rs h

none_row : (r : Row) (rs : List Row) → first_row (r ∷ rs) ≡ none → (r.holds ≡ false) × (first_row rs ≡ none)
none_row r rs q = go r.holds refl
  where
    go : (b : Bool) → r.holds ≡ b → (r.holds ≡ false) × (first_row rs ≡ none)
    go true h = absurd (let e : some r ≡ none = sym (row_some r rs h) ∙ q in let z : ◌≡◌ {A = ℕ} 0 1 = cc in omega arith)
    go false h = (h, sym (row_none r rs h) ∙ q)

-- ---- no row holds

pub record Admits (ts : Table) (i v work wit : ℕ) : Type 0 where
  pub task : i < length ts
  pub vertex : v < length (task_at ts i).vertices
  pub paths : length (crowded ts i (deadline ts i v)) ≤ 0
  pub cells : work_need ts i v ≤ work
  pub room : witness_need ts i v ≤ wit

not_false : (b : Bool) → not b ≡ false → T b
not_false true h = tt
not_false false h = true≢false h

module _ (ts : Table) (i v work wit : ℕ) where
  -- the rows behind 8, 9 and 10
  abbrev behind10 : List Row
  behind10 = row11 ts i v wit ∷ []

  abbrev behind9 : List Row
  behind9 = row10 ts i v work ∷ behind10

  abbrev behind8 : List Row
  behind8 = row9 ts i v ∷ behind9

  pub admits_none : Admits ts i v work wit → refusal ts i v work wit ≡ none
  unfolding refusal
  admits_none a =
      row_none (row8 ts i v) behind8 (rw (lt-ltb i (length ts) a.task, lt-ltb v (length (task_at ts i).vertices) a.vertex))
      ∙ row_none (row9 ts i v) behind9 (le-ltb 0 (length (crowded ts i (deadline ts i v))) a.paths)
      ∙ row_none (row10 ts i v work) behind10 (le-ltb work (work_need ts i v) a.cells)
      ∙ row_none (row11 ts i v wit) [] (le-ltb wit (witness_need ts i v) a.room)

  pub none_admits : refusal ts i v work wit ≡ none → Admits ts i v work wit
  unfolding refusal
  none_admits q =
      let r8 = none_row (row8 ts i v) behind8 q in
      let r9 = none_row (row9 ts i v) behind9 r8.1 in
      let r10 = none_row (row10 ts i v work) behind10 r9.1 in
      let r11 = none_row (row11 ts i v wit) [] r10.1 in
      let there = not_false (ltb i (length ts) && ltb v (length (task_at ts i).vertices)) r8.0 in
      record {
        task = ltb→lt i (length ts) (both_left (ltb i (length ts)) (ltb v (length (task_at ts i).vertices)) there);
        vertex = ltb→lt v (length (task_at ts i).vertices) (both_right (ltb i (length ts)) (ltb v (length (task_at ts i).vertices)) there);
        paths = ltb-false 0 (length (crowded ts i (deadline ts i v))) r9.0;
        cells = ltb-false work (work_need ts i v) r10.0;
        room = ltb-false wit (witness_need ts i v) r11.0;
      }

-- larger areas are not refused where smaller ones were not
pub larger_none : (ts : Table) (i v work work' wit wit' : ℕ) → work ≤ work' → wit ≤ wit' → refusal ts i v work wit ≡ none → refusal ts i v work' wit' ≡ none
larger_none ts i v work work' wit wit' h k q =
    let a = none_admits ts i v work wit q in
    admits_none ts i v work' wit' (record { task = a.task; vertex = a.vertex; paths = a.paths; cells = le_trans a.cells h; room = le_trans a.room k })

-- a vertex that isn't refused is one of the table's, and keeps its rules
pub admitted_sound : (ts : Table) → SoundTable ts → (i v work wit : ℕ) → refusal ts i v work wit ≡ none → SoundVertex (vertex_at (task_at ts i) v)
admitted_sound ts s i v work wit q =
    let a = none_admits ts i v work wit q in
    let k = task_at ts i in
    (s.each_task k (mem_get_or no_task ts i a.task)).each_vertex (vertex_at k v) (mem_get_or no_vertex k.vertices v a.vertex)
