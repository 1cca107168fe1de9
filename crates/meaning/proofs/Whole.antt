-- The whole table's verdicts are those of its vertices, each judged with a witness area that is long enough.
use mathlib.Core.Path.{◌≡◌, refl, sym, ap, subst, ◌∙◌}
use Prim.Native.Nat.{ℕ, suc, ◌+◌, ◌-◌, ◌≤◌, ◌<◌}
use native.Mathlib.Nat.{le_refl, le_trans, mul-le-mul}
use native.Mathlib.Omega.{arith}
use mathlib.Core.Bool.{Bool, true, false}
use mathlib.Core.Option.{some}
use mathlib.Core.Logic.{◌⊎◌, inl, inr}
use mathlib.Core.List.Memᴰ
use mathlib.Core.List.{List, [], ◌∷◌, ◌++◌, map, Memᴰ}
use lib.ListN.{length, get_or}
use borrow.Author.Tests.{lt-ltb, le-ltb}
use Rattle.meaning.specs.Lists.{below}
use Rattle.meaning.specs.Bounds.{desk_witness, largest_d}
use Rattle.meaning.specs.Table.{Task, Table, no_task, no_vertex, task_at, vertex_at}
use Rattle.meaning.specs.Verdict.{refused, deadline, plain}
use Rattle.meaning.specs.Areas.{witness_need}
use Rattle.meaning.specs.Judge.{Row, row8, row9, row10, row11, refusal, unless_refused, judged}
use Rattle.meaning.specs.Whole.{Place, places_from, places, verdict_at}
use Rattle.meaning.specs.Sound.{SoundTable}
use Rattle.meaning.proofs.Lists.{count_from_mem, mem_get_or}
use Rattle.meaning.proofs.Refusals.{first_row, row_none, row_some}
use Rattle.meaning.proofs.Verdicts.{walked_at, judged_refused, judged_row}

-- ---- the vertices of a table

-- vertex v of the task that stands j places on
record Here (ks : List Task) (j v : ℕ) : Type 0 where
  task : j < length ks
  vertex : v < length (get_or ks j no_task).vertices

here_later : (k : Task) (ks : List Task) (i t v : ℕ) → suc i ≤ t → Here ks (t - suc i) v → Here (k ∷ ks) (t - i) v
here_later k ks i t v h x = subst (λ (j : ℕ). Here (k ∷ ks) j v) (omega arith) later
  where
    later : Here (k ∷ ks) (suc (t - suc i)) v
    later = record { task = omega (arith, x.task); vertex = x.vertex }

places_from_lem : (i : ℕ) (ks : List Task) (q : Place) → Memᴰ q (places_from i ks) → (i ≤ q.task) × Here ks (q.task - i) q.vertex
places_from_lem i [] q m = absurd (Memᴰ.not-nil m)
places_from_lem i (k ∷ ks) q m = go (λ n. places_from_lem (suc i) ks q n)
    (Memᴰ.append_cases (map (λ (v : ℕ). record { task = i; vertex = v }) (below (length k.vertices))) m)
  where
    first : (v : ℕ) → v < length k.vertices → Here (k ∷ ks) (i - i) v
    first v h =
        let e : 0 ≡ i - i = omega arith in
        subst (λ (j : ℕ). Here (k ∷ ks) j v) e (record { task = omega arith; vertex = h })

    go : (Memᴰ q (places_from (suc i) ks) → (suc i ≤ q.task) × Here ks (q.task - suc i) q.vertex)
        → Memᴰ q (map (λ (v : ℕ). record { task = i; vertex = v }) (below (length k.vertices))) ⊎ Memᴰ q (places_from (suc i) ks)
        → (i ≤ q.task) × Here (k ∷ ks) (q.task - i) q.vertex
    go ih (inl n) =
        let r = Memᴰ.of_map {B = Place} (λ (v : ℕ). record { task = i; vertex = v }) (below (length k.vertices)) n in
        subst (λ (p : Place). (i ≤ p.task) × Here (k ∷ ks) (p.task - i) p.vertex) r.2
        (le_refl i, first r.0 (omega (arith, count_from_mem 0 (length k.vertices) r.0 r.1)))
    go ih (inr n) = let r = ih n in (omega (arith, r.0), here_later k ks i q.task q.vertex r.0 r.1)

pub place_in : (ts : Table) (q : Place) → Memᴰ q (places ts) → (q.task < length ts) × (q.vertex < length (task_at ts q.task).vertices)
place_in ts q m =
    let r = (places_from_lem 0 ts q m).1 in
    let e : q.task - 0 ≡ q.task = omega arith in
    (omega (arith, r.task), subst (λ (j : ℕ). q.vertex < length (get_or ts j no_task).vertices) e r.vertex)

-- ---- each is judged as with any witness area that is long enough

last_row : (rows : List Row) (r s : Row) → r.holds ≡ false → s.holds ≡ false → first_row (rows ++ (r ∷ [])) ≡ first_row (rows ++ (s ∷ []))
last_row [] r s p q = row_none r [] p ∙ sym (row_none s [] q)
last_row (x ∷ rows) r s p q = go x.holds refl (last_row rows r s p q)
  where
    go : (a : Bool) → x.holds ≡ a → first_row (rows ++ (r ∷ [])) ≡ first_row (rows ++ (s ∷ []))
        → first_row (x ∷ rows ++ (r ∷ [])) ≡ first_row (x ∷ rows ++ (s ∷ []))
    go true e ih = row_some x (rows ++ (r ∷ [])) e ∙ sym (row_some x (rows ++ (s ∷ [])) e)
    go false e ih = row_none x (rows ++ (r ∷ [])) e ∙ ih ∙ sym (row_none x (rows ++ (s ∷ [])) e)

pub verdict_at_lem : (ts : Table) (b work wit : ℕ) (q : Place) → witness_need ts q.task q.vertex ≤ wit
    → verdict_at ts b work q ≡ judged plain ts q.task q.vertex b work wit
unfolding judged refusal
verdict_at_lem ts b work wit q h =
    let i = q.task in
    let v = q.vertex in
    let need = witness_need ts i v in
    ap (λ o. unless_refused o (walked_at plain ts i v b))
    (last_row (row8 ts i v ∷ row9 ts i v ∷ row10 ts i v work ∷ []) (row11 ts i v need) (row11 ts i v wit)
    (le-ltb need need (le_refl need)) (le-ltb wit need h))

-- ---- of the sheet only 9 and 10 are left

module _ (ts : Table) (b work : ℕ) (q : Place) (m : Memᴰ q (places ts)) where
  abbrev i : ℕ
  i = q.task

  abbrev v : ℕ
  v = q.vertex

  abbrev need : ℕ
  need = witness_need ts i v

  past_8 : refusal ts i v work need ≡ first_row (row9 ts i v ∷ row10 ts i v work ∷ row11 ts i v need ∷ [])
  unfolding refusal
  past_8 =
      let p = place_in ts q m in
      row_none (row8 ts i v) (row9 ts i v ∷ row10 ts i v work ∷ row11 ts i v need ∷ [])
      (rw (lt-ltb i (length ts) p.0, lt-ltb v (length (task_at ts i).vertices) p.1))

  by_row : (r : Row) {k place : ℕ} → refusal ts i v work need ≡ some r → verdict_at ts b work q ≡ refused k place → r.number ≡ k
  by_row r h e = let x : refused r.number r.place ≡ refused _ _ = sym (judged_refused plain ts i v b work need r h) ∙ e in cc

  pub nine_or_ten : (k place : ℕ) → verdict_at ts b work q ≡ refused k place → (k ≡ 9) ⊎ (k ≡ 10)
  nine_or_ten k place e = go (row9 ts i v).holds refl (row10 ts i v work).holds refl
    where
      behind9 : List Row
      behind9 = row10 ts i v work ∷ row11 ts i v need ∷ []

      go : (x : Bool) → (row9 ts i v).holds ≡ x → (y : Bool) → (row10 ts i v work).holds ≡ y → (k ≡ 9) ⊎ (k ≡ 10)
      go true p y r = inl (sym (by_row (row9 ts i v) (past_8 ∙ row_some (row9 ts i v) behind9 p) e))
      go false p true r =
          inr (sym (by_row (row10 ts i v work) (past_8 ∙ row_none (row9 ts i v) behind9 p ∙ row_some (row10 ts i v work) (row11 ts i v need ∷ []) r) e))
      go false p false r =
          absurd
          (judged_row plain ts i v b work need
          (past_8 ∙ row_none (row9 ts i v) behind9 p ∙ row_none (row10 ts i v work) (row11 ts i v need ∷ []) r
          ∙ row_none (row11 ts i v need) [] (le-ltb need need (le_refl need)))
          k place e)

-- ---- the desk's witness area is always long enough

pub desk_witness_lem : (ts : Table) → SoundTable ts → (q : Place) → Memᴰ q (places ts) → witness_need ts q.task q.vertex ≤ desk_witness
desk_witness_lem ts s q m =
    let p = place_in ts q m in
    let k = task_at ts q.task in
    let sound = s.each_task k (mem_get_or no_task ts q.task p.0) in
    let short : 1 + deadline ts q.task q.vertex ≤ 1 + largest_d =
    omega (arith, (sound.each_vertex (vertex_at k q.vertex) (mem_get_or no_vertex k.vertices q.vertex p.1)).most_d) in
    let few : q.task ≤ 7 = omega (arith, s.task_count, p.0) in
    le_trans (mul-le-mul few short) (omega arith)
