-- The refusal sheet's rows 8 to 11, from what the code tests, in order.
use mathlib.Core.Path.{◌≡◌, refl, sym, ap, subst, ◌∙◌}
use Prim.Native.Nat.{ℕ, zero, suc, ◌+◌, ◌*◌, ◌≤◌, ◌<◌}
use native.Mathlib.Omega.{arith}
use native.Mathlib.Nat.{mul_comm}
use mathlib.Core.Bool.{Bool, true, false, not}
use mathlib.Core.List.{List, [], ◌∷◌, map}
use lib.ListN.{length, get_or, take}
use lib.Seq.{get_or-take, length-take-le}
use lib.Dec.{ltb}
use borrow.Author.Tests.{lt-ltb, le-ltb}
use Rattle.meaning.specs.Lists.{sum, those, count_from}
use Rattle.meaning.specs.Bounds.{most_paths}
use Rattle.meaning.specs.Table as Meant
use Rattle.meaning.specs.Table.{no_task, task_at, higher}
use Rattle.meaning.specs.Paths.{paths_of}
use Rattle.meaning.specs.Verdict.{Verdict, refused, deadline, Asked}
use Rattle.meaning.specs.Areas.{rows_for, rows_of, work_need, witness_need}
use Rattle.meaning.specs.Judge.{Row, crowded, row8, row9, row10, row11, unless_refused, judged}
use Rattle.meaning.proofs.Lists.{get_or_mapped, and_false}
use Rattle.meaning.proofs.Refusals.{first_row, row_none, row_some}
use Rattle.meaning.proofs.Verdicts.{walked_at}
use Rattle.areas.specs.Above.{rows_in, path_counts}

-- ---- the first that passes a test, among numbers in turn

those-none : (f : ℕ → Bool) (a n : ℕ) → ((k : ℕ) → a ≤ k → k < a + n → f k ≡ false) → those f (count_from a n) ≡ []
those-none f a zero h = refl
those-none f a (suc n) h = rw (h a (omega arith) (omega arith)) (those-none f (suc a) n (λ k p q. h k (omega arith) (omega arith)))

those-first : (f : ℕ → Bool) (a n b : ℕ) → b < n → ((k : ℕ) → a ≤ k → k < a + b → f k ≡ false) → f (a + b) ≡ true
    → (0 < length (those f (count_from a n))) × (get_or (those f (count_from a n)) 0 0 ≡ a + b)
those-first f a zero b l h t = absurd (omega arith)
those-first f a (suc n) zero l h t =
    let e : a + 0 ≡ a = omega arith in
    let q : f a ≡ true = rw e at t in
    rw q (omega arith, sym e)
those-first f a (suc n) (suc b) l h t =
    let e : suc a + b ≡ a + suc b = omega arith in
    let r = those-first f (suc a) n b (omega arith) (λ k p q. h k (omega arith) (omega arith)) (subst (λ (m : ℕ). f m ≡ true) (sym e) t) in
    rw (h a (omega arith) (omega arith)) (r.0, r.1 ∙ e)

-- ---- the higher tasks with too many paths

module _ (ts : Meant.Table) (i d : ℕ) (w : i ≤ length ts) where
  abbrev ns : List ℕ
  ns = path_counts (higher ts i) d

  over : ℕ → Bool
  over k = ltb most_paths (length (paths_of (task_at ts k) d))

  count_is : (k : ℕ) → k < i → get_or ns k 0 ≡ length (paths_of (task_at ts k) d)
  count_is k m = get_or_mapped (λ (x : Meant.Task). length (paths_of x d)) 0 no_task (higher ts i) k (omega (arith, many))
      ∙ ap (λ (x : Meant.Task). length (paths_of x d)) (get_or-take i ts k no_task m)
    where
      many : length (take i ts) ≡ i
      many = length-take-le i ts w

  calm : (b : ℕ) → b ≤ i → ((k : ℕ) → k < b → get_or ns k 0 ≤ most_paths) → (k : ℕ) → 0 ≤ k → k < 0 + b → over k ≡ false
  unfolding over
  calm b l h k p q = le-ltb most_paths (length (paths_of (task_at ts k) d)) (omega (arith, h k (omega arith), count_is k (omega arith)))

  pub none-crowded : ((k : ℕ) → k < i → get_or ns k 0 ≤ most_paths) → length (crowded ts i d) ≤ 0
  unfolding over
  none-crowded h = rw (those-none over 0 i (calm i (omega arith) h)) (omega arith)

  pub first-crowded : (b : ℕ) → b < i → ((k : ℕ) → k < b → get_or ns k 0 ≤ most_paths)
      → most_paths < get_or ns b 0 → (0 < length (crowded ts i d)) × (get_or (crowded ts i d) 0 0 ≡ b)
  unfolding over
  first-crowded b l h m =
      let z : 0 + b ≡ b = omega arith in
      let r = those-first over 0 i b l (calm b (omega arith) h) (rw z (lt-ltb most_paths (length (paths_of (task_at ts b) d)) (omega (arith, count_is b l)))) in
      (r.0, r.1 ∙ z)

  -- the work area's need
  pub need_rows : (rows : ℕ) → rows ≡ rows_in ns → rows * d ≡ d * sum (map (rows_of d) (higher ts i))
  unfolding rows_in
  need_rows rows e = mul_comm rows d ∙ ap (λ (n : ℕ). d * n) (e ∙ fused (higher ts i))
    where
      fused : (ks : List Meant.Task) → sum (map rows_for (path_counts ks d)) ≡ sum (map (rows_of d) ks)
      fused [] = refl
      fused (x ∷ ks) = ap (λ (n : ℕ). rows_of d x + n) (fused ks)

-- ---- the judgement at each row

module _ (asked : Asked) (ts : Meant.Table) (i v b lw lx : ℕ) where
  abbrev J : Verdict
  J = judged asked ts i v b lw lx

  abbrev There : Type 0
  There = (i < length ts) × (v < length (task_at ts i).vertices)

  abbrev r8 : Row
  r8 = row8 ts i v

  abbrev r9 : Row
  r9 = row9 ts i v

  abbrev r10 : Row
  r10 = row10 ts i v lw

  abbrev r11 : Row
  r11 = row11 ts i v lx

  pub no_task_lem : length ts ≤ i → J ≡ refused 8 0
  unfolding judged
  no_task_lem h = ap (λ o. unless_refused o (walked_at asked ts i v b)) (row_some r8 (r9 ∷ r10 ∷ r11 ∷ []) (rw (le-ltb i (length ts) h)))

  pub no_vertex_lem : length (task_at ts i).vertices ≤ v → J ≡ refused 8 0
  unfolding judged
  no_vertex_lem h = ap (λ o. unless_refused o (walked_at asked ts i v b))
      (row_some r8 (r9 ∷ r10 ∷ r11 ∷ []) (rw (le-ltb v (length (task_at ts i).vertices) h) (ap not (and_false (ltb i (length ts))))))

  module _ (th : There) where
    past8 : first_row (r8 ∷ r9 ∷ r10 ∷ r11 ∷ []) ≡ first_row (r9 ∷ r10 ∷ r11 ∷ [])
    past8 = row_none r8 (r9 ∷ r10 ∷ r11 ∷ []) (rw (lt-ltb i (length ts) th.0, lt-ltb v (length (task_at ts i).vertices) th.1))

    pub at_9 : 0 < length (crowded ts i (deadline ts i v)) → J ≡ refused 9 (get_or (crowded ts i (deadline ts i v)) 0 0)
    unfolding judged
    at_9 h = ap (λ o. unless_refused o (walked_at asked ts i v b)) (past8 ∙ row_some r9 (r10 ∷ r11 ∷ []) (lt-ltb 0 (length (crowded ts i (deadline ts i v))) h))

    module _ (few : length (crowded ts i (deadline ts i v)) ≤ 0) where
      past9 : first_row (r8 ∷ r9 ∷ r10 ∷ r11 ∷ []) ≡ first_row (r10 ∷ r11 ∷ [])
      past9 = past8 ∙ row_none r9 (r10 ∷ r11 ∷ []) (le-ltb 0 (length (crowded ts i (deadline ts i v))) few)

      pub at_10 : lw < work_need ts i v → J ≡ refused 10 (work_need ts i v)
      unfolding judged
      at_10 h = ap (λ o. unless_refused o (walked_at asked ts i v b)) (past9 ∙ row_some r10 (r11 ∷ []) (lt-ltb lw (work_need ts i v) h))

      module _ (cells : work_need ts i v ≤ lw) where
        past10 : first_row (r8 ∷ r9 ∷ r10 ∷ r11 ∷ []) ≡ first_row (r11 ∷ [])
        past10 = past9 ∙ row_none r10 (r11 ∷ []) (le-ltb lw (work_need ts i v) cells)

        pub at_11 : lx < witness_need ts i v → J ≡ refused 11 (witness_need ts i v)
        unfolding judged
        at_11 h = ap (λ o. unless_refused o (walked_at asked ts i v b)) (past10 ∙ row_some r11 [] (lt-ltb lx (witness_need ts i v) h))

        pub at_walk : witness_need ts i v ≤ lx → J ≡ walked_at asked ts i v b
        unfolding judged
        at_walk h = ap (λ o. unless_refused o (walked_at asked ts i v b)) (past10 ∙ row_none r11 [] (le-ltb lx (witness_need ts i v) h))
