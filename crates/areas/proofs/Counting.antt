-- The higher tasks' numbers of paths, counted one after the other.
use mathlib.Core.Path.{◌≡◌, refl, sym, ap, ap₂, ◌∙◌}
use Prim.Native.Nat.{ℕ, zero, suc, ◌+◌, ◌*◌, ◌≤◌, ◌<◌}
use native.Mathlib.Omega.{arith}
use native.Mathlib.Nat.{mul-le-mul}
use native.Mathlib.Numerals.{add-one}
use mathlib.Core.List.{List, [], ◌∷◌, ◌++◌}
use lib.ListN.{length, take, get_or, set}
use lib.Seq.{take-suc}
use Rattle.meaning.specs.Bounds.{most_higher, most_paths, largest_d}
use Rattle.meaning.specs.Areas.{rows_for}
use Rattle.table.specs.Record.{padded}
use Rattle.table.proofs.Record.{get_or-padded, length-padded, padded_more}
use Rattle.groups.specs.declared.Stretch.{Stretch}
use Rattle.groups.specs.Lent.{roots, counts}
use Rattle.areas.specs.Above.{rows_in, starts_from, stretches_at, above_of, none_above, with_paths, Counted}

-- ---- rows, and where stretches begin

rows_snoc : (ns : List ℕ) (n : ℕ) → rows_in (ns ++ n ∷ []) ≡ rows_in ns + rows_for n
unfolding rows_in
rows_snoc [] n = omega arith
rows_snoc (m ∷ ns) n = omega (arith, rows_snoc ns n)

pub rows_more : (ns : List ℕ) (j : ℕ) → j < length ns → rows_in (take (j + 1) ns) ≡ rows_in (take j ns) + rows_for (get_or ns j 0)
rows_more ns j h = rw (add-one j, take-suc ns j 0 h) (rows_snoc (take j ns) (get_or ns j 0))

pub rows_take : (j : ℕ) (ns : List ℕ) → rows_in (take j ns) ≤ rows_in ns
unfolding rows_in
rows_take zero ns = omega arith
rows_take (suc j) [] = omega arith
rows_take (suc j) (n ∷ ns) = omega (arith, rows_take j ns)

-- of tasks none of which has too many
pub rows_few : (ns : List ℕ) → ((j : ℕ) → j < length ns → get_or ns j 0 ≤ most_paths) → rows_in ns ≤ rows_for most_paths * length ns
unfolding rows_in
rows_few [] h = omega arith
rows_few (n ∷ ns) h = omega (arith, h 0 (omega arith), rows_few ns (λ j l. h (suc j) (omega arith)))

length_starts : (d r : ℕ) (ns : List ℕ) → length (starts_from d r ns) ≡ length ns
length_starts d r [] = refl
length_starts d r (n ∷ ns) = ap suc (length_starts d (r + rows_for n) ns)

starts_snoc : (d r : ℕ) (ns : List ℕ) (n : ℕ) → starts_from d r (ns ++ n ∷ []) ≡ starts_from d r ns ++ (r + rows_in ns) * d ∷ []
unfolding rows_in
starts_snoc d r [] n = let e : r ≡ r + 0 = omega arith in ap (λ (k : ℕ). k * d ∷ []) e
starts_snoc d r (m ∷ ns) n =
    let e : r + rows_for m + rows_in ns ≡ r + (rows_for m + rows_in ns) = omega arith in
    ap (λ (l : List ℕ). r * d ∷ l) (starts_snoc d (r + rows_for m) ns n ∙ ap (λ (k : ℕ). starts_from d (r + rows_for m) ns ++ k * d ∷ []) e)

start_at : (d r : ℕ) (ns : List ℕ) (j : ℕ) → j < length ns → get_or (starts_from d r ns) j 0 ≡ (r + rows_in (take j ns)) * d
unfolding rows_in
start_at d r [] j h = absurd (omega arith)
start_at d r (n ∷ ns) zero h = let e : r ≡ r + 0 = omega arith in ap (λ (k : ℕ). k * d) e
start_at d r (n ∷ ns) (suc j) h =
    let e : r + rows_for n + rows_in (take j ns) ≡ r + (rows_for n + rows_in (take j ns)) = omega arith in
    start_at d (r + rows_for n) ns j (omega arith) ∙ ap (λ (k : ℕ). k * d) e

-- ---- stretches by where they begin and by their paths

roots_at : (rs ns : List ℕ) → length rs ≡ length ns → roots (stretches_at rs ns) ≡ rs
roots_at [] ns e = refl
roots_at (r ∷ rs) [] e = absurd (omega arith)
roots_at (r ∷ rs) (n ∷ ns) e = ap (λ (l : List ℕ). r ∷ l) (roots_at rs ns (omega arith))

counts_at : (rs ns : List ℕ) → length rs ≡ length ns → counts (stretches_at rs ns) ≡ ns
counts_at [] [] e = refl
counts_at [] (n ∷ ns) e = absurd (omega arith)
counts_at (r ∷ rs) [] e = absurd (omega arith)
counts_at (r ∷ rs) (n ∷ ns) e = ap (λ (l : List ℕ). n ∷ l) (counts_at rs ns (omega arith))

set_at : (rs ns : List ℕ) (j r n : ℕ) → set (stretches_at rs ns) j (record { root = r; count = n }) ≡ stretches_at (set rs j r) (set ns j n)
set_at [] ns j r n = refl
set_at (x ∷ rs) [] zero r n = refl
set_at (x ∷ rs) [] (suc j) r n = refl
set_at (x ∷ rs) (y ∷ ns) zero r n = refl
set_at (x ∷ rs) (y ∷ ns) (suc j) r n = ap (λ (l : List Stretch). record { root = x; count = y } ∷ l) (set_at rs ns j r n)

-- ---- one task after the other

pub none_is : (d : ℕ) → none_above ≡ above_of d []
unfolding above_of
none_is d = refl

pub more_is : (d : ℕ) (ns : List ℕ) (n : ℕ) → length ns < most_higher → with_paths (above_of d ns) (length ns) n d ≡ above_of d (ns ++ n ∷ [])
unfolding above_of
more_is d ns n h =
    let long = length_starts d 0 ns in
    let front : 0 + rows_in ns ≡ rows_in ns = omega arith in
    let starts : set (padded most_higher 0 (starts_from d 0 ns)) (length ns) (rows_in ns * d) ≡ padded most_higher 0 (starts_from d 0 (ns ++ n ∷ [])) = (
    ap (λ (k : ℕ). set (padded most_higher 0 (starts_from d 0 ns)) k (rows_in ns * d)) (sym long)
    ∙ padded_more most_higher 0 (starts_from d 0 ns) (rows_in ns * d) (omega arith)
    ∙ ap (padded most_higher 0) (ap (λ (k : ℕ). starts_from d 0 ns ++ k * d ∷ []) (sym front) ∙ sym (starts_snoc d 0 ns n))
    ) in
    ap (λ (l : List Stretch). record { stretches = l; rows = rows_in ns + rows_for n })
    (set_at (padded most_higher 0 (starts_from d 0 ns)) (padded most_higher 0 ns) (length ns) (rows_in ns * d) n
    ∙ ap₂ stretches_at starts (padded_more most_higher 0 ns n h))
    ∙ ap (λ (k : ℕ). record { stretches = stretches_at (padded most_higher 0 (starts_from d 0 (ns ++ n ∷ []))) (padded most_higher 0 (ns ++ n ∷ [])); rows = k })
    (sym (rows_snoc ns n))

-- no product of rows with a row's cells is too large
pub cells_fit : (rows h d : ℕ) → rows ≤ rows_for most_paths * h → h < most_higher → d ≤ largest_d → rows * d ≤ rows_for most_paths * most_higher * largest_d
cells_fit rows h d a b c = let few : rows ≤ rows_for most_paths * most_higher = omega arith in mul-le-mul few c

-- ---- what was counted, of tasks with so many paths each

module _ (d : ℕ) (ns : List ℕ) (seven : length ns ≤ most_higher) where
  starts_long : length (padded most_higher 0 (starts_from d 0 ns)) ≡ most_higher
  starts_long = length-padded most_higher 0 (starts_from d 0 ns) (omega (arith, length_starts d 0 ns))

  counts_long : length (padded most_higher 0 ns) ≡ most_higher
  counts_long = length-padded most_higher 0 ns seven

  roots_are : roots (above_of d ns).stretches ≡ padded most_higher 0 (starts_from d 0 ns)
  unfolding above_of
  roots_are = roots_at _ _ (starts_long ∙ sym counts_long)

  counts_are : counts (above_of d ns).stretches ≡ padded most_higher 0 ns
  unfolding above_of
  counts_are = counts_at _ _ (starts_long ∙ sym counts_long)

  pub above_counts : length (counts (above_of d ns).stretches) ≡ most_higher
  above_counts = ap length counts_are ∙ counts_long

  pub above_roots : length (roots (above_of d ns).stretches) ≡ most_higher
  above_roots = ap length roots_are ∙ starts_long

  pub above_rows : (above_of d ns).rows ≡ rows_in ns
  unfolding above_of
  above_rows = refl

  pub above_count : (j : ℕ) → j < length ns → get_or (counts (above_of d ns).stretches) j 0 ≡ get_or ns j 0
  above_count j h = ap (λ (l : List ℕ). get_or l j 0) counts_are ∙ get_or-padded most_higher 0 0 ns j h

  pub above_root : (j : ℕ) → j < length ns → get_or (roots (above_of d ns).stretches) j 0 ≡ rows_in (take j ns) * d
  above_root j h =
      let e : 0 + rows_in (take j ns) ≡ rows_in (take j ns) = omega arith in
      ap (λ (l : List ℕ). get_or l j 0) roots_are
      ∙ get_or-padded most_higher 0 0 (starts_from d 0 ns) j (omega (arith, length_starts d 0 ns)) ∙ start_at d 0 ns j h ∙ ap (λ (k : ℕ). k * d) e

  pub counted : ((j : ℕ) → j < length ns → get_or ns j 0 ≤ most_paths) → Counted (length ns) (above_of d ns)
  counted few = record { counts = above_counts; roots = above_roots; rows = omega (arith, above_rows, rows_few ns few) }
