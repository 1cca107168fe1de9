-- What the stretches give: rows whose starts can be summed, and paths of every task.
use mathlib.Core.Path.{subst}
use Prim.Native.Nat.{ℕ, zero, suc, ◌≤◌, ◌<◌}
use native.Mathlib.Nat.{le_trans}
use native.Mathlib.Omega.{arith}
use mathlib.Core.List.{List, [], ◌∷◌}
use lib.ListN.{length, take, get_or, length-map}
use lib.Seq.{take_all}
use Rattle.rows.specs.Ranges.{Range, end_of, row_start}
use Rattle.rows.proofs.Order.{row_end}
use Rattle.groups.specs.declared.Stretch.{Stretch}
use Rattle.groups.specs.Lent.{counts, roots, largest_index, Startable, LaidOut, LaidOver}
use Rattle.groups.proofs.Pending.{Filled}
use Rattle.groups.proofs.Arrays.{no_stretch, root_at, count_at}

-- what is asked where a row's start is summed: some of the task's paths stand there
pub row_asked : {d : ℕ} (ss : List Stretch) → LaidOver d ss → (j : ℕ) → j < length ss → (x : Range)
    → end_of x ≤ (get_or ss j no_stretch).count → 0 < x.len → Startable d (get_or ss j no_stretch).root x
row_asked {d} ss s j l x i p =
    let e = root_at ss j in
    let m = count_at ss j in (
      omega (arith, (s.paths j l).1),
      s.short,
      subst (λ (r : ℕ). row_start d r x ≤ largest_index) e
          (omega (arith, row_end d (get_or (roots ss) j 0) x.first x.len {n = get_or (counts ss) j 0} (omega arith) p, s.within j l)),
    )

module _ {room h d : ℕ} {root count : List ℕ} (s : LaidOut room h d root count) where
  pub wider : room ≤ largest_index → LaidOut largest_index h d root count
  wider l =
      record {
        few = s.few;
        short = s.short;
        root_length = s.root_length;
        count_length = s.count_length;
        paths = s.paths;
        within = λ j k. le_trans (s.within j k) l;
      }

  pub counts_filled : Filled (take h count)
  counts_filled = go h count s.count_length (λ j l. (s.paths j l).0)
    where
      go : (k : ℕ) (ns : List ℕ) → k ≤ length ns → ((j : ℕ) → j < k → 0 < get_or ns j 0) → Filled (take k ns)
      go zero ns l p = tt
      go (suc k) [] l p = absurd (omega arith)
      go (suc k) (n ∷ ns) l p = (p 0 (omega arith), go k ns (omega arith) (λ j q. p (suc j) (omega arith)))

pub all_filled : {room d : ℕ} (ss : List Stretch) → LaidOut room (length ss) d (roots ss) (counts ss) → Filled (counts ss)
all_filled ss s = subst Filled (take_all (length ss) (counts ss) (omega (arith, length-map ss (λ (x : Stretch). x.count)))) (counts_filled s)
