-- A step of the code is a step of the walk over ranges.
use mathlib.Core.Path.{◌≡◌, sym, ap, subst, ◌∙◌}
use Prim.Native.Nat.{ℕ, ◌<◌}
use native.Mathlib.Omega.{arith}
use mathlib.Core.Bool.{Bool, true, false}
use mathlib.Core.Option.{Option, none, some}
use mathlib.Core.List.{List}
use lib.ListN.{length, get_or}
use lib.Dec.{ltb}
use Rattle.meaning.specs.Lists.{pick}
use Rattle.walk.specs.declared.Examined.TheVariants.{Witness}
use Rattle.walk.specs.declared.Best.{Best}
use Rattle.rows.specs.Ranges.{Range, row_start}
use Rattle.groups.specs.declared.Stretch.{Stretch}
use Rattle.groups.specs.declared.Part.{Part}
use Rattle.groups.specs.Groups.{firsts, row_starts, all_single, first_child, next_group, InWalk}
use Rattle.groups.specs.Lent.{roots, counts, range_in, group_in, starts_in, LaidOver, Standing, Stands}
use Rattle.overload.specs.Rows.{LightRows}
use Rattle.walk.specs.Steps.{in_places, best, step_to, onward_by, descend_by, examine}
use Rattle.walk.specs.Lent.{WalkableOver}
use Rattle.groups.proofs.Pending.{filled_top, walk_filled, walk_child, FirstPending, next-pending}
use Rattle.rows.proofs.Order.{row_end}
use Rattle.groups.proofs.Arrays.{no_part, starts_many, start_get, own_length, own_start, standing_at}

-- ---- the walk over ranges

-- a step leads from a group of the walk to a group of the walk
pub examine_walk : (fin : List Range → ℕ) (d : ℕ) (ns : List ℕ) (s : Best) (xs : List Range) → InWalk ns xs → InWalk ns (examine fin d ns s xs).group
examine_walk fin d ns s xs o = go (ltb s.tick (fin xs)) (all_single xs) (ltb d (fin xs)) (next_group ns xs) (next-pending ns xs o)
  where
    on : (s : Best) (f : Option (List Range)) → FirstPending ns xs f → InWalk ns (onward_by ns s f).group
    on s none a = filled_top ns (walk_filled ns xs o)
    on s (some ys) a = a.0

    go : (v u w : Bool) (f : Option (List Range)) → FirstPending ns xs f
        → InWalk ns (pick v (descend_by (pick w (step_to Witness s xs) (onward_by ns (best (fin xs) (in_places (firsts xs))) f)) s
        (pick u none (some (first_child xs))))
        (onward_by ns s f)).group
    go true true true f a = o
    go true true false f a = on _ f a
    go true false w f a = walk_child ns xs o
    go false u w f a = on s f a

-- ---- a step of the code

-- where the parts stand at a group of the walk
pub stands_standing : {d : ℕ} {ss : List Stretch} {b : List Part} {xs : List Range} → LaidOver d ss → Stands d ss b xs → InWalk (counts ss) xs → Standing d ss b
stands_standing {d} {ss} s w o =
    record {
      stretches = s;
      starts = w.starts ∙ ap (row_starts d (roots ss)) (sym w.group);
      reached = subst (InWalk (counts ss)) (sym w.group) o;
    }

module _ {d e : ℕ} {ss : List Stretch} {work : List ℕ} {a : List Part} (f : WalkableOver d e ss work) (w : Standing d ss a) where
  abbrev xs : List Range
  xs = group_in a

  pub many : length a ≡ length ss
  many = own_length w

  in_ss : (j : ℕ) → j < length (starts_in a) → j < length ss
  in_ss j l = omega (arith, starts_many a, many)

  row_at : (j : ℕ) → j < length (starts_in a) → get_or (starts_in a) j 0 ≡ row_start d (get_or (roots ss) j 0) (range_in (get_or a j no_part))
  row_at j l = start_get a j ∙ own_start w j (in_ss j l)

  pub step_rows : LightRows d (starts_in a) work
  step_rows =
      record {
        few = omega (arith, starts_many a, many, w.stretches.few);
        short = w.stretches.short;
        within = λ j l.
            let k = in_ss j l in
            let p = get_or a j no_part in
            let x = standing_at w j k in
            omega (arith, row_at j l, row_end d (get_or (roots ss) j 0) p.first p.len x.within x.full, f.stretches.within j k);
        cells = λ j l t m.
            let p = get_or a j no_part in
            rw (row_at j l) (f.cells j (in_ss j l) p.first p.len (standing_at w j (in_ss j l)).node t m);
        rise = λ j l t m.
            let p = get_or a j no_part in
            rw (row_at j l) (f.rise j (in_ss j l) p.first p.len (standing_at w j (in_ss j l)).node t m);
      }
