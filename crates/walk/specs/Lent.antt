-- What the walk asks of the work area that is lent, and what a step promises of the group's parts.
use Rattle.std.specs.Prelude.{◌≡◌, ℕ, suc, ◌+◌, ◌≤◌, ◌<◌, List, length, get_or}
use Rattle.std.proofs.Math.Option.{Option, none, some}
use Rattle.rows.specs.Order.{Node}
use Rattle.rows.specs.Ranges.{Range, range, row_start}
use Rattle.groups.specs.declared.Stretch.{Stretch}
use Rattle.groups.specs.declared.Part.{Part}
use Rattle.groups.specs.Groups.{top_group, next_group}
use Rattle.groups.specs.Lent.{roots, counts, group_in, LaidOut, Stands, or_stay}
use Rattle.overload.specs.Rows.{light}
use Rattle.walk.specs.declared.Examined.{Examined}
use Rattle.walk.specs.declared.Examined.TheVariants.{Next, Last}
use Rattle.walk.specs.declared.Best.{Best}
use Rattle.walk.specs.Steps.{WalkStep, examine, group_finish}

-- the stretches lie in the work area, and the cells of each row are light and never fall from one tick to the next
pub record Walkable (h d e : ℕ) (root count work : List ℕ) : Type 0 where
  pub stretches : LaidOut (length work) h d root count
  pub own : e ≤ light
  pub cells : (j : ℕ) → j < h → (f m : ℕ) → Node 0 (get_or count j 0) f m → (t : ℕ) → t < d → get_or work (row_start d (get_or root j 0) (range f m) + t) 0 ≤ light
  pub rise : (j : ℕ) → j < h → (f m : ℕ) → Node 0 (get_or count j 0) f m → (t : ℕ) → suc t < d
      → get_or work (row_start d (get_or root j 0) (range f m) + t) 0 ≤ get_or work (row_start d (get_or root j 0) (range f m) + suc t) 0

-- these stretches do
abbrev pub WalkableOver : ℕ → ℕ → List Stretch → List ℕ → Type 0
WalkableOver d e ss work = Walkable (length ss) d e (roots ss) (counts ss) work

-- a next group, or behind the last one
abbrev pub told_by : Option (List Range) → Examined
told_by none = Last
told_by (some ys) = Next

-- told whether there is a next group, and the parts hold it; else the top group
pub record MovedOn (d : ℕ) (ss : List Stretch) (a : List Part) (told : Examined) (b : List Part) : Type 0 where
  pub says : told ≡ told_by (next_group (counts ss) (group_in a))
  pub stands : Stands d ss b (or_stay (next_group (counts ss) (group_in a)) (top_group (counts ss)))

-- the step that is said, the bar is its own, and the parts hold its group
pub record Stepped (to : WalkStep) (d : ℕ) (ss : List Stretch) (told : Examined) (s : Best) (b : List Part) : Type 0 where
  pub says : told ≡ to.told
  pub bar : s ≡ to.best
  pub stands : Stands d ss b to.group

-- the group that the parts hold is examined by its rows
abbrev pub StepsOver : ℕ → ℕ → List ℕ → List Stretch → Best → List Part → Examined → Best → List Part → Type 0
StepsOver d e work ss s a told t b = Stepped (examine (group_finish work d e (roots ss)) d (counts ss) s (group_in a)) d ss told t b
