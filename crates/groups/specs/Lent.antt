-- A group as the code has it, a part of each higher task's stretch; what the functions ask of it and promise.
use Rattle.std.specs.Prelude.{◌≡◌, ℕ, ◌+◌, ◌*◌, ◌≤◌, ◌<◌, Bool, true, false, List, map, length, get_or}
use Rattle.std.proofs.Math.Option.{Option, none, some}
use Rattle.meaning.specs.Bounds.{largest_d, most_higher, most_paths}
use Rattle.meaning.specs.Areas.{rows_for}
use Rattle.rows.specs.Ranges.{Range, range, row_start}
use Rattle.groups.specs.declared.Stretch.{Stretch}
use Rattle.groups.specs.declared.Part.{Part}
use Rattle.groups.specs.Groups.{row_starts, top_group, child_group, next_group, InWalk}

-- ---- the stretches and the parts

-- where the stretches begin
abbrev pub roots : List Stretch → List ℕ
roots ss = map (λ (s : Stretch). s.root) ss

-- how many paths their tasks have
abbrev pub counts : List Stretch → List ℕ
counts ss = map (λ (s : Stretch). s.count) ss

-- the range that a part takes
abbrev pub range_in : Part → Range
range_in p = range p.first p.len

-- the group that the parts hold
abbrev pub group_in : List Part → List Range
group_in a = map range_in a

-- where they say that its rows begin
abbrev pub starts_in : List Part → List ℕ
starts_in a = map (λ (p : Part). p.base) a

-- the part that takes the range x, in a stretch that begins at root
abbrev pub part_at : ℕ → ℕ → Range → Part
part_at d root x = record { base = row_start d root x; first = x.first; len = x.len }

-- ---- what is asked

-- the largest number of type usize
abbrev pub largest_index : ℕ
largest_index = 18446744073709551615

-- the start of the range's row can be summed
abbrev pub Startable : ℕ → ℕ → Range → Type 0
Startable d root x = (x.first + x.len ≤ most_paths) × (d ≤ largest_d) × (row_start d root x ≤ largest_index)

-- where each of h tasks' stretches begins and how many paths the task has; the stretches end within so many cells
pub record LaidOut (room h d : ℕ) (root count : List ℕ) : Type 0 where
  pub few : h ≤ most_higher
  pub short : d ≤ largest_d
  pub root_length : h ≤ length root
  pub count_length : h ≤ length count
  pub paths : (j : ℕ) → j < h → (0 < get_or count j 0) × (get_or count j 0 ≤ most_paths)
  pub within : (j : ℕ) → j < h → get_or root j 0 + rows_for (get_or count j 0) * d ≤ room

-- these stretches are, and no index is too large
abbrev pub LaidOver : ℕ → List Stretch → Type 0
LaidOver d ss = LaidOut largest_index (length ss) d (roots ss) (counts ss)

-- the parts hold a group of the walk, and where its rows begin
pub record Standing (d : ℕ) (ss : List Stretch) (a : List Part) : Type 0 where
  pub stretches : LaidOver d ss
  pub starts : starts_in a ≡ row_starts d (roots ss) (group_in a)
  pub reached : InWalk (counts ss) (group_in a)

-- ---- what is promised

-- the parts hold the group xs, and where its rows begin
pub record Stands (d : ℕ) (ss : List Stretch) (b : List Part) (xs : List Range) : Type 0 where
  pub group : group_in b ≡ xs
  pub starts : starts_in b ≡ row_starts d (roots ss) xs

-- whether there is a group to go to
abbrev pub is_there : Option (List Range) → Bool
is_there none = false
is_there (some ys) = true

-- it, or else the group xs
abbrev pub or_stay : Option (List Range) → List Range → List Range
or_stay none xs = xs
or_stay (some ys) xs = ys

-- told whether there is one, and the parts hold it; where there is none, they hold the group xs
pub record Moved (to : Option (List Range)) (xs : List Range) (d : ℕ) (ss : List Stretch) (told : Bool) (b : List Part) : Type 0 where
  pub says : told ≡ is_there to
  pub stands : Stands d ss b (or_stay to xs)

-- the first child, if there is one; else the group stays
abbrev pub ToChild : ℕ → List Stretch → List Part → Bool → List Part → Type 0
ToChild d ss a told b = Moved (child_group (group_in a)) (group_in a) d ss told b

-- the next group, if there is one; else the top group
abbrev pub ToNext : ℕ → List Stretch → List Part → Bool → List Part → Type 0
ToNext d ss a told b = Moved (next_group (counts ss) (group_in a)) (top_group (counts ss)) d ss told b
