-- A step examines one group; a run takes at most as many steps as the budget.
use Rattle.std.specs.Prelude.{ℕ, zero, suc, List, [], replicate, ltb}
use Rattle.std.proofs.Math.Option.{Option, none, some}
use Rattle.meaning.specs.Bounds.{most_higher}
use Rattle.meaning.specs.Lists.{pick}
use Rattle.meaning.specs.Areas.{written}
use Rattle.walk.specs.declared.Examined.{Examined}
use Rattle.walk.specs.declared.Examined.TheVariants.{Next, Last, Witness}
use Rattle.walk.specs.declared.Ending.{Ending}
use Rattle.walk.specs.declared.Ending.TheVariants.{Meets, Misses, Unfinished}
use Rattle.walk.specs.declared.Walked.{Walked}
use Rattle.walk.specs.declared.Best.{Best}
use Rattle.rows.specs.Ranges.{Range}
use Rattle.groups.specs.Groups.{firsts, row_starts, top_group, child_group, next_group}
use Rattle.overload.specs.Rows.{rows_finish}

-- the places of a choice, and zeros behind them
abbrev pub in_places : List ℕ → List ℕ
in_places ps = written ps (replicate most_higher 0)

-- the bar: a tick, and the places of the single choice that raised it to its finish, if one did
abbrev pub best : ℕ → List ℕ → Best
best t ps = record { tick = t; places = ps }

-- what examining a group says, the bar from then on, and the group that the walk then stands at
pub record WalkStep : Type 0 where
  pub told : Examined
  pub best : Best
  pub group : List Range

abbrev pub step_to : Examined → Best → List Range → WalkStep
step_to told s xs = record { told = told; best = s; group = xs }

-- the group that is there to go to is next; where there is none, all are whole, behind the last group
abbrev pub onward_by : List ℕ → Best → Option (List Range) → WalkStep
onward_by ns s none = step_to Last s (top_group ns)
onward_by ns s (some ys) = step_to Next s ys

abbrev pub onward : List ℕ → Best → List Range → WalkStep
onward ns s xs = onward_by ns s (next_group ns xs)

-- a group of single paths that finishes at t, later than the bar: later than d it is the witness, else it raises the bar
abbrev pub at_single : ℕ → List ℕ → ℕ → Best → List Range → WalkStep
at_single d ns t s xs = pick (ltb d t) (step_to Witness s xs) (onward ns (best t (in_places (firsts xs))) xs)

-- any other has its first child examined next
abbrev pub descend_by : WalkStep → Best → Option (List Range) → WalkStep
descend_by x s none = x
descend_by x s (some ys) = step_to Next s ys

-- a group that finishes no later than the bar has nothing below it examined
abbrev pub examine : (List Range → ℕ) → ℕ → List ℕ → Best → List Range → WalkStep
examine fin d ns s xs = pick (ltb s.tick (fin xs)) (descend_by (at_single d ns (fin xs) s xs) s (child_group xs)) (onward ns s xs)

-- a walk's end, and after a meets where the bar is: the worst finish if it began at 0
abbrev pub walk_end : Ending → ℕ → List ℕ → Walked
walk_end ending t places = record { ending = ending; finish = t; places = places }

abbrev pub run_by : ℕ → (Best → List Range → Walked) → Examined → Best → List Range → Walked
run_by n further Next s xs = further s xs
run_by n further Last s xs = walk_end (Meets (suc n)) s.tick s.places
run_by n further Witness s xs = walk_end (Misses (suc n)) 0 (in_places (firsts xs))

-- what a step leaves to do
abbrev pub run_on : ℕ → (Best → List Range → Walked) → WalkStep → Walked
run_on n further x = run_by n further x.told x.best x.group

-- with so many steps left, after n groups, with the bar there, from the group xs on
abbrev pub run_from : (List Range → ℕ) → ℕ → List ℕ → ℕ → ℕ → Best → List Range → Walked
run_from fin d ns zero n s xs = walk_end (Unfinished n) 0 s.places
run_from fin d ns (suc b) n s xs = run_on n (λ (t : Best) (ys : List Range). run_from fin d ns b (suc n) t ys) (examine fin d ns s xs)

-- a group of ranges finishes by its rows
abbrev pub group_finish : List ℕ → ℕ → ℕ → List ℕ → List Range → ℕ
group_finish work d e root xs = rows_finish work d e (row_starts d root xs)

-- the walk from the top group and this bar on, over the rows of the work area
abbrev pub run_rows : List ℕ → ℕ → ℕ → List ℕ → List ℕ → ℕ → ℕ → Walked
run_rows work d e root ns bar b = run_from (group_finish work d e root) d ns b 0 (best bar (in_places [])) (top_group ns)
