-- Rows of numbers in the work area, one of each higher task, and the finish by them.
use Rattle.std.specs.Prelude.{ℕ, suc, ◌+◌, ◌-◌, ◌*◌, ◌≤◌, ◌<◌, List, map, length, get_or}
use Rattle.meaning.specs.Bounds.{largest_e, largest_d, most_higher}
use Rattle.meaning.specs.Lists.{sum}
use Rattle.meaning.specs.Groups.{finish}

-- the sum of the cells t places behind the rows' starts: the loads at tick t + 1
unfoldable pub loads_at : List ℕ → List ℕ → ℕ → ℕ
loads_at work base t = sum (map (λ (b : ℕ). get_or work (b + t) 0) base)

-- the finish by the rows that begin there
unfoldable pub rows_finish : List ℕ → ℕ → ℕ → List ℕ → ℕ
unfolding loads_at
rows_finish work d e base = finish e d (λ (t : ℕ). loads_at work base (t - 1))

-- ---- what is asked

-- no load is larger, nor is e: the largest e in each tick. As many cells as there are higher tasks, and e, have a sum of 32 bits
abbrev pub light : ℕ
light = largest_e * largest_d

-- the rows that begin there lie in the work area, and their cells are light and never fall from one tick to the next
pub record LightRows (d : ℕ) (base work : List ℕ) : Type 0 where
  pub few : length base ≤ most_higher
  pub short : d ≤ largest_d
  pub within : (j : ℕ) → j < length base → get_or base j 0 + d ≤ length work
  pub cells : (j : ℕ) → j < length base → (t : ℕ) → t < d → get_or work (get_or base j 0 + t) 0 ≤ light
  pub rise : (j : ℕ) → j < length base → (t : ℕ) → suc t < d → get_or work (get_or base j 0 + t) 0 ≤ get_or work (get_or base j 0 + suc t) 0
