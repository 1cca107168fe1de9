-- What the walk over rows says of a top group of paths, whatever the paths X and their loads.
use Rattle.std.specs.Prelude.{◌≡◌, ℕ, suc, ◌+◌, ◌≤◌, ◌<◌, List, [], ◌∷◌, ◌++◌, map, length, take, drop, get_or}
use Rattle.std.proofs.Math.Option.{Option, none, some}
use Rattle.meaning.specs.Groups.{range_load}
use Rattle.meaning.specs.Walk.{Bar, End, missed, met}
use Rattle.walk.specs.declared.Ending.{Ending}
use Rattle.walk.specs.declared.Ending.TheVariants.{Meets, Misses, Unfinished}
use Rattle.walk.specs.Steps.{in_places}
use Rattle.rows.specs.Order.{Node}
use Rattle.rows.specs.Ranges.{Range, range, row_start}

module _ {X : Type 0} where
  abbrev pub sizes : List (List X) → List ℕ
  sizes Gs = map length Gs

  -- the paths of a range
  abbrev pub part_of : List X → Range → List X
  part_of G x = take x.len (drop x.first G)

  -- the paths at these places, one of each range
  abbrev pub chosen : List (List X) → List ℕ → List X
  chosen [] ps = []
  chosen (G ∷ Gs) [] = []
  chosen (G ∷ Gs) (p ∷ ps) = take 1 (drop p G) ++ chosen Gs ps

  -- each place is that of a path
  abbrev pub AtPaths : List (List X) → List ℕ → Type 0
  AtPaths Gs ps = (j : ℕ) → j < length Gs → get_or ps j 0 < length (get_or Gs j [])

module _ {X : Type 0} (load : X → ℕ → ℕ) where
  -- the row of each range of each task holds the range's load at each tick from 1 to d
  abbrev pub RowsHold : ℕ → List ℕ → List ℕ → List (List X) → Type 0
  RowsHold d work root Gs =
      (j : ℕ) → j < length Gs → (f m : ℕ) → Node 0 (length (get_or Gs j [])) f m → (t : ℕ) → t < d
      → get_or work (row_start d (get_or root j 0) (range f m) + t) 0 ≡ range_load load (part_of (get_or Gs j []) (range f m)) (suc t)

module _ {X : Type 0} where
  -- these are the places of the choice, if there is one
  abbrev pub Places : List (List X) → Option (List X) → List ℕ → Type 0
  Places Gs none ps = ps ≡ in_places []
  Places Gs (some c) ps = (c ≡ chosen Gs ps) × AtPaths Gs ps

  -- of a walk that sees n groups and comes to the end z: unfinished with the budget b exactly if it is below n; else n, and the witness at its places, or
  -- where the bar is and the choice that raised it
  abbrev pub Says : List (List X) → ℕ → End X → ℕ → Ending → ℕ → List ℕ → Type 0
  Says Gs n z b (Meets k) t ps = (n ≤ b) × (k ≡ n) × ((s : Bar X) × (z ≡ met s) × (t ≡ s.tick) × Places Gs s.choice ps)
  Says Gs n z b (Misses k) t ps = (n ≤ b) × (k ≡ n) × (z ≡ missed (chosen Gs ps)) × AtPaths Gs ps × (t ≡ 0)
  Says Gs n z b (Unfinished k) t ps = (b < n) × (k ≡ b) × (t ≡ 0)
