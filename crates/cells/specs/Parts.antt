-- Parts of a task that are read one after the other, each from its cells.
use Rattle.std.specs.Prelude.{◌≡◌, ℕ, ◌+◌, ◌*◌, min, List, map, length, take}
use Rattle.meaning.specs.Lists.{below}
use Rattle.cells.specs.declared.cursor.Cursor.{Cursor}

-- so many cells further on in the same list
pub record Passed (n : ℕ) (before after : Cursor) : Type 0 where
  pub same_list : after.list.now ≡ before.list.now
  pub place : after.at ≡ before.at + n

-- n parts, or as many as there is room for, stand at the front, each made of the cells at its place, `width` of them each
pub record Filled {X : Type 0} (width : ℕ) (made : List ℕ → ℕ → X) (cs : List ℕ) (at n : ℕ) (before after : List X) : Type 0 where
  pub size : length after ≡ length before
  pub front : take (min n (length before)) after ≡ map (λ (i : ℕ). made cs (at + width * i)) (below (min n (length before)))
