-- What a pen writes into its area.
use Rattle.std.specs.Prelude.{◌≡◌, ℕ, List}
use Rattle.meaning.specs.Areas.{Wrote}
use Rattle.put.specs.declared.Pen.{Pen}

-- the bytes stand in the area from the pen's place on, all else is unchanged, and the pen stands behind them in the same area
pub record Penned (bytes : List ℕ) (before after : Pen) : Type 0 where
  pub same_area : after.out.ghost_name ≡ before.out.ghost_name
  pub wrote : Wrote bytes before.out.now before.at after.out.now after.at
