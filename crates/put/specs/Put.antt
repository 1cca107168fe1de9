-- The digits, in a list of their own.
use Rattle.std.specs.Prelude.{ℕ, List, map}
use Rattle.meaning.specs.Lists.{below}
use Rattle.meaning.specs.Text.{digit}

abbrev pub digits_in_order : List ℕ
digits_in_order = map digit (below 16)
