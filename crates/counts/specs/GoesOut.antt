-- When a table may go out.
use Rattle.std.specs.Prelude.{Bool, ◌&&◌, eqb}
use Rattle.meaning.specs.Whole.{Counts}

-- "The stock controller wants a no whenever there is doubt": yes exactly if nothing misses, nothing is unfinished and nothing is refused
abbrev pub goes_out : Counts → Bool
goes_out n = eqb n.missing 0 && eqb n.unfinishing 0 && eqb n.refusing 0
