-- The bench examples hold, computed by the checker.
use Rattle.meaning.specs.Paths.{complete_paths}
use Rattle.meaning.specs.Groups.{worst, worst_choice}
use Rattle.meaning.specs.Judge.{judged}
use Rattle.meaning.specs.Desk.{output}
use Rattle.meaning.specs.Writing.{text_of, ruled, writing}
use Rattle.meaning.specs.Bench.{Right}

pub bench : Right
unfolding output judged worst worst_choice complete_paths text_of ruled writing
bench = tt
