-- The verdict that a walk's ending stands for, and what of the walk depends on what is asked.
use Rattle.std.specs.Prelude.{ℕ, Bool, true, false, List, eqb}
use Rattle.meaning.specs.Lists.{pick}
use Rattle.meaning.specs.Paths.{Path}
use Rattle.meaning.specs.Verdict.{Verdict, kind_of, meets, misses, unfinished, Asked, plain, latest}
use Rattle.walk.specs.declared.Ending.{Ending}
use Rattle.walk.specs.declared.Ending.TheVariants.{Meets, Misses, Unfinished}

-- with the paths of a miss
abbrev pub meant_by : Ending → List Path → Verdict
meant_by (Meets n) ws = meets n
meant_by (Misses n) ws = misses n ws
meant_by (Unfinished n) ws = unfinished n

-- a number beside a meets, and 0 beside any other verdict
abbrev pub beside : Verdict → ℕ → ℕ
beside x n = pick (eqb (kind_of x) 0) n 0

-- what a flag asks for
abbrev pub asked_by : Bool → Asked
asked_by false = plain
asked_by true = latest

-- where the bar is at first
abbrev pub first_bar : Asked → ℕ → ℕ
first_bar plain d = d
first_bar latest d = 0

-- of so many paths how many are written: all of a miss, and of a meets where the latest finish is asked for
abbrev pub written : Asked → Ending → ℕ → ℕ
written a (Misses n) h = h
written a (Unfinished n) h = 0
written plain (Meets n) h = 0
written latest (Meets n) h = h
