-- Rows 8 to 11 as answers, from numbers, and the answer of a walk that has ended.
use Rattle.std.specs.Prelude.{ℕ, ltb, Result, Ok, Err}
use Rattle.meaning.specs.Lists.{pick}
use Rattle.kinds.specs.declared.Refusal.{Refusal}
use Rattle.kinds.specs.declared.Refusal.TheVariants.{NoSuchVertex, TooManyPaths, WorkTooShort, WitnessTooShort}
use Rattle.kinds.specs.declared.RefusedAt.{RefusedAt}
use Rattle.kinds.specs.declared.Lateness.{Lateness}
use Rattle.kinds.specs.declared.Lateness.TheVariants as Late
use Rattle.walk.specs.declared.Ending.{Ending}
use Rattle.walk.specs.declared.Ending.TheVariants.{Meets, Misses, Unfinished}

abbrev pub refused_at : Refusal → ℕ → RefusedAt
refused_at r place = record { refusal = r; place = place }

abbrev pub no_such_vertex : Lateness
no_such_vertex = Late.Refused (refused_at NoSuchVertex 0)

abbrev pub too_many_paths : ℕ → Lateness
too_many_paths task = Late.Refused (refused_at TooManyPaths task)

-- of a need of work cells, a need of witness cells, and areas of so many cells: the work area's row comes first
abbrev pub area_rows : ℕ → ℕ → ℕ → ℕ → Result (Unit {0}) RefusedAt
area_rows need cells work wit = pick (ltb work need) (Err (refused_at WorkTooShort need)) (pick (ltb wit cells) (Err (refused_at WitnessTooShort cells)) (Ok tt))

-- a meets comes with the tick of the bar, and a meets and a miss with the cells written
abbrev pub said_of : Ending → ℕ → ℕ → Lateness
said_of (Meets count) finish cells = Late.Meets count (record { 0 = finish }) cells
said_of (Misses count) finish cells = Late.Misses count cells
said_of (Unfinished budget) finish cells = Late.Unfinished budget
