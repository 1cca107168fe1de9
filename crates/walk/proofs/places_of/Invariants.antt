use mathlib.Core.Path.{◌≡◌}
use lib.ListN.{take}
use Rattle.walk.specs.Steps.{in_places}
use Rattle.walk.proofs.Places.{places}
use Rattle.walk.proofs.places_of.Given as goal

abbrev pub invariant-loop-j : goal.invariant-loop-j
invariant-loop-j l = l.places ≡ in_places (take l.j (places l.group))
