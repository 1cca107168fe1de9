-- Lists that are filled from the front and padded behind.
use Prim.Native.Nat.{ℕ, ◌<◌}
use mathlib.Core.Path.{◌≡◌}
use mathlib.Core.List.{List, [], ◌∷◌, ◌++◌, map}
use native.Mathlib.Omega.{arith}
use lib.ListN.{length, set, length-map}
use Rattle.meaning.proofs.Lists.{map-append}
use Rattle.table.specs.Record.{padded}
use Rattle.table.proofs.Record.{padded_more}

-- one more, at the first free place
pub padded-set : {X Y : Type 0} (n : ℕ) (z : Y) (f : X → Y) (xs : List X) (x : X) → length xs < n
    → set (padded n z (map f xs)) (length xs) (f x) ≡ padded n z (map f (xs ++ (x ∷ [])))
padded-set n z f xs x h = rw (map-append, ← length-map xs f) (padded_more n z (map f xs) (f x) (omega (arith, length-map xs f)))
