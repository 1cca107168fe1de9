-- A job that is released at every tick has a path of 1,000 vertices below a deadline of 1,000.
use mathlib.Core.Path.{◌≡◌, refl}
use Prim.Native.Nat.{ℕ}
use mathlib.Core.List.{List, [], ◌∷◌}
use lib.ListN.{replicate}
use Rattle.meaning.specs.Table.{Table}
use Rattle.meaning.specs.Text.{readable, read}
use Rattle.meaning.specs.Paths.{paths_of}
use Rattle.meaning.specs.Bench.{bytes, self_edge, lone}

abbrev pub long_text : List ℕ
long_text = bytes "010101\n0200010001\n0300000001\n010100\n02000103e8\n00\n"

abbrev pub long_table : Table
long_table = self_edge 1 1 1 ∷ lone 1 1000 ∷ []

pub long-read : read long_text ≡ readable long_table
unfolding read
long-read = refl

pub long_path : paths_of (self_edge 1 1 1) 1000 ≡ replicate 1000 0 ∷ []
unfolding paths_of
long_path = refl
