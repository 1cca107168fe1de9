-- The path at a place in the order, by value.
use Rattle.std.specs.Prelude.{◌≡◌, ℕ, ◌+◌, ◌-◌, ◌≤◌, ◌<◌, List, [], length, get_or}
use Rattle.std.proofs.lemmas.List.Edits.{sets}
use Rattle.meaning.specs.Bounds.{largest_d}
use Rattle.table.specs.Record.{padded}
use Rattle.lister.specs.declared.Path.{Path}
use Rattle.lister.specs.declared.PathNumber.{PathNumber}
use Rattle.std.specs.declared.ops.ControlFlow.{ControlFlow}
use Rattle.std.specs.declared.ops.ControlFlow.TheVariants.{Break, Continue}
use Rattle.ways.specs.Ways.{ways, vertices_by}

-- a path in an array of zeros, with its length
unfoldable pub path_record : List ℕ → Path
unfolding padded
path_record w = record { vertices = padded largest_d 0 w; len = length w }

-- ---- what `path_from` gives

-- the path's end, or its place behind the paths that are there
abbrev pub Sought : Type 0
Sought = ControlFlow ℕ PathNumber

pub record Hit (to : List ℕ) (v depth : ℕ) (h A B : List ℕ) (s : Sought) : Type 0 where
  pub end : s ≡ Break (depth + 1 + length h)
  pub cells : B ≡ sets A depth (vertices_by to v h)

pub record Miss (i m : ℕ) (A B : List ℕ) (s : Sought) : Type 0 where
  pub left : s ≡ Continue (record { 0 = i - m })
  pub cells : B ≡ A

pub record Found (start to p : List ℕ) (v r depth i : ℕ) (A B : List ℕ) (s : Sought) : Type 0 where
  pub hit : i < length (ways start to p v r) → Hit to v depth (get_or (ways start to p v r) i []) A B s
  pub miss : length (ways start to p v r) ≤ i → Miss i (length (ways start to p v r)) A B s
