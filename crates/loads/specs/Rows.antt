-- The rows of the complete paths' loads in a stretch.
use Rattle.std.specs.Prelude.{◌≡◌, ℕ, ◌+◌, ◌-◌, ◌*◌, ◌≤◌, List, [], ◌∷◌, ◌++◌, map, length, take}
use Rattle.std.proofs.lemmas.List.Edits.{sets}
use Rattle.std.proofs.Math.Seq.{slice}
use Rattle.ways.specs.Ways.{most_counted, ways}
use Rattle.ways.specs.Runs.{runs}

-- the row from `to` on is the one from `row` on, or is behind its first n cells
abbrev pub Apart : ℕ → ℕ → ℕ → Type 0
Apart row n to = (to ≡ row → ⊥) → row + n ≤ to

-- the n cells from `row` on stand from `to` on as well, and they and the cells before them are as they were
pub record Copied (P : List ℕ) (row n to : ℕ) (Q : List ℕ) : Type 0 where
  pub cells : Q ≡ sets P to (slice row (row + n) P)
  pub kept : take (row + n) Q ≡ take (row + n) P

-- the rows of the ways on from v, behind the prefix's loads
unfoldable pub rows_behind : List ℕ → List ℕ → List ℕ → List ℕ → ℕ → ℕ → ℕ → List (List ℕ) → List (List ℕ)
rows_behind e to p row room below v hs = map (λ (h : List ℕ). row ++ runs e to p room below v h) hs

-- the rows xs go to the rows 2i, 2(i + 1), .. of d cells
unfoldable pub put_rows : ℕ → ℕ → List (List ℕ) → List ℕ → List ℕ
put_rows d i [] P = P
put_rows d i (x ∷ xs) P = put_rows d (i + 1) xs (sets P (2 * i * d) x)

-- n rows and the rows between them have room in len cells
pub record Room (d n len : ℕ) : Type 0 where
  pub few : n ≤ most_counted
  pub fits : 2 * n * d ≤ len + d

-- the first n cells of row 2i
abbrev pub front_of : ℕ → ℕ → ℕ → List ℕ → List ℕ
front_of d i n P = slice (2 * i * d) (2 * i * d + n) P

-- what `rows_from` leaves: the next place, and the rows, where the prefix's loads stood at the first row's front and are as they were
pub record RowsPut (e start to p : List ℕ) (d v span below i : ℕ) (P Q : List ℕ) (r : ℕ) : Type 0 where
  pub next : r ≡ i + length (ways start to p v (d - span))
  pub rows : Q ≡ put_rows d i (rows_behind e to p (front_of d i span P) (d - span) below v (ways start to p v (d - span))) P
  pub kept : take (2 * i * d + span) Q ≡ take (2 * i * d + span) P
