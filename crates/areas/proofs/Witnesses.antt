-- The paths of a miss at their places, one task after the other.
use mathlib.Core.Path.{◌≡◌, refl, sym, ap, ap₂, subst, ◌∙◌}
use Prim.Native.Nat.{ℕ, zero, suc, ◌+◌, ◌≤◌, ◌<◌, zero-le}
use native.Mathlib.Omega.{arith}
use native.Mathlib.Decide.{dec_lt}
use mathlib.Core.List.{List, [], ◌∷◌}
use lib.ListN.{length, take, get_or, set, get_or-eq_default}
use lib.Seq.{sets, length-take-le, take_all}
use Rattle.meaning.specs.Bounds.{largest_d}
use Rattle.meaning.specs.Table as Meant
use Rattle.meaning.specs.Table.{no_task}
use Rattle.meaning.specs.Paths.{Path, paths_of}
use Rattle.meaning.specs.Sound.{SoundTask}
use Rattle.meaning.specs.Areas.{Wrote}
use Rattle.meaning.proofs.Lists.{mem_get_or}
use Rattle.meaning.proofs.PathsOf.{paths_short}
use Rattle.meaning.proofs.Wrote.{wrote_then}
use Rattle.table.specs.declared.Task.{Task}
use Rattle.table.specs.Inner.{task_of, HeldTask}
use Rattle.table.proofs.Record.{take-padded, length-padded}
use Rattle.lister.specs.declared.Path as Lister
use Rattle.lister.specs.Place.{path_record}
use Rattle.areas.specs.Witness.{path_cell, path_at, paths_at}

-- ---- the path at a place

-- a listed path, and the empty one behind the list, have at most d vertices
place_short : (k : Meant.Task) → SoundTask k → (d : ℕ) → 1 ≤ d → (p : ℕ) → length (path_at k d p) ≤ d
place_short k s d o p =
    elim (dec_lt p (length (paths_of k d))) [
      | yes h ↦ paths_short k s d o (path_at k d p) (mem_get_or [] (paths_of k d) p h)
      | no h ↦ rw (get_or-eq_default (paths_of k d) [] {n = p} (omega arith)) zero-le
    ]

module _ {t : Task} {d : ℕ} {r : Lister.Path} (k : HeldTask t) (o : 0 < d) (u : d ≤ largest_d) (p : ℕ) (e : r ≡ path_record (path_at (task_of t) d p)) where
  abbrev path : Path
  path = path_at (task_of t) d p

  short : length path ≤ d
  short = place_short (task_of t) k.sound d o p

  len : r.len ≡ length path
  unfolding path_record
  len = ap (λ (x : Lister.Path). x.len) e

  pub len_short : r.len ≤ d
  len_short = omega (arith, len, short)

  size : length r.vertices ≡ largest_d
  unfolding path_record
  size = ap (λ (x : Lister.Path). length x.vertices) e ∙ length-padded largest_d 0 path (omega (arith, short))

  front : take r.len r.vertices ≡ path
  unfolding path_record
  front = ap (λ (x : Lister.Path). take x.len x.vertices) e ∙ take-padded largest_d 0 path

  pub path-size : length (take r.len r.vertices) ≡ r.len
  path-size = length-take-le r.len r.vertices (omega (arith, size, len_short))

  -- its length is written, and then its vertices
  pub place_written : (at : ℕ) (before : List ℕ) {after : List ℕ} {i : ℕ}
      → after ≡ sets (set before at r.len) (at + 1) (take i (take r.len r.vertices)) → length (take r.len r.vertices) ≤ i
      → Wrote (path_cell path) before at after (at + 1 + r.len) × (at + 1 + r.len ≤ at + (1 + d))
  place_written at before {after} {i} cells h =
      let xs = take r.len r.vertices in
      let all : Wrote xs (set before at r.len) (at + 1) after (at + 1 + r.len) = record {
        cells = cells ∙ ap (sets (set before at r.len) (at + 1)) (take_all i xs h);
        end = ap (λ (n : ℕ). at + 1 + n) (sym path-size);
      } in
      let w = wrote_then (r.len ∷ []) xs (record { cells = refl; end = refl }) all in
      let same : r.len ∷ xs ≡ path_cell path = ap₂ (λ (n : ℕ) (x : List ℕ). n ∷ x) len front in
      (subst (λ (x : List ℕ). Wrote x before at after (at + 1 + r.len)) same w, omega (arith, len_short))

-- ---- the paths at their places

pub at_place : (ks : List Meant.Task) (d : ℕ) (ps : List ℕ) (j : ℕ) → j < length ks
    → length ks ≤ length ps → get_or (paths_at ks d ps) j [] ≡ path_at (get_or ks j no_task) d (get_or ps j 0)
at_place [] d ps j h l = absurd (omega arith)
at_place (k ∷ ks) d [] j h l = absurd (omega arith)
at_place (k ∷ ks) d (p ∷ ps) zero h l = refl
at_place (k ∷ ks) d (p ∷ ps) (suc j) h l = at_place ks d ps j (omega arith) (omega arith)

pub places-length : (ks : List Meant.Task) (d : ℕ) (ps : List ℕ) → length ks ≤ length ps → length (paths_at ks d ps) ≡ length ks
places-length [] d ps l = refl
places-length (k ∷ ks) d [] l = absurd (omega arith)
places-length (k ∷ ks) d (p ∷ ps) l = ap suc (places-length ks d ps (omega arith))
