-- What a judge needs: from rows that hold the ranges' loads, and the run's answer on them, to what the walk over paths sees and comes to.
use mathlib.Core.Path.{◌≡◌, refl, sym, ap, ap₂, ◌∙◌}
use Prim.Native.Nat.{ℕ, zero, suc, ◌<◌}
use native.Mathlib.Omega.{arith}
use mathlib.Core.List.{List, [], ◌∷◌, ◌++◌, append_assoc}
use lib.ListN.{length, take, drop, get_or}
use lib.Seq.{length-take-le, drop-cons}
use lib.Dec.{T}
use Rattle.meaning.specs.Walk.{full, bar_at, End, Sees}
use Rattle.walk.specs.declared.Walked.{Walked}
use Rattle.groups.specs.Groups.{top_group}
use Rattle.walk.specs.Steps.{in_places, best, group_finish, run_rows}
use Rattle.meaning.specs.Bounds.{most_higher}
use Rattle.walk.specs.Lent.{Walkable}
use Rattle.walk.specs.Told.{sizes, chosen, RowsHold, Says}
use Rattle.groups.proofs.Pending.{filled_top}
use Rattle.groups.proofs.LaidOut.{counts_filled}
use Rattle.walk.proofs.Running.{run_places}
use Rattle.walk.proofs.Paths.{finishes_are}
use Rattle.walk.proofs.Same.{sizes_full, run_says}

-- ---- a run over the rows of the top group Gs

module _ {X : Type 0} (load : X → ℕ → ℕ) (Gs : List (List X)) where
  -- from this bar on: what the walk over paths sees and comes to, or unfinished exactly if the budget b is below that
  pub walk_says : {h d e : ℕ} {root count work : List ℕ} → Walkable h d e root count work → length Gs ≡ h → take h count ≡ sizes Gs
      → RowsHold load d work root Gs → (from n : ℕ) (z : End X) → (T (full Gs) → Sees load e d (bar_at from) n z Gs)
      → (b : ℕ) {r : Walked} → r ≡ run_rows work d e (take h root) (take h count) from b → Says Gs n z b r.ending r.finish r.places
  walk_says {d = d} {e} {root} {work = work} w many are rows from n z sees b {r} q =
      let a = w.stretches.few in
      let c = w.stretches.root_length in
      let filled = rw are at (counts_filled w.stretches) in
      run_says load e d Gs (group_finish work d e (take (length Gs) root)) (finishes_are load work d e Gs root (omega arith) rows) b from n z
      (sees (sizes_full Gs filled)) filled r (q ∙ ap₂ (λ (k : ℕ) (ns : List ℕ). run_rows work d e (take k root) ns from b) (sym many) are)

-- a place for each higher task there can be
pub places-whole : {h d e : ℕ} {root count work : List ℕ} → Walkable h d e root count work → (from b : ℕ) {r : Walked}
    → r ≡ run_rows work d e (take h root) (take h count) from b → length r.places ≡ most_higher
places-whole {h} {d} {e} {root} {count} {work} w from b q =
    let a = w.stretches.few in
    let c = w.stretches.count_length in
    ap (λ (z : Walked). length z.places) q
    ∙ run_places (group_finish work d e (take h root)) d (take h count) (omega (arith, length-take-le h count (omega arith))) b 0 (best from (in_places []))
    (top_group (take h count)) (filled_top (take h count) (counts_filled w.stretches)) refl

-- ---- the witness's paths, one after the other

module _ {X : Type 0} where
  pub chosen_more : (Gs : List (List X)) (ps : List ℕ) (j : ℕ) (x : X) → j < length Gs → j < length ps → get_or ps j 0 < length (get_or Gs j [])
      → chosen (take (suc j) Gs) ps ≡ chosen (take j Gs) ps ++ (get_or (get_or Gs j []) (get_or ps j 0) x ∷ [])
  chosen_more [] ps j x k l m = absurd (omega arith)
  chosen_more (G ∷ Gs) [] j x k l m = absurd (omega arith)
  chosen_more (G ∷ Gs) (p ∷ ps) zero x k l m = rw (drop-cons G p x m)
  chosen_more (G ∷ Gs) (p ∷ ps) (suc j) x k l m =
      ap (λ (z : List X). take 1 (drop p G) ++ z) (chosen_more Gs ps j x (omega arith) (omega arith) m)
      ∙ sym (append_assoc (take 1 (drop p G)) (chosen (take j Gs) ps) (get_or (get_or Gs j []) (get_or ps j 0) x ∷ []))
