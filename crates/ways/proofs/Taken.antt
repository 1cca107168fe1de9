-- What each way on takes: edges out of its vertices, each with room left, and so fewer than the ticks.
use mathlib.Core.Path.{◌≡◌, refl, sym, subst}
use Prim.Native.Nat.{ℕ, zero, suc, ◌+◌, ◌-◌, ◌≤◌, ◌<◌}
use native.Mathlib.Omega.{arith}
use borrow.Author.Tests.{ltb-true}
use mathlib.Core.Bool.{Bool, true, false}
use mathlib.Core.Logic.{◌⊎◌, inl, inr}
use mathlib.Core.List.Memᴰ
use mathlib.Core.List.{List, [], ◌∷◌, Memᴰ}
use lib.ListN.{length, get_or}
use lib.Dec.{ltb}
use Rattle.meaning.specs.Lists.{pick, gather}
use Rattle.meaning.specs.Bounds.{most_vertices}
use Rattle.meaning.proofs.Lists.{mem_get_or, gather_mem, count_from_mem}
use Rattle.columns.specs.Columns.{SoundColumns, edges_of}
use Rattle.ways.specs.Ways.{or_stop, on_by, onward, ways_from, ways}
use Rattle.ways.proofs.Ways.{edge-below}

none_cases : (hs : List (List ℕ)) {h : List ℕ} → Memᴰ h (or_stop hs) → (h ≡ []) ⊎ Memᴰ h hs
none_cases [] (Memᴰ.head q) = inl q
none_cases [] (Memᴰ.tail m) = absurd (Memᴰ.not-nil m)
none_cases (x ∷ hs) m = inr m

pick_mem : (b : Bool) (xs : List (List ℕ)) {h : List ℕ} → Memᴰ h (pick b xs []) → (b ≡ true) × Memᴰ h xs
pick_mem true xs m = (refl, m)
pick_mem false xs m = absurd (Memᴰ.not-nil m)

module _ (start to p : List ℕ) where
  -- each edge of a way on is one of its vertex's, and leaves room
  abbrev pub Taken : ℕ → ℕ → List ℕ → Type 0
  Taken room v [] = Unit {0}
  Taken room v (j ∷ h) =
      (get_or start v 0 ≤ j) × (j < get_or start v 0 + (get_or start (v + 1) 0 - get_or start v 0)) × (get_or p j 0 < room) × Taken (room - get_or p j 0) (get_or to j 0) h

  pub way_taken : (n room v : ℕ) (h : List ℕ) → Memᴰ h (ways_from start to p n room v) → Taken room v h
  way_taken zero room v h (Memᴰ.head q) = subst (Taken room v) (sym q) tt
  way_taken zero room v h (Memᴰ.tail m) = absurd (Memᴰ.not-nil m)
  way_taken (suc n) room v h m =
      go (λ j q y. way_taken n (room - get_or p j 0) (get_or to j 0) q y) (none_cases (gather (onward to p (ways_from start to p n) room) (edges_of start v)) m)
    where
      go : ((j : ℕ) (q : List ℕ) → Memᴰ q (ways_from start to p n (room - get_or p j 0) (get_or to j 0)) → Taken (room - get_or p j 0) (get_or to j 0) q)
          → (h ≡ []) ⊎ Memᴰ h (gather (onward to p (ways_from start to p n) room) (edges_of start v)) → Taken room v h
      go ih (inl q) = subst (Taken room v) (sym q) tt
      go ih (inr y) =
          let r = gather_mem (onward to p (ways_from start to p n) room) (edges_of start v) y in
          let j = r.0 in
          let b = count_from_mem (get_or start v 0) (get_or start (v + 1) 0 - get_or start v 0) j r.1 in
          let t = pick_mem (ltb (get_or p j 0) room) (on_by j (ways_from start to p n (room - get_or p j 0) (get_or to j 0))) r.2 in
          let z = Memᴰ.of_map (λ (q : List ℕ). j ∷ q) (ways_from start to p n (room - get_or p j 0) (get_or to j 0)) t.1 in
          subst (Taken room v) z.2 (b.0, b.1, ltb-true (get_or p j 0) room t.0, ih j z.0 z.1)

  pub taken_short : SoundColumns start to p → (room v : ℕ) (h : List ℕ) → v < most_vertices → 0 < room → Taken room v h → length h < room
  taken_short s room v [] hv hr w = omega arith
  taken_short s room v (j ∷ h) hv hr w =
      let l = edge-below start to p s v j hv w.0 w.1 in
      let a = s.apart j l in
      omega (arith, taken_short s (room - get_or p j 0) (get_or to j 0) h (s.within j l) (omega arith) w.3)

-- a path has at most as many vertices as ticks
pub way_short : (start to p : List ℕ) → SoundColumns start to p → (v r i : ℕ) → v < most_vertices → 0 < r → i < length (ways start to p v r)
    → length (get_or (ways start to p v r) i []) < r
unfolding ways
way_short start to p s v r i hv hr h =
    let w = get_or (ways start to p v r) i [] in
    taken_short start to p s r v w hv hr (way_taken start to p r r v w (mem_get_or [] (ways_from start to p r r v) i h))
