-- Loads never fall as t grows, and a legal path of a sound task has at most the largest e for each tick.
use mathlib.Core.Path.{refl, ap}
use Prim.Native.Nat.{ℕ, zero, suc, ◌-◌, ◌*◌, ◌≤◌, zero-le}
use native.Mathlib.Omega.{arith}
use native.Mathlib.Decide.{dec_lt}
use mathlib.Core.List.{List, [], ◌∷◌, Memᴰ}
use lib.Dec.{T, ltb}
use lib.ListN.{length, get_or, get_or-eq_default}
use Rattle.meaning.specs.Bounds.{largest_e}
use Rattle.meaning.specs.Table.{Vertex, Task, no_vertex}
use Rattle.meaning.specs.Paths.{Path, separation, execution, between, linked, legal, load}
use Rattle.meaning.specs.Groups.{range_load}
use Rattle.meaning.specs.Sound.{SoundTask}
use Rattle.meaning.proofs.Lists.{both_left, both_right, mem_get_or}
use Rattle.meaning.proofs.Edges.{sound_spaced, out_spaced, link-edge}
use Rattle.meaning.proofs.Loads.{run_on, load_run, run_mono}

-- ---- in t

pub load_rises : (k : Task) (w : Path) (s t : ℕ) → s ≤ t → load k w s ≤ load k w t
unfolding load
load_rises k [] s t h = zero-le
load_rises k (u ∷ w) s t h = omega (arith, load_run k u w s, load_run k u w t, run_mono k u w s t h)

module _ {X : Type 0} (load : X → ℕ → ℕ) where
  pub range_rises : ((x : X) (s t : ℕ) → s ≤ t → load x s ≤ load x t) → (r : List X) (s t : ℕ) → s ≤ t → range_load load r s ≤ range_load load r t
  range_rises rises [] s t h = zero-le
  range_rises rises (x ∷ r) s t h = omega (arith, rises x s t h, range_rises rises r s t h)

  -- what no path of a range exceeds, the range doesn't
  pub range_bound : (r : List X) (t b : ℕ) → ((x : X) → Memᴰ x r → load x t ≤ b) → range_load load r t ≤ b
  range_bound [] t b h = zero-le
  range_bound (x ∷ r) t b h = omega (arith, h x (Memᴰ.head refl), range_bound r t b (λ y m. h y (Memᴰ.tail m)))

-- ---- of a sound task

module _ (k : Task) (s : SoundTask k) where
  execution_bound : (v : ℕ) → execution k v ≤ largest_e
  unfolding execution
  execution_bound v = elim (dec_lt v (length k.vertices)) [
    | yes h ↦ (s.each_vertex (get_or k.vertices v no_vertex) (mem_get_or no_vertex k.vertices v h)).most_e
    | no h ↦ omega (arith, ap (λ (x : Vertex). x.e) (get_or-eq_default k.vertices no_vertex {n = v} (omega arith)))
  ]

  -- a link takes a tick or more
  apart : (u v : ℕ) → T (ltb 0 (length (between k u v))) → 1 ≤ separation k u v
  apart u v l = let x = link-edge k u v l in omega (arith, out_spaced k (sound_spaced k s) u x.1, x.3)

  run_bound : (u : ℕ) (w : Path) (t : ℕ) → T (linked k u w) → run_on k u w t ≤ largest_e * t
  run_bound u [] zero l = zero-le
  run_bound u [] (suc t) l = omega (arith, execution_bound u)
  run_bound u (v ∷ w) zero l = zero-le
  run_bound u (v ∷ w) (suc t) l =
      let a = apart u v (both_left (ltb 0 (length (between k u v))) (linked k v w) l) in
      omega (arith, execution_bound u, run_bound v w (suc t - separation k u v) (both_right (ltb 0 (length (between k u v))) (linked k v w) l))

  pub load_bound : (w : Path) (t : ℕ) → T (legal k w) → load k w t ≤ largest_e * t
  load_bound [] t l = absurd l
  load_bound (u ∷ w) t l = omega (arith, load_run k u w t, run_bound u w t (both_right (ltb u (length k.vertices)) (linked k u w) l))
