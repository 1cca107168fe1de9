-- Complete paths suffice: up to the horizon, the load of any legal path is at most that of some complete path.
use mathlib.Core.Path.{◌≡◌, refl, sym, ap, subst, ◌∙◌}
use Prim.Native.Nat.{ℕ, zero, suc, ◌-◌, ◌≤◌, ◌<◌}
use native.Mathlib.Nat.{le_refl, le_trans}
use native.Mathlib.Omega.{arith}
use native.Mathlib.Decide.{dec_lt}
use mathlib.Core.List.{[], ◌∷◌, Memᴰ}
use lib.ListN.{length}
use lib.Dec.{T, ltb, ltb→lt}
use Rattle.meaning.specs.Table.{Edge, Task}
use Rattle.meaning.specs.Paths.{Path, separation, out_of, between, linked, legal, load, paths_from, complete_paths}
use Rattle.meaning.proofs.Lists.{both_left, both_right}
use Rattle.meaning.proofs.Edges.{Spaced, link-edge, out_spaced}
use Rattle.meaning.proofs.Onward.{onward, mem_onward, alone_mem, some_path_lem, mem_complete}
use Rattle.meaning.proofs.Loads.{run_on, if_room_mono, run_mono, run_one, load_run}

pub run_zero : (k : Task) (u : ℕ) (w : Path) → run_on k u w 0 ≡ 0
run_zero k u [] = refl
run_zero k u (v ∷ w) = refl

-- no room is first_child after an edge that overshoots
over_run : (k : Task) (u v : ℕ) (w : Path) (t : ℕ) → t ≤ separation k u v → run_on k u (v ∷ w) t ≤ run_on k u [] t
over_run k u v w t h =
    let q : t - separation k u v ≡ 0 = omega arith in
    if_room_mono t t _ _ (le_refl t) (rw q (omega (arith, run_zero k v w)))

-- what a path from v is dominated by
abbrev Better : Task → ℕ → ℕ → ℕ → Path → Type 0
Better k n room v w = (c : Path) × Memᴰ (v ∷ c) (paths_from k n room v) × ((t : ℕ) → t ≤ room → run_on k v w t ≤ run_on k v c t)

-- by an edge that leaves room, from what dominates the rest
by_edge_lem : (k : Task) (n room v : ℕ) (w : Path) (x : Edge) → Memᴰ x (out_of k v) → x.p ≡ separation k v x.to → x.p < room
    → Better k n (room - x.p) x.to w → Better k (suc n) room v (x.to ∷ w)
by_edge_lem k n room v w x m q h b = (
  x.to ∷ b.0,
  alone_mem v (onward k n room v) (mem_onward k n room v x m h b.1),
  λ t l. if_room_mono t t _ _ (le_refl t) (omega (arith, b.2 (t - separation k v x.to) (omega arith))),
)

-- no room for the edge: any path from v will do
no_room : (k : Task) (n room v u : ℕ) (w : Path) → room ≤ separation k v u → Better k n room v (u ∷ w)
no_room k n room v u w h =
    let s = some_path_lem k n room v in
    (s.0, s.1, λ t l. le_trans (over_run k v u w t (le_trans l h)) (run_one k v s.0 t))

pub better : (k : Task) → Spaced k → (n room v : ℕ) (w : Path) → room ≤ n → T (linked k v w) → Better k n room v w
better k sp zero room v w h l =
    ([], Memᴰ.head refl, λ t r. omega (arith, run_mono k v w t 0 (omega arith), run_zero k v w))
better k sp (suc n) room v [] h l = let s = some_path_lem k (suc n) room v in (s.0, s.1, λ t r. run_one k v s.0 t)
better k sp (suc n) room v (u ∷ w) h l =
    go (link-edge k v u (both_left (ltb 0 (length (between k v u))) (linked k u w) l)) (λ x a b. better k sp n (room - x.p) x.to w a b)
  where
    go : (x : Edge) × Memᴰ x (out_of k v) × (x.to ≡ u) × (x.p ≡ separation k v u)
        → ((x : Edge) → room - x.p ≤ n → T (linked k x.to w) → Better k n (room - x.p) x.to w) → Better k (suc n) room v (u ∷ w)
    go (x, m, q, r) ih =
        let one : 1 ≤ x.p = out_spaced k sp v m in
        let rest : T (linked k x.to w) = subst (λ (z : ℕ). T (linked k z w)) (sym q) (both_right (ltb 0 (length (between k v u))) (linked k u w) l) in
        elim (dec_lt x.p room) [
          | yes a ↦ subst (λ (z : ℕ). Better k (suc n) room v (z ∷ w)) q
              (by_edge_lem k n room v w x m (r ∙ ap (separation k v) (sym q)) a (ih x (omega arith) rest))
          | no a ↦ no_room k (suc n) room v u w (omega arith)
        ]

-- the law: a complete path for horizon d dominates a legal path up to d
pub dominated : (k : Task) → Spaced k → (d : ℕ) (w : Path) → T (legal k w)
    → (c : Path) × Memᴰ c (complete_paths k d) × ((t : ℕ) → t ≤ d → load k w t ≤ load k c t)
dominated k sp d [] l = absurd l
dominated k sp d (v ∷ w) l =
    let a = both_left (ltb v (length k.vertices)) (linked k v w) l in
    let b = better k sp d d v w (le_refl d) (both_right (ltb v (length k.vertices)) (linked k v w) l) in (
      v ∷ b.0,
      mem_complete k d v (ltb→lt v (length k.vertices) a) b.1,
      λ t h. omega (arith, load_run k v w t, load_run k v b.0 t, b.2 t h),
    )
