-- The list of complete paths has exactly the legal paths that are complete, each of at most d vertices.
use mathlib.Core.Path.{◌≡◌, refl, sym, ap, subst, ◌∙◌}
use Prim.Native.Nat.{ℕ, zero, suc, ◌+◌, ◌-◌, ◌≤◌, ◌<◌, zero-le}
use native.Mathlib.Nat.{le_refl}
use native.Mathlib.Omega.{arith}
use native.Mathlib.Decide.{dec_lt}
use mathlib.Core.Bool.{◌&&◌}
use mathlib.Core.Logic.{◌⊎◌, inl, inr, ◌↔◌}
use mathlib.Core.List.Memᴰ
use mathlib.Core.List.{List, [], ◌∷◌, Memᴰ}
use lib.ListN.{length}
use lib.Dec.{T, ltb, leb, ltb→lt, lt→ltb, leb→le, le→leb}
use Rattle.meaning.specs.Lists.{all, those, gather, Rising}
use Rattle.meaning.specs.Table.{Edge, Task}
use Rattle.meaning.specs.Paths.{Path, separation, out_of, between, paths_from, complete_paths, linked, legal, span_on, last_on, complete, Before}
use Rattle.meaning.proofs.Lists.{both, both_left, both_right, all_mem, mem_all, those_mem}
use Rattle.meaning.proofs.Rising.{rising_same}
use Rattle.meaning.proofs.Edges.{Spaced, Fanned, link-edge, on_by_lem, out_spaced, separation_is}
use Rattle.meaning.proofs.Onward.{onward, mem_onward, onward_mem, alone_nil, alone_mem, alone_cases, some_path_lem, mem_complete, complete_mem}
use Rattle.meaning.proofs.PathOrder.{before_asym, before_irrefl, rising_complete}

-- ---- nothing to go on by

-- no edge out of v leaves room after s
abbrev Stuck : Task → ℕ → ℕ → ℕ → Type 0
Stuck k room s v = (x : Edge) → Memᴰ x (out_of k v) → room ≤ s + x.p

gather_nil : {A B : Type 0} (f : A → List B) (xs : List A) → ((x : A) → Memᴰ x xs → ⊥) → gather f xs ≡ []
gather_nil f [] h = refl
gather_nil f (x ∷ xs) h = absurd (h x (Memᴰ.head refl))

stuck_nil : (k : Task) (n room v : ℕ) → Stuck k room 0 v → onward k n room v ≡ []
stuck_nil k n room v h =
    gather_nil (λ (x : Edge). paths_from k n (room - x.p) x.to) (those (λ (x : Edge). ltb x.p room) (out_of k v))
    (λ x m. let r = those_mem (λ (y : Edge). ltb y.p room) (out_of k v) m in omega (arith, h x r.0, ltb→lt x.p room r.1))

nil_stuck : (k : Task) (n room v : ℕ) → onward k n room v ≡ [] → Stuck k room 0 v
nil_stuck k n room v q x m = elim (dec_lt x.p room) [ no a ↦ omega arith | yes a ↦ absurd (Memᴰ.not-nil (rw q at (goes_on a))) ]
  where
    goes_on : x.p < room → Memᴰ (x.to ∷ (some_path_lem k n (room - x.p) x.to).0) (onward k n room v)
    goes_on a = mem_onward k n room v x m a (some_path_lem k n (room - x.p) x.to).1

-- ---- what is listed from v: linked, below the horizon, and stuck at its end

record Fits (k : Task) (room v : ℕ) (w : Path) : Type 0 where
  links : T (linked k v w)
  short : span_on k v w < room
  last : Stuck k room (span_on k v w) (last_on v w)

module _ (k : Task) (sp : Spaced k) where
  lists : (n room v : ℕ) (w : Path) → room ≤ n → Fits k room v w → Memᴰ (v ∷ w) (paths_from k n room v)
  lists zero room v w h f = absurd (omega (arith, f.short))
  lists (suc n) room v [] h f = alone_nil v (onward k n room v) (stuck_nil k n room v f.last)
  lists (suc n) room v (u ∷ w) h f =
      go (link-edge k v u (both_left (ltb 0 (length (between k v u))) (linked k u w) f.links)) (λ x a b. lists n (room - x.p) u w a b)
    where
      go : (x : Edge) × Memᴰ x (out_of k v) × (x.to ≡ u) × (x.p ≡ separation k v u)
          → ((x : Edge) → room - x.p ≤ n → Fits k (room - x.p) u w → Memᴰ (u ∷ w) (paths_from k n (room - x.p) u))
          → Memᴰ (v ∷ u ∷ w) (paths_from k (suc n) room v)
      go (x, m, q, r) ih =
          let one : 1 ≤ x.p = out_spaced k sp v m in
          let short = f.short in
          let rest = ih x (omega arith) (record {
            links = both_right (ltb 0 (length (between k v u))) (linked k u w) f.links;
            short = omega arith;
            last = λ y j. omega (arith, f.last y j);
          }) in
          alone_mem v (onward k n room v)
          (mem_onward k n room v x m (omega arith) (subst (λ (z : ℕ). Memᴰ (u ∷ w) (paths_from k n (room - x.p) z)) (sym q) rest))

  module _ (fn : Fanned k) where
    fits : (n room v : ℕ) {c : Path} → 1 ≤ room → room ≤ n → Memᴰ c (paths_from k n room v) → (w : Path) × (c ≡ v ∷ w) × Fits k room v w
    fits zero room v o h m = absurd (omega arith)
    fits (suc n) room v {c} o h m = go (λ x q a b j. fits n (room - x.p) x.to {c = q} a b j) (alone_cases v (onward k n room v) m)
      where
        go : ((x : Edge) (q : Path) → 1 ≤ room - x.p → room - x.p ≤ n → Memᴰ q (paths_from k n (room - x.p) x.to)
            → (w : Path) × (q ≡ x.to ∷ w) × Fits k (room - x.p) x.to w)
            → ((onward k n room v ≡ []) × (c ≡ v ∷ [])) ⊎ ((q : Path) × Memᴰ q (onward k n room v) × (c ≡ v ∷ q))
            → (w : Path) × (c ≡ v ∷ w) × Fits k room v w
        go ih (inl (z, e)) = ([], e, record { links = tt; short = omega arith; last = nil_stuck k n room v z })
        go ih (inr (q, j, e)) =
            let r = onward_mem k n room v j in
            let x = r.edge in
            let one : 1 ≤ x.p = out_spaced k sp v r.out in
            let less = r.fits in
            let apart : x.p ≡ separation k v x.to = separation_is k fn v x r.out in
            let i = ih x q (omega arith) (omega arith) r.then in
            let short = i.2.short in
            let f : Fits k room v (x.to ∷ i.0) = record {
              links = on_by_lem k v x i.0 (x.to ∷ i.0) r.out refl i.2.links;
              short = omega arith;
              last = λ y b. omega (arith, i.2.last y b);
            } in
            (x.to ∷ i.0, e ∙ ap (λ (z : Path). v ∷ z) i.1, f)

  -- each next vertex takes a tick or more
  span-length : (u : ℕ) (w : Path) → T (linked k u w) → length w ≤ span_on k u w
  span-length u [] l = zero-le
  span-length u (v ∷ w) l =
      let x = link-edge k u v (both_left (ltb 0 (length (between k u v))) (linked k v w) l) in
      omega (arith, out_spaced k sp u x.1, x.3, span-length v w (both_right (ltb 0 (length (between k u v))) (linked k v w) l))

-- ---- by the definition's tests

fits_test : (k : Task) (d v : ℕ) (w : Path) → v < length k.vertices → Fits k d v w → T (legal k (v ∷ w) && complete k d (v ∷ w))
fits_test k d v w h f =
    both (legal k (v ∷ w)) (complete k d (v ∷ w))
    (both (ltb v (length k.vertices)) (linked k v w) (lt→ltb v (length k.vertices) h) f.links)
    (both (ltb (span_on k v w) d) (all (λ (x : Edge). leb d (span_on k v w + x.p)) (out_of k (last_on v w))) (lt→ltb (span_on k v w) d f.short)
    (mem_all (λ (x : Edge). leb d (span_on k v w + x.p)) (out_of k (last_on v w)) (λ x m. le→leb d (span_on k v w + x.p) (f.last x m))))

test_fits : (k : Task) (d v : ℕ) (w : Path) → T (legal k (v ∷ w) && complete k d (v ∷ w)) → (v < length k.vertices) × Fits k d v w
test_fits k d v w t =
    let l = both_left (legal k (v ∷ w)) (complete k d (v ∷ w)) t in
    let c = both_right (legal k (v ∷ w)) (complete k d (v ∷ w)) t in
    let late = all (λ (x : Edge). leb d (span_on k v w + x.p)) (out_of k (last_on v w)) in (
      ltb→lt v (length k.vertices) (both_left (ltb v (length k.vertices)) (linked k v w) l),
      record {
        links = both_right (ltb v (length k.vertices)) (linked k v w) l;
        short = ltb→lt (span_on k v w) d (both_left (ltb (span_on k v w) d) late c);
        last = λ x m. leb→le d (span_on k v w + x.p)
            (all_mem (λ (y : Edge). leb d (span_on k v w + y.p)) (out_of k (last_on v w)) (both_right (ltb (span_on k v w) d) late c) m);
      },
    )

-- ---- the laws

module _ (k : Task) (sp : Spaced k) (fn : Fanned k) (d : ℕ) (o : 1 ≤ d) where
  -- a listed path begins at a vertex of the task, and fits from there
  begun : (c : Path) → Memᴰ c (complete_paths k d) → (v : ℕ) × (w : Path) × (v < length k.vertices) × (c ≡ v ∷ w) × Fits k d v w
  begun c m =
      let r = complete_mem k d m in
      let f = fits k sp fn d d r.0 o (le_refl d) r.2 in
      (r.0, f.0, r.1, f.1, f.2)

  listed_only : (c : Path) → Memᴰ c (complete_paths k d) → T (legal k c && complete k d c)
  listed_only c m = let b = begun c m in subst (λ (z : Path). T (legal k z && complete k d z)) (sym b.3) (fits_test k d b.0 b.1 b.2 b.4)

  listed-all : (c : Path) → T (legal k c && complete k d c) → Memᴰ c (complete_paths k d)
  listed-all [] t = absurd t
  listed-all (v ∷ w) t = let f = test_fits k d v w t in mem_complete k d v f.0 (lists k sp d d v w (le_refl d) f.1)

  pub listed_exactly : (c : Path) → Memᴰ c (complete_paths k d) ↔ T (legal k c && complete k d c)
  listed_exactly c = (listed_only c, listed-all c)

  pub listed_short : (c : Path) → Memᴰ c (complete_paths k d) → length c ≤ d
  listed_short c m = let b = begun c m in omega (arith, ap length b.3, span-length k sp b.0 b.1 b.4.links, b.4.short)

  -- so the document settles the list: any list in order of the legal complete paths is this one
  pub listed-settled : (ws : List Path) → Rising Before ws → ((c : Path) → Memᴰ c ws ↔ T (legal k c && complete k d c)) → ws ≡ complete_paths k d
  listed-settled ws r h = rising_same Before before_asym before_irrefl ws (complete_paths k d) r
      (rising_complete k fn d) (λ c m. listed-all c ((h c).0 m)) (λ c m. (h c).1 (listed_only c m))
