-- The stretches that the walk is lent: those of the higher tasks, from the front.
use mathlib.Core.Path.{◌≡◌, sym, ap, ◌∙◌}
use Prim.Native.Nat.{ℕ, ◌<◌}
use native.Mathlib.Omega.{arith}
use mathlib.Core.List.{List}
use lib.ListN.{length, take, get_or, length-map}
use lib.Seq.{get_or-take, length-take-le}
use Rattle.std.proofs.lemmas.List.{take-map}
use Rattle.groups.specs.declared.Stretch.{Stretch}
use Rattle.groups.specs.Lent.{roots, counts}
use Rattle.walk.specs.Lent.{Walkable, WalkableOver}

module _ {h d e : ℕ} (ss : List Stretch) {work : List ℕ} (w : Walkable h d e (roots ss) (counts ss) work) where
  pub front_roots : roots (take h ss) ≡ take h (roots ss)
  front_roots = sym (take-map (λ (s : Stretch). s.root) h ss)

  pub front_counts : counts (take h ss) ≡ take h (counts ss)
  front_counts = sym (take-map (λ (s : Stretch). s.count) h ss)

  pub front_many : length (take h ss) ≡ h
  front_many = length-take-le h ss (omega (arith, w.stretches.root_length, length-map ss (λ (s : Stretch). s.root)))

  root_is : (j : ℕ) → j < length (take h ss) → get_or (roots (take h ss)) j 0 ≡ get_or (roots ss) j 0
  root_is j l = ap (λ (z : List ℕ). get_or z j 0) front_roots ∙ get_or-take h (roots ss) j 0 (omega (arith, front_many))

  count_is : (j : ℕ) → j < length (take h ss) → get_or (counts (take h ss)) j 0 ≡ get_or (counts ss) j 0
  count_is j l = ap (λ (z : List ℕ). get_or z j 0) front_counts ∙ get_or-take h (counts ss) j 0 (omega (arith, front_many))

  in_h : (j : ℕ) → j < length (take h ss) → j < h
  in_h j l = omega (arith, front_many)

  pub front_walkable : WalkableOver d e (take h ss) work
  front_walkable =
      record {
        stretches = record {
          few = omega (arith, front_many, w.stretches.few);
          short = w.stretches.short;
          root_length = omega (arith, length-map (take h ss) (λ (s : Stretch). s.root));
          count_length = omega (arith, length-map (take h ss) (λ (s : Stretch). s.count));
          paths = λ j l. rw (count_is j l) (w.stretches.paths j (in_h j l));
          within = λ j l. rw (root_is j l, count_is j l) (w.stretches.within j (in_h j l));
        };
        own = w.own;
        cells = λ j l f m x. rw (root_is j l) (w.cells j (in_h j l) f m (rw (count_is j l) at x));
        rise = λ j l f m x. rw (root_is j l) (w.rise j (in_h j l) f m (rw (count_is j l) at x));
      }
