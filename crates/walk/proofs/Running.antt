-- A run of the code is the run of the walk over ranges.
use mathlib.Core.Path.{◌≡◌, sym, ap, ap₂, ◌∙◌}
use Prim.Native.Nat.{ℕ, zero, suc, ◌+◌, ◌-◌, ◌≤◌, ◌<◌}
use native.Mathlib.Nat.{sub-zero}
use native.Mathlib.Omega.{arith}
use native.Mathlib.Numerals.{add-one}
use mathlib.Core.Bool.{Bool, true, false}
use mathlib.Core.Option.{Option, none, some}
use mathlib.Core.List.{List, []}
use lib.ListN.{length, length-map, length-append, length-drop, length-replicate}
use lib.Dec.{ltb}
use Rattle.meaning.specs.Lists.{pick}
use Rattle.walk.specs.declared.Examined.{Examined}
use Rattle.walk.specs.declared.Examined.TheVariants.{Next, Last, Witness}
use Rattle.walk.specs.declared.Walked.{Walked}
use Rattle.rows.specs.Ranges.{Range}
use Rattle.groups.specs.Groups.{firsts, top_group, all_single, first_child, next_group, InWalk}
use Rattle.walk.specs.declared.Best.{Best}
use Rattle.walk.specs.Steps.{in_places, best, WalkStep, step_to, onward_by, descend_by, group_finish, examine, run_by, run_from, run_rows}
use Rattle.meaning.specs.Bounds.{most_higher}
use Rattle.groups.specs.declared.Stretch.{Stretch}
use Rattle.groups.specs.declared.Part.{Part}
use Rattle.groups.specs.Lent.{roots, counts, group_in, largest_index, Standing, Stands}
use Rattle.walk.specs.Lent.{WalkableOver, StepsOver}
use Rattle.groups.proofs.Pending.{filled_top, walk_length}
use Rattle.groups.proofs.LaidOut.{wider, all_filled}
use Rattle.walk.proofs.Stepping.{examine_walk, stands_standing}

-- ---- a step of the run

module _ (fin : List Range → ℕ) (d : ℕ) (ns : List ℕ) (b n : ℕ) (l : n < b) where
  -- after the group that is examined now
  abbrev further : Best → List Range → Walked
  further t ys = run_from fin d ns (b - (n + 1)) (n + 1) t ys

  run_told : (s : Best) (xs : List Range) (u : Examined) → u ≡ (examine fin d ns s xs).told
      → run_from fin d ns (b - n) n s xs ≡ run_by n further u (examine fin d ns s xs).best (examine fin d ns s xs).group
  run_told s xs u q =
      let e : b - n ≡ suc (b - suc n) = omega arith in
      let to = examine fin d ns s xs in
      let after : ℕ → Examined → Walked = λ m x. run_by n (λ (t : Best) (ys : List Range). run_from fin d ns (b - m) m t ys) x to.best to.group in
      ap (λ (m : ℕ). run_from fin d ns m n s xs) e ∙ ap₂ after (sym (add-one n)) (sym q)

-- ---- a run of the code

-- after n groups the parts hold the next, the bar is s, and going on from there gives the whole answer
pub record Going (d e from b : ℕ) (ss : List Stretch) (work : List ℕ) (a : List Part) (s : Best) (n : ℕ) : Type 0 where
  pub standing : Standing d ss a
  pub same : run_rows work d e (roots ss) (counts ss) from b
      ≡ run_from (group_finish work d e (roots ss)) d (counts ss) (b - n) n s (group_in a)

module _ (ss : List Stretch) {d e : ℕ} {work : List ℕ} (f : WalkableOver d e ss work) where
  abbrev fin : List Range → ℕ
  fin = group_finish work d e (roots ss)

  abbrev ns : List ℕ
  ns = counts ss

  abbrev whole : ℕ → ℕ → Walked
  whole from b = run_rows work d e (roots ss) ns from b

  module _ {from b : ℕ} where
    pub going_top : length work ≤ largest_index → {a : List Part} → Stands d ss a (top_group ns) → Going d e from b ss work a (best from (in_places [])) 0
    going_top l s =
        record {
          standing = stands_standing (wider f.stretches l) s (filled_top ns (all_filled ss f.stretches));
          same = ap₂ (λ (k : ℕ) (xs : List Range). run_from fin d ns k 0 (best from (in_places [])) xs) (sym (sub-zero b)) (sym s.group);
        }

    module _ {a : List Part} {s : Best} {n : ℕ} (g : Going d e from b ss work a s n) where
      abbrev to : WalkStep
      to = examine fin d ns s (group_in a)

      module _ (l : n < b) {told : Examined} {t : Best} {c : List Part} (x : StepsOver d e work ss s a told t c) where
        on_told : (u : Examined) → told ≡ u → whole from b ≡ run_by n (further fin d ns b n l) u to.best to.group
        on_told u q = g.same ∙ run_told fin d ns b n l s (group_in a) u (sym q ∙ x.says)

        pub going_next : told ≡ Next → Going d e from b ss work c t (n + 1)
        going_next q =
            record {
              standing = stands_standing g.standing.stretches x.stands (examine_walk fin d ns s (group_in a) g.standing.reached);
              same = on_told Next q ∙ ap₂ (run_from fin d ns (b - (n + 1)) (n + 1)) (sym x.bar) (sym x.stands.group);
            }

-- the array of places is whole
module _ (fin : List Range → ℕ) (d : ℕ) (ns : List ℕ) (few : length ns ≤ most_higher) where
  places-length : (ps : List ℕ) → length ps ≤ most_higher → length (in_places ps) ≡ most_higher
  places-length ps l = simp (length-append, length-drop, length-replicate {A = ℕ}) (omega arith)

  firsts-length : (xs : List Range) → InWalk ns xs → length (in_places (firsts xs)) ≡ most_higher
  firsts-length xs w = places-length (firsts xs) (omega (arith, length-map xs (λ (x : Range). x.first), walk_length ns xs w))

  examine-places : (s : Best) (xs : List Range) → InWalk ns xs → length s.places ≡ most_higher → length (examine fin d ns s xs).best.places ≡ most_higher
  examine-places s xs o l = go (ltb s.tick (fin xs)) (all_single xs) (ltb d (fin xs)) (next_group ns xs)
    where
      on : (t : Best) → length t.places ≡ most_higher → (f : Option (List Range)) → length (onward_by ns t f).best.places ≡ most_higher
      on t m none = m
      on t m (some ys) = m

      go : (v u w : Bool) (f : Option (List Range))
          → length (pick v (descend_by (pick w (step_to Witness s xs) (onward_by ns (best (fin xs) (in_places (firsts xs))) f)) s
          (pick u none (some (first_child xs))))
          (onward_by ns s f)).best.places ≡ most_higher
      go true true true f = l
      go true true false f = on _ (firsts-length xs o) f
      go true false w f = l
      go false u w f = on s l f

  pub run_places : (b n : ℕ) (s : Best) (xs : List Range) → InWalk ns xs
      → length s.places ≡ most_higher → length (run_from fin d ns b n s xs).places ≡ most_higher
  run_places zero n s xs o l = l
  run_places (suc b) n s xs o l =
      let to = examine fin d ns s xs in
      let w = examine_walk fin d ns s xs o in
      let m = examine-places s xs o l in
      go to.best to.group w m (run_places b (suc n) to.best to.group w m) to.told
    where
      go : (t : Best) (ys : List Range) → InWalk ns ys → length t.places ≡ most_higher → length (run_from fin d ns b (suc n) t ys).places ≡ most_higher
          → (u : Examined) → length (run_by n (λ (z : Best) (zs : List Range). run_from fin d ns b (suc n) z zs) u t ys).places ≡ most_higher
      go t ys w m i Next = i
      go t ys w m i Last = m
      go t ys w m i Witness = firsts-length ys w
