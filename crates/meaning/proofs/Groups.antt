-- Groups: a group finishes no earlier than any choice in it; the children share a group's choices in order.
use mathlib.Core.Path.{◌≡◌, refl, sym, ap, subst, ◌∙◌}
use Prim.Native.Nat.{ℕ, zero, suc, ◌-◌, ◌≤◌, ◌<◌, zero-le}
use native.Mathlib.Nat.{le_refl}
use native.Mathlib.Omega.{arith}
use borrow.Author.Tests.{lt-ltb, le-ltb, ltb-true}
use mathlib.Core.Bool.{Bool, true, false, true≢false, not, ◌&&◌}
use mathlib.Core.List.Memᴰ
use mathlib.Core.List.{List, [], ◌∷◌, ◌++◌, map, append-nil, Memᴰ}
use lib.ListN.{length, take, drop, take-append-drop, length-take, length-drop}
use lib.Dec.{T, ltb, ltb→lt, lt→ltb}
use Rattle.meaning.specs.Lists.{gather, sum}
use Rattle.meaning.specs.Groups.{choice_loads, choice_overloads, choice_finish, range_load, group_loads, overloads, group_finish, half, first_part, second_part}
use Rattle.meaning.specs.Groups.{long, single, child_by, choices}
use Rattle.meaning.specs.Walk.{first_child, second_child, full, heads}
use Rattle.meaning.proofs.Finish.{finish_some, exceeds_late, finish_mono}
use Rattle.meaning.proofs.Lists.{both, both_left, both_right, is_false, mem_gather, gather_mem, gather_append, map-append, mem_largest}

-- ---- choices in a group

module _ {X : Type 0} where
  -- a choice is in a group: one path of each range
  abbrev pub In : List X → List (List X) → Type 0
  In [] [] = Unit {0}
  In [] (r ∷ g) = ⊥
  In (x ∷ c) [] = ⊥
  In (x ∷ c) (r ∷ g) = Memᴰ x r × In c g

  pub full_in : (g : List (List X)) → T (full g) → (c : List X) × In c g
  full_in [] f = ([], tt)
  full_in ([] ∷ g) f = absurd f
  full_in ((x ∷ r) ∷ g) f = let k = full_in g (both_right (ltb 0 (suc (length r))) (full g) f) in (x ∷ k.0, (Memᴰ.head refl, k.1))

  pub in_choices : (c : List X) (g : List (List X)) → In c g → Memᴰ c (choices g)
  in_choices [] [] p = Memᴰ.head refl
  in_choices [] (r ∷ g) p = absurd p
  in_choices (x ∷ c) [] p = absurd p
  in_choices (x ∷ c) (r ∷ g) p =
      mem_gather (λ (y : X). map (λ (k : List X). y ∷ k) (choices g)) p.0 (Memᴰ.map (λ (k : List X). x ∷ k) (in_choices c g p.1))

  pub choices_in : (c : List X) (g : List (List X)) → Memᴰ c (choices g) → In c g
  choices_in c [] m = subst (λ (k : List X). In k []) (sym (Memᴰ.eq_of_singleton m)) tt
  choices_in c (r ∷ g) m = go (gather_mem (λ (y : X). map (λ (k : List X). y ∷ k) (choices g)) r m) (λ k q. choices_in k g q)
    where
      go : (x : X) × Memᴰ x r × Memᴰ c (map (λ (k : List X). x ∷ k) (choices g)) → ((k : List X) → Memᴰ k (choices g) → In k g) → In c (r ∷ g)
      go (x, a, b) ih =
          let s = Memᴰ.of_map (λ (k : List X). x ∷ k) (choices g) b in
          subst (λ (k : List X). In k (r ∷ g)) s.2 (a, ih s.0 s.1)

module _ {X : Type 0} (load : X → ℕ → ℕ) where
  range_mem : (r : List X) (t : ℕ) {x : X} → Memᴰ x r → load x t ≤ range_load load r t
  range_mem r t m = mem_largest (Memᴰ.map (λ (y : X). load y t) m)

  in_le : (c : List X) (g : List (List X)) (t : ℕ) → In c g → choice_loads load c t ≤ group_loads load g t
  in_le [] [] t p = le_refl 0
  in_le [] (r ∷ g) t p = absurd p
  in_le (x ∷ c) [] t p = absurd p
  in_le (x ∷ c) (r ∷ g) t p = omega (arith, range_mem r t p.0, in_le c g t p.1)

  -- to overload is to finish later than d
  pub choice_late : (e d : ℕ) (c : List X) → choice_overloads load e d c ≡ ltb d (choice_finish load e d c)
  unfolding choice_overloads choice_finish
  choice_late e d c = exceeds_late e d (choice_loads load c)

  pub group_late : (e d : ℕ) (g : List (List X)) → overloads load e d g ≡ ltb d (group_finish load e d g)
  unfolding overloads group_finish
  group_late e d g = exceeds_late e d (group_loads load g)

  pub choice_finishes : (e d : ℕ) (c : List X) → 1 ≤ choice_finish load e d c
  unfolding choice_finish
  choice_finishes e d c = finish_some e d (choice_loads load c)

  pub group_finishes : (e d : ℕ) (g : List (List X)) → 1 ≤ group_finish load e d g
  unfolding group_finish
  group_finishes e d g = finish_some e d (group_loads load g)

  -- a group finishes no earlier than any choice in it
  pub in_finish : (e d : ℕ) (c : List X) (g : List (List X)) → In c g → choice_finish load e d c ≤ group_finish load e d g
  unfolding choice_finish group_finish
  in_finish e d c g p = finish_mono e d (choice_loads load c) (group_loads load g) (λ t a b. in_le c g t p)

  -- so an overloading choice makes every group that holds it overload
  pub in_overload : (e d : ℕ) (c : List X) (g : List (List X)) → In c g → T (choice_overloads load e d c) → T (overloads load e d g)
  in_overload e d c g p t =
      let l = ltb→lt d (choice_finish load e d c) (subst T (choice_late e d c) t) in
      subst T (sym (group_late e d g)) (lt→ltb d (group_finish load e d g) (omega (arith, in_finish e d c g p)))

  pub quiet_choice : (e d : ℕ) (g : List (List X)) → overloads load e d g ≡ false → (c : List X) → In c g → choice_overloads load e d c ≡ false
  quiet_choice e d g h c p = is_false (choice_overloads load e d c) (λ t. subst T h (in_overload e d c g p t))

-- ---- a group of single paths has one choice, and finishes with it

module _ {X : Type 0} where
  pub single_choice : (g : List (List X)) → T (full g) → single g ≡ true → choices g ≡ heads g ∷ []
  single_choice [] f q = refl
  single_choice ([] ∷ g) f q = absurd f
  single_choice ((x ∷ []) ∷ g) f q = rw (single_choice g f q)
  single_choice ((x ∷ y ∷ r) ∷ g) f q = absurd (true≢false (sym q ∙ ap (λ (b : Bool). not b && single g) (lt-ltb 1 (suc (suc (length r))) (omega arith))))

module _ {X : Type 0} (load : X → ℕ → ℕ) where
  heads-load : (g : List (List X)) (t : ℕ) → T (full g) → single g ≡ true → group_loads load g t ≤ choice_loads load (heads g) t
  heads-load [] t f q = le_refl 0
  heads-load ([] ∷ g) t f q = absurd f
  heads-load ((x ∷ []) ∷ g) t f q = omega (arith, heads-load g t f q)
  heads-load ((x ∷ y ∷ r) ∷ g) t f q = absurd (true≢false (sym q ∙ ap (λ (b : Bool). not b && single g) (lt-ltb 1 (suc (suc (length r))) (omega arith))))

  pub single_finish : (e d : ℕ) (g : List (List X)) → T (full g) → single g ≡ true → group_finish load e d g ≡ choice_finish load e d (heads g)
  unfolding choice_finish group_finish
  single_finish e d g f q =
      let p : In (heads g) g = choices_in (heads g) g (rw (single_choice g f q) (Memᴰ.head refl)) in
      omega (arith, in_finish load e d (heads g) g p, finish_mono e d (group_loads load g) (choice_loads load (heads g)) (λ t a b. heads-load g t f q))

-- ---- the children's choices are the group's, in order

module _ {X : Type 0} where
  -- the choices that begin with a path of r
  abbrev begun : List X → List (List X) → List (List X)
  begun r cs = gather (λ (x : X). map (λ (c : List X). x ∷ c) cs) r

  split_short : (r : List X) (ls bs cs : List (List X)) → long r ≡ false → ls ++ bs ≡ cs → begun r ls ++ begun r bs ≡ begun r cs
  split_short [] ls bs cs h q = refl
  split_short (x ∷ []) ls bs cs h q = simp (append-nil, ← map-append) (ap (map (λ (c : List X). x ∷ c)) q)
  split_short (x ∷ y ∷ r) ls bs cs h q = absurd (true≢false (sym (lt-ltb 1 (suc (suc (length r))) (omega arith)) ∙ h))

  pub split_choices : (g : List (List X)) → single g ≡ false → choices (first_child g) ++ choices (second_child g) ≡ choices g
  split_choices [] e = absurd (true≢false e)
  split_choices (r ∷ g) e = go (λ q. split_choices g q) (long r) refl
    where
      go : (single g ≡ false → choices (first_child g) ++ choices (second_child g) ≡ choices g) → (b : Bool)
          → long r ≡ b → choices (first_child (r ∷ g)) ++ choices (second_child (r ∷ g)) ≡ choices (r ∷ g)
      go ih true h =
          rw h (sym (gather_append (λ (x : X). map (λ (c : List X). x ∷ c) (choices g)) (first_part r) (second_part r))
          ∙ ap (λ (l : List X). begun l (choices g)) (take-append-drop (half (length r)) r))
      go ih false h = rw h (split_short r (choices (first_child g)) (choices (second_child g)) (choices g) h (ih (rw h at e)))

-- ---- a part of a range, and the child that takes it: what holds of both parts is said once

pub record Part {X : Type 0} (part : List X → List X) : Type 0 where
  pub some : (r : List X) → long r ≡ true → 1 ≤ length (part r)
  pub shorter : (r : List X) → long r ≡ true → length (part r) < length r
  pub less : (load : X → ℕ → ℕ) (r : List X) (t : ℕ) → range_load load (part r) t ≤ range_load load r t

module _ {X : Type 0} where
  take_le : (load : X → ℕ → ℕ) (n : ℕ) (r : List X) (t : ℕ) → range_load load (take n r) t ≤ range_load load r t
  take_le load zero r t = zero-le
  take_le load (suc n) [] t = zero-le
  take_le load (suc n) (x ∷ r) t = omega (arith, take_le load n r t)

  drop_le : (load : X → ℕ → ℕ) (n : ℕ) (r : List X) (t : ℕ) → range_load load (drop n r) t ≤ range_load load r t
  drop_le load zero r t = le_refl _
  drop_le load (suc n) [] t = zero-le
  drop_le load (suc n) (x ∷ r) t = omega (arith, drop_le load n r t)

  pub first_part_lem : Part {X = X} first_part
  first_part_lem =
      record {
        some = λ r h. rw length-take (omega (arith, ltb-true 1 (length r) h));
        shorter = λ r h. rw length-take (omega (arith, ltb-true 1 (length r) h));
        less = λ load r t. take_le load (half (length r)) r t;
      }

  pub second_part_lem : Part {X = X} second_part
  second_part_lem =
      record {
        some = λ r h. rw length-drop (omega (arith, ltb-true 1 (length r) h));
        shorter = λ r h. rw length-drop (omega (arith, ltb-true 1 (length r) h));
        less = λ load r t. drop_le load (half (length r)) r t;
      }

  -- how often a group can be split
  abbrev pub excess : List (List X) → ℕ
  excess g = sum (map (λ (r : List X). length r - 1) g)

  pub excess_le : (g : List (List X)) → excess g ≤ sum (map length g)
  excess_le [] = le_refl 0
  excess_le (r ∷ g) = omega (arith, excess_le g)

  -- nothing left to split: single
  pub excess_single : (g : List (List X)) → excess g ≤ 0 → single g ≡ true
  excess_single [] h = refl
  excess_single (r ∷ g) h = rw (le-ltb 1 (length r) (omega arith)) (excess_single g (omega arith))

module _ {X : Type 0} {part : List X → List X} (p : Part part) where
  pub full_child : (g : List (List X)) → T (full g) → T (full (child_by part g))
  full_child [] f = tt
  full_child (r ∷ g) f = go (full_child g (both_right (ltb 0 (length r)) (full g) f)) (long r) refl
    where
      go : T (full (child_by part g)) → (b : Bool) → long r ≡ b → T (full (child_by part (r ∷ g)))
      go ih true h = rw h (both (ltb 0 (length (part r))) (full g) (lt→ltb 0 (length (part r)) (p.some r h)) (both_right (ltb 0 (length r)) (full g) f))
      go ih false h = rw h (both (ltb 0 (length r)) (full (child_by part g)) (both_left (ltb 0 (length r)) (full g) f) ih)

  pub excess_child : (g : List (List X)) → single g ≡ false → excess (child_by part g) < excess g
  excess_child [] e = absurd (true≢false e)
  excess_child (r ∷ g) e = go (λ q. excess_child g q) (long r) refl
    where
      go : (single g ≡ false → excess (child_by part g) < excess g) → (b : Bool) → long r ≡ b → excess (child_by part (r ∷ g)) < excess (r ∷ g)
      go ih true h = rw h (omega (arith, p.shorter r h, p.some r h))
      go ih false h = rw h (omega (arith, ih (rw h at e)))
