-- A run of the walk from any bar up to d: it sees the groups whose parents each finished later than the bar was there, and ends as if every
-- choice had been tried in turn; or it is cut short, exactly if the budget is below their number.
use mathlib.Core.Path.{◌≡◌, refl, sym, ap, ap₂, ◌∙◌}
use Prim.Native.Nat.{ℕ, zero, suc, ◌+◌, ◌-◌, ◌≤◌}
use native.Mathlib.Omega.{arith}
use mathlib.Core.Bool.{Bool, true, false, ◌&&◌}
use mathlib.Core.Option.{Option, none, some}
use mathlib.Core.List.{List, [], ◌∷◌, ◌++◌, map, append_assoc, Memᴰ}
use lib.ListN.{length}
use lib.Dec.{T, ltb}
use borrow.Author.Tests.{le-ltb, ltb-false}
use Rattle.meaning.specs.Lists.{all, sum, first_that}
use Rattle.meaning.specs.Groups.{choice_overloads, choice_finish, group_finish, single, choices, Spot, Placed, first_side, second_side, groups_from, is_witness}
use Rattle.meaning.specs.Groups.{counted}
use Rattle.meaning.specs.Walk.{first_child, second_child, full, heads, Bar, End, end_by, run, Sees}
use Rattle.meaning.proofs.Firsts.{or_else, any, first_that-append, first_that-none, first_hit, first_skip, first_any, none_any, any_mem}
use Rattle.meaning.proofs.Groups.{choices_in, first_part_lem, second_part_lem, full_child, excess, excess_le, excess_single, excess_child, split_choices}
use Rattle.meaning.proofs.Groups.{single_choice, single_finish, choice_late, in_finish}
use Rattle.meaning.proofs.Bars.{risen, not_late, worst_most, risen_append, risen_quiet, risen_tick}
use Rattle.meaning.proofs.Counting.{kept, kept_some, kept_single, kept_split, kept_blocked, kept_found, kept-both, some_witness}
use Rattle.meaning.proofs.Steps.{run_quiet, run_split, run_hit, run_raise, onward, onward_out, onward_last, onward_hit, onward-one, onward_found}
use Rattle.meaning.proofs.Steps.{onward-both}

module _ {X : Type 0} (load : X → ℕ → ℕ) (e d : ℕ) where
  abbrev fin : List (List X) → ℕ
  fin g = group_finish load e d g

  abbrev co : List X → Bool
  co c = choice_overloads load e d c

  abbrev Todo : Type 0
  Todo = List (List (List X))

  -- the test holds of a group exactly if it finishes later than the bar there, as long as there was no witness
  abbrev pub Agrees : (Spot X → Bool) → Bar X → Type 0
  Agrees test start = (p : Spot X) → first_that co p.before ≡ none → test p ≡ ltb (risen load e d start p.before).tick (fin p.group)

  module _ (test : Spot X → Bool) (start : Bar X) (low : start.tick ≤ d) (agrees : Agrees test start) where
    abbrev bar_of : Spot X → Bar X
    bar_of p = risen load e d start p.before

    -- what is seen at and below a spot, and where the walk stands behind it, when every choice there has been tried
    abbrev seen : ℕ → List (Spot X) → Spot X → ℕ
    seen n parents p = kept load e d test (groups_from n parents p)

    abbrev tried : Spot X → End X
    tried p = end_by (first_that co (choices p.group)) (risen load e d start (p.before ++ choices p.group))

    tried_by : (p : Spot X) (o : Option (List X)) (s : Bar X) → first_that co (choices p.group) ≡ o
        → risen load e d start (p.before ++ choices p.group) ≡ s → end_by o s ≡ tried p
    tried_by p o s q r = sym (ap₂ end_by q r)

    abbrev From : Spot X → ℕ → ℕ → ℕ → Todo → Type 0
    From p n b c todo = run load e d b (bar_of p) (p.group ∷ todo) c ≡ onward load e d b c todo n (tried p)

    -- ---- a group with nothing examined below it

    -- no witness before: the bar is at most d
    bar_low : (p : Spot X) → first_that co p.before ≡ none → (bar_of p).tick ≤ d
    bar_low p o =
        omega (
          arith,
          low,
          risen_tick load e d start p.before,
          worst_most load e d p.before d (λ c m. not_late load e d c (any_mem co p.before (none_any co p.before o) m)),
        )

    step_quiet : (p : Spot X) (b c : ℕ) (todo : Todo) → first_that co p.before ≡ none → ltb (bar_of p).tick (fin p.group) ≡ false → From p 1 (suc b) c todo
    step_quiet p b c todo o h =
        run_quiet load e d b c (bar_of p) p.group todo h ∙ sym (onward-one load e d b c todo (bar_of p))
        ∙ ap (onward load e d (suc b) c todo 1) (tried_by p none (bar_of p) (first_that-none co (choices p.group) (λ k m. quiet k (early k m))) same)
      where
        early : (k : List X) → Memᴰ k (choices p.group) → choice_finish load e d k ≤ (bar_of p).tick
        early k m = omega (arith, in_finish load e d k p.group (choices_in k p.group m), ltb-false (bar_of p).tick (fin p.group) h)

        quiet : (k : List X) → choice_finish load e d k ≤ (bar_of p).tick → co k ≡ false
        quiet k l = choice_late load e d k ∙ le-ltb d (choice_finish load e d k) (omega (arith, bar_low p o))

        same : risen load e d start (p.before ++ choices p.group) ≡ bar_of p
        same = risen_append load e d start p.before (choices p.group) ∙ risen_quiet load e d (bar_of p) (choices p.group) early

    step_single : (p : Spot X) (b c : ℕ) (todo : Todo) → T (full p.group)
        → single p.group ≡ true → first_that co p.before ≡ none → From p 1 (suc b) c todo
    step_single p b c todo f q o = go (ltb (bar_of p).tick (fin g)) refl (ltb d (fin g)) refl
      where
        g : List (List X)
        g = p.group

        is : co (heads g) ≡ ltb d (fin g)
        is = choice_late load e d (heads g) ∙ ap (ltb d) (sym (single_finish load e d g f q))

        one : first_that co (choices g) ≡ first_that co (heads g ∷ [])
        one = ap (first_that co) (single_choice g f q)

        raises : ltb (bar_of p).tick (fin g) ≡ true → risen load e d start (p.before ++ choices g) ≡ record { tick = fin g; choice = some (heads g) }
        raises h =
            ap (λ (cs : List (List X)). risen load e d start (p.before ++ cs)) (single_choice g f q) ∙ risen_append load e d start p.before (heads g ∷ [])
            ∙ rw (← single_finish load e d g f q) (rw h)

        go : (v : Bool) → ltb (bar_of p).tick (fin g) ≡ v → (w : Bool) → ltb d (fin g) ≡ w → From p 1 (suc b) c todo
        go false h w k = step_quiet p b c todo o h
        go true h true k =
            run_hit load e d b c (bar_of p) g todo h q k ∙ sym (onward_hit load e d b c todo (heads g))
            ∙ ap (onward load e d (suc b) c todo 1) (tried_by p (some (heads g)) _ (one ∙ first_hit co (heads g) [] (is ∙ k)) refl)
        go true h false k =
            run_raise load e d b c (bar_of p) g todo h q k ∙ sym (onward-one load e d b c todo (record { tick = fin g; choice = some (heads g) }))
            ∙ ap (onward load e d (suc b) c todo 1) (tried_by p none _ (one ∙ first_skip co (heads g) [] (is ∙ k)) (raises h))

    -- ---- a group with its two sides

    -- the first side's witness ends the walk; else the second side follows
    step_split : (n : ℕ) (parents : List (Spot X)) (p : Spot X) (b c : ℕ) (todo : Todo)
        → T (full p.group) → excess p.group ≤ suc n → single p.group ≡ false
        → all test parents ≡ true → ltb (bar_of p).tick (fin p.group) ≡ true → first_that co p.before ≡ none
        → ((b c : ℕ) (todo : Todo) → From (first_side p) (seen n (p ∷ parents) (first_side p)) b c todo)
        → (first_that co (second_side p).before ≡ none → (b c : ℕ) (todo : Todo) → From (second_side p) (seen n (p ∷ parents) (second_side p)) b c todo)
        → From p (seen (suc n) parents p) (suc b) c todo
    step_split n parents p b c todo f x q k h o l r = run_split load e d b c (bar_of p) g todo h q
        ∙ l b (suc c) (second_child g ∷ todo) ∙ go (first_that co ls) refl
      where
        g : List (List X)
        g = p.group

        ls : List (List X)
        ls = choices (first_child g)

        rs : List (List X)
        rs = choices (second_child g)

        first : List (Placed X)
        first = groups_from n (p ∷ parents) (first_side p)

        second : List (Placed X)
        second = groups_from n (p ∷ parents) (second_side p)

        has : any (is_witness load e d) first ≡ any co ls
        has = some_witness load e d n (p ∷ parents) (first_side p) (full_child first_part_lem g f) (omega (arith, excess_child first_part_lem g q))

        found : (z : Option (List X)) → first_that co ls ≡ z → first_that co (choices g) ≡ or_else z (first_that co rs)
        found z y = ap (first_that co) (sym (split_choices g q)) ∙ first_that-append co ls rs ∙ ap (λ (u : Option (List X)). or_else u (first_that co rs)) y

        same : risen load e d start (p.before ++ choices g) ≡ risen load e d start ((second_side p).before ++ rs)
        same = sym (ap (risen load e d start) (append_assoc p.before ls rs ∙ ap (λ (cs : List (List X)). p.before ++ cs) (split_choices g q)))

        go : (z : Option (List X)) → first_that co ls ≡ z
            → onward load e d b (suc c) (second_child g ∷ todo) (seen n (p ∷ parents) (first_side p)) (end_by z (risen load e d start (p.before ++ ls)))
            ≡ onward load e d (suc b) c todo (seen (suc n) parents p) (tried p)
        go (some w) z =
            onward_found load e d b c (second_child g ∷ todo) todo (kept load e d test first) w
            ∙ ap₂ (onward load e d (suc b) c todo) (sym (kept_split load e d test n parents p k q
            ∙ ap suc (kept_found load e d test first second (has ∙ first_any co ls z)))) (tried_by p (some w) _ (found (some w) z) refl)
        go none z =
            onward-both load e d b c (second_child g ∷ todo) todo (kept load e d test first)
            (kept load e d test second) (bar_of (second_side p)) (tried (second_side p))
            (r (first_that-append co p.before ls ∙ ap₂ or_else o z) (b - kept load e d test first) (suc c + kept load e d test first) todo)
            ∙ ap₂ (onward load e d (suc b) c todo) (sym (kept_split load e d test n parents p k q
            ∙ ap suc (kept-both load e d test first second (has ∙ none_any co ls z)))) (tried_by p (first_that co rs) _ (found none z) same)

    -- ---- all groups at and below a spot

    -- with no budget the walk is cut short at once
    budgets : (n : ℕ) (parents : List (Spot X)) (p : Spot X) → all test parents ≡ true → ((b c : ℕ) (todo : Todo) → From p (seen n parents p) (suc b) c todo)
        → (b c : ℕ) (todo : Todo) → From p (seen n parents p) b c todo
    budgets n parents p k h zero c todo = sym (onward_out load e d 0 c todo (seen n parents p) (tried p) (kept_some load e d test n parents p k))
    budgets n parents p k h (suc b) c todo = h b c todo

    -- one group alone is seen
    alone : (n : ℕ) (parents : List (Spot X)) (p : Spot X) (b c : ℕ) (todo : Todo)
        → seen n parents p ≡ 1 → From p 1 (suc b) c todo → From p (seen n parents p) (suc b) c todo
    alone n parents p b c todo u r = r ∙ ap (λ (i : ℕ). onward load e d (suc b) c todo i (tried p)) (sym u)

    run_groups : (n : ℕ) (parents : List (Spot X)) (p : Spot X) → T (full p.group)
        → excess p.group ≤ n → all test parents ≡ true → first_that co p.before ≡ none
        → (b c : ℕ) (todo : Todo) → From p (seen n parents p) b c todo
    run_groups zero parents p f x k o =
        let q = excess_single p.group x in
        budgets zero parents p k (λ b c todo. alone zero parents p b c todo (kept_single load e d test zero parents p k q) (step_single p b c todo f q o))
    run_groups (suc n) parents p f x k o =
        budgets (suc n) parents p k
        (go (λ q t. run_groups n (p ∷ parents) (first_side p) (full_child first_part_lem p.group f)
        (omega (arith, excess_child first_part_lem p.group q)) (ap₂ ◌&&◌ t k) o)
        (λ q t. run_groups n (p ∷ parents) (second_side p) (full_child second_part_lem p.group f)
        (omega (arith, excess_child second_part_lem p.group q)) (ap₂ ◌&&◌ t k))
        (single p.group) refl (ltb (bar_of p).tick (fin p.group)) refl)
      where
        go : (single p.group ≡ false → test p ≡ true → (b c : ℕ) (todo : Todo) → From (first_side p) (seen n (p ∷ parents) (first_side p)) b c todo)
            → (single p.group ≡ false → test p ≡ true → first_that co (second_side p).before ≡ none
            → (b c : ℕ) (todo : Todo) → From (second_side p) (seen n (p ∷ parents) (second_side p)) b c todo)
            → (v : Bool) → single p.group ≡ v → (w : Bool) → ltb (bar_of p).tick (fin p.group) ≡ w
            → (b c : ℕ) (todo : Todo) → From p (seen (suc n) parents p) (suc b) c todo
        go l r true q w h b c todo = alone (suc n) parents p b c todo (kept_single load e d test (suc n) parents p k q) (step_single p b c todo f q o)
        go l r false q false h b c todo =
            alone (suc n) parents p b c todo
            (kept_split load e d test n parents p k q ∙ ap suc (kept_blocked load e d test n parents p (agrees p o ∙ h))) (step_quiet p b c todo o h)
        go l r false q true h b c todo = let t = agrees p o ∙ h in step_split n parents p b c todo f x q k h o (l q t) (r q t)

    -- ---- the whole walk

    -- where it ends: as if every choice had been tried in turn
    abbrev ends : List (List X) → End X
    ends top = end_by (first_that co (choices top)) (risen load e d start (choices top))

    run_top : (b : ℕ) (top : List (List X)) → T (full top) → run load e d b start (top ∷ []) 0 ≡ onward load e d b 0 [] (counted load e d test top) (ends top)
    run_top b top f = run_groups (sum (map length top)) [] (record { group = top; before = [] }) f (excess_le top) refl refl b 0 []

    pub run_sees : (top : List (List X)) → T (full top) → Sees load e d start (counted load e d test top) (ends top) top
    run_sees top f =
        record {
          enough = λ b h. run_top b top f ∙ onward_last load e d b (counted load e d test top) (ends top) h;
          short = λ b h. run_top b top f ∙ onward_out load e d b 0 [] (counted load e d test top) (ends top) h;
        }

-- the top group itself is seen
pub counted_some : {X : Type 0} (load : X → ℕ → ℕ) (e d : ℕ) (test : Spot X → Bool) (top : List (List X)) → 1 ≤ counted load e d test top
counted_some load e d test top = kept_some load e d test (sum (map length top)) [] (record { group = top; before = [] }) refl
