-- What a pen wrote, one run of bytes after the other.
use mathlib.Core.Path.{◌≡◌, refl, ap, subst, ◌∙◌}
use Prim.Native.Nat.{ℕ, ◌+◌, ◌≤◌, ◌<◌}
use mathlib.Core.List.{List, ◌++◌}
use lib.ListN.{length, get_or}
use Rattle.meaning.specs.Lists.{gather}
use Rattle.meaning.proofs.Wrote.{wrote_then, wrote_length, Gathering, gathering_none, gathering_more, gathering_room, gathering_all}
use Rattle.put.specs.declared.Pen.{Pen}
use Rattle.put.specs.Pens.{Penned}

pub penned_then : (xs ys : List ℕ) {p q r : Pen} → Penned xs p q → Penned ys q r → Penned (xs ++ ys) p r
penned_then xs ys a b = record { same_area = b.same_area ∙ a.same_area; wrote = wrote_then xs ys a.wrote b.wrote }

pub penned_length : {xs : List ℕ} {p q : Pen} → Penned xs p q → length q.out.now ≡ length p.out.now
penned_length a = wrote_length a.wrote

pub penned_end : {xs : List ℕ} {p q : Pen} → Penned xs p q → q.at ≡ p.at + length xs
penned_end a = a.wrote.end

-- the same bytes, said otherwise
pub penned_as : {xs ys : List ℕ} {p q : Pen} → xs ≡ ys → Penned xs p q → Penned ys p q
penned_as {p = p} {q = q} e a = subst (λ (l : List ℕ). Penned l p q) e a

-- ---- what f gives at each element of a list, one after the other: after j of them

module _ {X : Type 0} (f : X → List ℕ) (xs : List X) where
  pub record Gathered (before now : Pen) (j : ℕ) : Type 0 where
    pub same_area : now.out.ghost_name ≡ before.out.ghost_name
    pub gathering : Gathering f xs before.out.now before.at now.out.now now.at j

  pub gathered_none : (p : Pen) → Gathered p p 0
  gathered_none p = record { same_area = refl; gathering = gathering_none f xs p.out.now p.at }

  pub gathered_more : {p q r : Pen} {j : ℕ} (x z : X) → x ≡ get_or xs j z → Gathered p q j → j < length xs → Penned (f x) q r → Gathered p r (j + 1)
  gathered_more x z e g h w =
      record {
        same_area = w.same_area ∙ g.same_area;
        gathering = gathering_more f xs z g.gathering h (penned_as (ap f e) w).wrote;
      }

  -- where there is room for all of it, there is for the next
  pub gathered_room : {p q : Pen} {j : ℕ} (x z : X) → x ≡ get_or xs j z → Gathered p q j → j < length xs → p.at + length (gather f xs) ≤ length p.out.now
      → q.at + length (f x) ≤ length q.out.now
  gathered_room x z e g h r = rw e (gathering_room f xs z g.gathering h r)

  pub gathered_all : {p q : Pen} {j : ℕ} → Gathered p q j → length xs ≤ j → Penned (gather f xs) p q
  gathered_all g h = record { same_area = g.same_area; wrote = gathering_all f xs g.gathering h }
