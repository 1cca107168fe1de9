-- An edge comes after the one before: its place in the order is the least that is left, or more.
use mathlib.Core.Path.{◌≡◌, refl, sym, ◌∙◌}
use Prim.Native.Nat.{ℕ, ◌≤◌, ◌<◌}
use native.Mathlib.Omega.{arith}
use mathlib.Core.Bool.{Bool, true, false, ◌&&◌, ◌||◌}
use mathlib.Core.List.{List, [], ◌∷◌, ◌++◌}
use lib.Dec.{ltb, eqb}
use borrow.Author.Tests.{ltb-true, ltb-false, eqb-true, eqb-false, le-leb, lt-leb}
use Rattle.meaning.specs.Table.{Edge, edge}
use Rattle.meaning.specs.Text.{after_last}
use Rattle.rules.specs.Rules.{edge_place, edge_after, least_after}

-- the tests of an edge's place say that it stands after the edges es
abbrev pub Follows : List Edge → ℕ → Type 0
Follows es least = (f t p : ℕ) → t < 256 → after_last es (edge f t p) ≡ edge_after least f t

pub follows_none : Follows [] 0
follows_none f t p h = sym (le-leb 0 (edge_place f t) (omega arith))

last_snoc : (es : List Edge) (x y : Edge) → after_last (es ++ (x ∷ [])) y ≡ after_last (x ∷ []) y
last_snoc [] x y = refl
last_snoc (a ∷ []) x y = refl
last_snoc (a ∷ b ∷ es) x y = last_snoc (b ∷ es) x y

order : (g u f t : ℕ) → u < 256 → t < 256 → ltb g f || (eqb g f && ltb u t) ≡ edge_after (least_after g u) f t
order g u f t a b = go (ltb g f) refl (eqb g f) refl (ltb u t) refl
  where
    go : (x : Bool) → ltb g f ≡ x → (y : Bool) → eqb g f ≡ y → (z : Bool) → ltb u t ≡ z
        → ltb g f || (eqb g f && ltb u t) ≡ edge_after (least_after g u) f t
    go true p y q z r = simp (p, le-leb (least_after g u) (edge_place f t) (omega (arith, ltb-true g f p)))
    go false p true q true r = simp (p, q, r, le-leb (least_after g u) (edge_place f t) (omega (arith, eqb-true g f q, ltb-true u t r)))
    go false p true q false r = simp (p, q, r, lt-leb (least_after g u) (edge_place f t) (omega (arith, eqb-true g f q, ltb-false u t r)))
    go false p false q z r =
        let m : f < g = less (ltb-false g f p) (eqb-false g f q) in
        simp (p, q, lt-leb (least_after g u) (edge_place f t) (omega arith))
      where
        less : f ≤ g → (g ≡ f → ⊥) → f < g
        less h n = omega arith

pub follows_more : (es : List Edge) (x : Edge) → x.to < 256 → Follows (es ++ (x ∷ [])) (least_after x.from x.to)
follows_more es x h f t p k = last_snoc es x (edge f t p) ∙ order x.from x.to f t h k
