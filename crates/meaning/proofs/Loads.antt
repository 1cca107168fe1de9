-- The load of a path, walked from its first vertex: the definition by prefixes comes to this.
use mathlib.Core.Path.{◌≡◌, refl, sym, ap, ◌∙◌}
use Prim.Native.Nat.{ℕ, zero, suc, ◌+◌, ◌-◌, ◌≤◌, max, zero-le}
use native.Mathlib.Nat.{le_refl, not-suc-le-zero}
use native.Mathlib.Omega.{arith}
use native.Mathlib.Decide.{dec_lt}
use borrow.Author.Tests.{lt-ltb, le-ltb}
use mathlib.Core.Bool.{Bool, true, false}
use mathlib.Core.List.{List, [], ◌∷◌, map}
use lib.Dec.{ltb}
use Rattle.meaning.specs.Lists.{pick, those, largest}
use Rattle.meaning.specs.Table.{Task}
use Rattle.meaning.specs.Paths.{Path, separation, span, span_on, execution, total, prefixes, load}

-- n where there is a tick of room, else 0
abbrev pub if_room : ℕ → ℕ → ℕ
if_room zero n = 0
if_room (suc t) n = n

-- the total e of u and then w, as far as t ticks of room go
abbrev pub run_on : Task → ℕ → Path → ℕ → ℕ
run_on k u [] t = if_room t (execution k u)
run_on k u (v ∷ w) t = if_room t (execution k u + run_on k v w (t - separation k u v))

-- the test at a span that begins with a separation
shift : (p s t : ℕ) → ltb (p + s) t ≡ ltb s (t - p)
shift p s t =
    elim (dec_lt (p + s) t) [
      | yes h ↦ lt-ltb (p + s) t h ∙ sym (lt-ltb s (t - p) (omega arith))
      | no h ↦ le-ltb (p + s) t (omega arith) ∙ sym (le-ltb s (t - p) (omega arith))
    ]

-- the paths that go on from u by v and then by one of rs, seen from u and from v
abbrev from_u : Task → ℕ → ℕ → ℕ → List Path → ℕ
from_u k t u v rs = largest (map (total k) (those (λ (q : Path). ltb (span k q) t) (map (λ (q : Path). u ∷ q) (map (λ (q : Path). v ∷ q) rs))))

abbrev from_v : Task → ℕ → ℕ → List Path → ℕ
from_v k t v rs = largest (map (total k) (those (λ (q : Path). ltb (span k q) t) (map (λ (q : Path). v ∷ q) rs)))

-- one more path, kept or not
abbrev kept : Bool → ℕ → ℕ → ℕ
kept true a b = max a b
kept false a b = b

kept_is : (k : Task) (b : Bool) (q : Path) (qs : List Path) → largest (map (total k) (pick b (q ∷ qs) qs)) ≡ kept b (total k q) (largest (map (total k) qs))
kept_is k true q qs = refl
kept_is k false q qs = refl

kept-max : (b : Bool) (a x y z : ℕ) → max a y ≡ a + z → max a (kept b (a + x) y) ≡ a + kept b x z
kept-max true a x y z h = omega arith
kept-max false a x y z h = h

one_on : (k : Task) (t u v : ℕ) (rs : List Path) → max (execution k u) (from_u k t u v rs) ≡ execution k u + from_v k (t - separation k u v) v rs
one_on k t u v [] = omega arith
one_on k t u v (r ∷ rs) =
    ap (λ (n : ℕ). max (execution k u) n) (kept_is k (ltb (separation k u v + span_on k v r) t) (u ∷ v ∷ r)
    (those (λ (q : Path). ltb (span k q) t) (map (λ (q : Path). u ∷ q) (map (λ (q : Path). v ∷ q) rs))))
    ∙ rw (shift (separation k u v) (span_on k v r) t)
    (kept-max (ltb (span_on k v r) (t - separation k u v)) (execution k u) (total k (v ∷ r))
    (from_u k t u v rs) (from_v k (t - separation k u v) v rs) (one_on k t u v rs)
    ∙ ap (λ (n : ℕ). execution k u + n)
    (sym (kept_is k (ltb (span_on k v r) (t - separation k u v)) (v ∷ r)
    (those (λ (q : Path). ltb (span k q) (t - separation k u v)) (map (λ (q : Path). v ∷ q) rs)))))

-- no prefix has a span below 0
none_at_zero : (k : Task) (qs : List Path) → largest (map (total k) (those (λ (q : Path). ltb (span k q) 0) qs)) ≡ 0
none_at_zero k [] = refl
none_at_zero k (q ∷ qs) = rw (le-ltb (span k q) 0 zero-le) (none_at_zero k qs)

-- the load by the document is the walk
pub load_run : (k : Task) (u : ℕ) (w : Path) (t : ℕ) → load k (u ∷ w) t ≡ run_on k u w t
unfolding load
load_run k u [] zero = none_at_zero k (prefixes (u ∷ []))
load_run k u (v ∷ w) zero = none_at_zero k (prefixes (u ∷ v ∷ w))
load_run k u [] (suc t) = rw (lt-ltb 0 (suc t) (omega arith)) (omega arith)
load_run k u (v ∷ w) (suc t) = rw (lt-ltb 0 (suc t) (omega arith))
    (omega (arith, one_on k (suc t) u v ([] ∷ prefixes w), load_run k v w (suc t - separation k u v)))

-- a run never falls as the room grows
pub if_room_mono : (s t a b : ℕ) → s ≤ t → a ≤ b → if_room s a ≤ if_room t b
if_room_mono zero t a b h l = zero-le
if_room_mono (suc s) zero a b h l = absurd (not-suc-le-zero h)
if_room_mono (suc s) (suc t) a b h l = l

pub run_mono : (k : Task) (u : ℕ) (w : Path) (s t : ℕ) → s ≤ t → run_on k u w s ≤ run_on k u w t
run_mono k u [] s t h = if_room_mono s t (execution k u) (execution k u) h (le_refl _)
run_mono k u (v ∷ w) s t h = if_room_mono s t _ _ h (omega (arith, run_mono k v w (s - separation k u v) (t - separation k u v) (omega arith)))

-- one vertex is the least of all runs from it
pub run_one : (k : Task) (u : ℕ) (w : Path) (t : ℕ) → run_on k u [] t ≤ run_on k u w t
run_one k u [] t = le_refl _
run_one k u (v ∷ w) t = if_room_mono t t _ _ (le_refl t) (omega arith)
