-- The halving tree of n paths: where its nodes lie, and which second halves are still to come behind a place.
use mathlib.Core.Path.{◌≡◌, refl, sym, ap, ◌∙◌}
use Prim.Native.Nat.{ℕ, zero, suc, ◌+◌, ◌-◌, ◌≤◌, ◌<◌}
use native.Mathlib.Nat.{eq-or-lt_of_le}
use native.Mathlib.Omega.{arith}
use mathlib.Core.Bool.{Bool, true, false}
use mathlib.Core.Logic.{⊎_elim}
use mathlib.Core.List.{List, [], ◌∷◌, ◌++◌}
use lib.Dec.{ltb}
use borrow.Author.Tests.{lt-ltb, le-ltb, ltb-true, ltb-false, eq-eqb, ne_eqb}
use Rattle.meaning.specs.Lists.{pick}
use Rattle.meaning.specs.Groups.{half}
use Rattle.rows.specs.Order.{Node, top, low, high}
use Rattle.rows.specs.Ranges.{Range, range, rest_by, rest_length}
use Rattle.rows.proofs.Order.{node_in}

-- ---- where a node lies

pub node_first-half : {a n f m : ℕ} → Node a n f m → 1 < m → Node a n f (half m)
node_first-half {a} {n} {f} {m} (top p q) l = low {n = n} (omega arith) (top p (ap half q))
node_first-half (low h x) l = low h (node_first-half x l)
node_first-half (high h x) l = high h (node_first-half x l)

-- ---- the second halves that are still to come behind place s, the nearest first

abbrev pub rests_behind : ℕ → ℕ → ℕ → ℕ → List Range
rests_behind zero a n s = []
rests_behind (suc k) a n s =
    pick (ltb s (a + n))
    (pick (ltb (a + half n) s) (rests_behind k (a + half n) (n - half n) s) (rests_behind k a (half n) s ++ (range (a + half n) (n - half n) ∷ [])))
    []

abbrev upper : ℕ → ℕ → Range
upper a n = range (a + half n) (n - half n)

pub rests_end : (k a n s : ℕ) → a + n ≤ s → rests_behind k a n s ≡ []
rests_end zero a n s h = refl
rests_end (suc k) a n s h = rw (le-ltb s (a + n) h)

rests_low : (k a n s : ℕ) → s < a + n → s ≤ a + half n → rests_behind (suc k) a n s ≡ rests_behind k a (half n) s ++ (upper a n ∷ [])
rests_low k a n s h l = rw (lt-ltb s (a + n) h, le-ltb (a + half n) s l)

-- in the second half nothing else is still to come, also at its end
rests_high : (k a n s : ℕ) → 1 < n → a + half n < s → rests_behind (suc k) a n s ≡ rests_behind k (a + half n) (n - half n) s
rests_high k a n s o l = go (ltb s (a + n)) refl
  where
    go : (v : Bool) → ltb s (a + n) ≡ v → rests_behind (suc k) a n s ≡ rests_behind k (a + half n) (n - half n) s
    go true e = rw (lt-ltb s (a + n) (ltb-true s (a + n) e), lt-ltb (a + half n) s l)
    go false e = let g : a + n ≤ s = ltb-false s (a + n) e in rests_end (suc k) a n s g ∙ sym (rests_end k (a + half n) (n - half n) s (omega arith))

-- behind the first half comes the second, and then nothing
rests_middle : (k a n s : ℕ) → 1 < n → s ≡ a + half n → rests_behind (suc k) a n s ≡ upper a n ∷ rests_behind (suc k) a n (a + half n + (n - half n))
rests_middle k a n s o e =
    rests_low k a n s (omega arith) (omega arith) ∙ ap (λ (z : List Range). z ++ (upper a n ∷ [])) (rests_end k a (half n) s (omega arith))
    ∙ ap (λ (z : List Range). upper a n ∷ z) (sym (rests_end (suc k) a n (a + half n + (n - half n)) (omega arith)))

-- the range of m that begins at s is a node, and the next to come behind s
pub record NextOne (k a n s m : ℕ) : Type 0 where
  pub node : Node a n s m
  pub comes : rests_behind k a n s ≡ range s m ∷ rests_behind k a n (s + m)

next_low : (k a n s m : ℕ) → 1 < n → a < s → s < a + half n → NextOne k a (half n) s m → NextOne (suc k) a n s m
next_low k a n s m o l u r =
    let i = node_in r.node in
    record {
      node = low o r.node;
      comes =
          rests_low k a n s (omega arith) (omega arith) ∙ ap (λ (z : List Range). z ++ (upper a n ∷ [])) r.comes
          ∙ ap (λ (z : List Range). range s m ∷ z) (sym (rests_low k a n (s + m) (omega arith) (omega arith)));
    }

next_high : (k a n s m : ℕ) → 1 < n → a + half n < s → NextOne k (a + half n) (n - half n) s m → NextOne (suc k) a n s m
next_high k a n s m o u r =
    record {
      node = high o r.node;
      comes = rests_high k a n s o u ∙ r.comes ∙ ap (λ (z : List Range). range s m ∷ z) (sym (rests_high k a n (s + m) o (omega arith)));
    }

next_middle : (k a n s : ℕ) → 1 < n → s ≡ a + half n → NextOne (suc k) a n s (n - half n)
next_middle k a n s o e = record { node = high o (top e refl); comes = rw (e, rests_middle k a n (a + half n) o refl) }

-- a node that is split: its second half is the next to come behind its first
pub split_next : (k a n f m : ℕ) → n ≤ k → 1 < m → Node a n f m → rests_behind k a n (f + half m) ≡ range (f + half m) (m - half m) ∷ rests_behind k a n (f + m)
split_next k a n f m h l x =
    let e : f + half m + (m - half m) ≡ f + m = omega arith in
    (split k a n f m h l x).comes ∙ ap (λ (s : ℕ). range (f + half m) (m - half m) ∷ rests_behind k a n s) e
  where
    split : (k a n f m : ℕ) → n ≤ k → 1 < m → Node a n f m → NextOne k a n (f + half m) (m - half m)
    split zero a n f m h l x = let r = node_in x in absurd (omega arith)
    split (suc k) a n f m h l (top p q) = rw (p, q) (next_middle k a n (a + half n) (omega arith) refl)
    split (suc k) a n f m h l (low o x) =
        let r = node_in x in
        next_low k a n (f + half m) (m - half m) o (omega arith) (omega arith) (split k a (half n) f m (omega arith) l x)
    split (suc k) a n f m h l (high o x) =
        let r = node_in x in
        next_high k a n (f + half m) (m - half m) o (omega arith) (split k (a + half n) (n - half n) f m (omega arith) l x)

-- ---- the rest that begins at s, by the side of the middle that s is on

by_side : {P : Type 0} (s m : ℕ) → (s < m → P) → (s ≡ m → P) → (m < s → P) → P
by_side {P} s m f g h = go (ltb s m) refl
  where
    go : (v : Bool) → ltb s m ≡ v → P
    go true e = f (ltb-true s m e)
    go false e = ⊎_elim (λ (q : m ≡ s). g (sym q)) h (eq-or-lt_of_le (ltb-false s m e))

by_low : (k a n s : ℕ) → s < a + half n → rest_by (suc k) a n s ≡ rest_by k a (half n) s
by_low k a n s l = rw (lt-ltb s (a + half n) l)

by_middle : (k a n s : ℕ) → s ≡ a + half n → rest_by (suc k) a n s ≡ n - half n
by_middle k a n s e = rw (le-ltb s (a + half n) (omega arith), eq-eqb s (a + half n) e)

by_high : (k a n s : ℕ) → a + half n < s → rest_by (suc k) a n s ≡ rest_by k (a + half n) (n - half n) s
by_high k a n s l = rw (le-ltb s (a + half n) (omega arith), ne_eqb s (a + half n) (omega arith))

next_by_lem : (k a n s : ℕ) → n ≤ k → a < s → s < a + n → NextOne k a n s (rest_by k a n s)
next_by_lem zero a n s h l u = absurd (omega arith)
next_by_lem (suc k) a n s h l u =
    by_side s (a + half n) (λ v. rw (by_low k a n s v) (next_low k a n s _ (omega arith) l v (next_by_lem k a (half n) s (omega arith) l v)))
    (λ v. rw (by_middle k a n s v) (next_middle k a n s (omega arith) v))
    (λ v. rw (by_high k a n s v) (next_high k a n s _ (omega arith) v (next_by_lem k (a + half n) (n - half n) s (omega arith) v (omega arith))))

-- more turns than are needed change nothing
same_turns : (k l a n s : ℕ) → n ≤ k → n ≤ l → a < s → s < a + n → rest_by k a n s ≡ rest_by l a n s
same_turns zero l a n s p q u v = absurd (omega arith)
same_turns (suc k) zero a n s p q u v = absurd (omega arith)
same_turns (suc k) (suc l) a n s p q u v =
    by_side s (a + half n) (λ w. by_low k a n s w ∙ same_turns k l a (half n) s (omega arith) (omega arith) u w ∙ sym (by_low l a n s w))
    (λ w. by_middle k a n s w ∙ sym (by_middle l a n s w))
    (λ w. by_high k a n s w ∙ same_turns k l (a + half n) (n - half n) s (omega arith) (omega arith) w (omega arith) ∙ sym (by_high l a n s w))

pub rest_next : (n s : ℕ) → 0 < s → s < n → NextOne n 0 n s (rest_length 0 n s)
unfolding rest_length
rest_next n s l u = next_by_lem n 0 n s (omega arith) l (omega arith)

-- it ends within the paths
-- by the side of the middle, where c is the first part
module _ (a n s c : ℕ) (l : a < s) (u : s < a + n) (is : c ≡ half n) where
  one_more_lem : rest_length a n s ≡ rest_by (suc n) a n s
  unfolding rest_length
  one_more_lem = same_turns n (suc n) a n s (omega arith) (omega arith) l u

  pub rest_middle : s ≡ a + c → n - c ≡ rest_length a n s
  rest_middle e = rw is (sym (one_more_lem ∙ by_middle n a n s (omega arith)))

  pub rest_low : s < a + c → rest_length a c s ≡ rest_length a n s
  unfolding rest_length
  rest_low e =
      rw is (sym (one_more_lem ∙ by_low n a n s (omega arith) ∙ same_turns n (half n) a (half n) s (omega arith) (omega arith) l (omega arith)))

  pub rest_high : a + c < s → rest_length (a + c) (n - c) s ≡ rest_length a n s
  unfolding rest_length
  rest_high e =
      rw is
      (sym (one_more_lem ∙ by_high n a n s (omega arith)
      ∙ same_turns n (n - half n) (a + half n) (n - half n) s (omega arith) (omega arith) (omega arith) (omega arith)))
