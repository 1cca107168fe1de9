-- A right line is pairs of digits and a line feed: its bytes, and the lines behind it, as the definitions cut them.
use mathlib.Core.Path.{◌≡◌, refl, sym, ap, subst, ◌∙◌}
use Prim.Native.Nat.{ℕ, ◌+◌, ◌*◌, ◌<◌}
use native.Mathlib.Omega.{arith}
use mathlib.Core.Bool.{Bool, true, false}
use mathlib.Core.Option.{Option, none, some}
use mathlib.Core.List.{List, [], ◌∷◌}
use lib.ListN.{length}
use lib.Dec.{ltb, eqb}
use borrow.Author.Tests.{ltb-true, ltb-false, lt-ltb, eqb-true}
use Rattle.meaning.specs.Lists.{pick}
use Rattle.meaning.specs.Text.{Line, line_feed, into_first, lines_of, digit_of, byte_with, hex_bytes, frame_of}
use Rattle.digits.specs.Digits.{worth_of, frame_at}
use Rattle.digits.proofs.Worths.{not_feed, digit_some, digit-none}

-- the text t starts with a right line of the bytes f, and r is left behind it
pub data Spelled : List ℕ → List ℕ → List ℕ → Type 0 where
  feed : {r : List ℕ} → Spelled (line_feed ∷ r) [] r
  pair : {h l : ℕ} {t f r : List ℕ} → worth_of h < 16 → worth_of l < 16 → Spelled t f r → Spelled (h ∷ l ∷ t) ((worth_of h * 16 + worth_of l) ∷ f) r

pub frame_feed : (r : List ℕ) → frame_at (line_feed ∷ r) ≡ some []
frame_feed [] = refl
frame_feed (x ∷ r) = refl

pub frame_right : {t f r : List ℕ} → Spelled t f r → frame_at t ≡ some f
frame_right (feed {r}) = frame_feed r
frame_right (pair {h} {l} {t} {f} {r} p q z) = simp (not_feed h p, digit_some h p, digit_some l q, frame_right z)

pub byte_none : (o : Option ℕ) (r : Option (List ℕ)) → byte_with o none r ≡ none
byte_none none r = refl
byte_none (some x) r = refl

byte_stop : (o p : Option ℕ) → byte_with o p none ≡ none
byte_stop none p = refl
byte_stop (some x) none = refl
byte_stop (some x) (some y) = refl

-- whether the first line is right
pub data First (t : List ℕ) : Type 0 where
  right : (f r : List ℕ) → Spelled t f r → First t
  broken : frame_at t ≡ none → First t

pub first : (t : List ℕ) → First t
first [] = broken refl
first (a ∷ []) = go (eqb a line_feed) refl
  where
    go : (x : Bool) → eqb a line_feed ≡ x → First (a ∷ [])
    go true e = subst (λ (z : ℕ). First (z ∷ [])) (sym (eqb-true a line_feed e)) (right [] [] feed)
    go false e = broken (simp e)
first (a ∷ b ∷ t) = go (eqb a line_feed) refl (ltb 15 (worth_of a)) refl (ltb 15 (worth_of b)) refl (first t)
  where
    go : (x : Bool) → eqb a line_feed ≡ x → (y : Bool) → ltb 15 (worth_of a) ≡ y → (z : Bool) → ltb 15 (worth_of b) ≡ z → First t → First (a ∷ b ∷ t)
    go true e y f z g i = subst (λ (w : ℕ). First (w ∷ b ∷ t)) (sym (eqb-true a line_feed e)) (right [] (b ∷ t) feed)
    go false e true f z g i = broken (simp (e, digit-none a (ltb-true _ _ f)))
    go false e false f true g i = broken (simp (e, digit-none b (ltb-true _ _ g), byte_none))
    go false e false f false g (broken h) = broken (simp (e, h, byte_stop))
    go false e false f false g (right u r s) =
        let k : worth_of a < 16 = omega (arith, ltb-false 15 (worth_of a) f) in
        let l : worth_of b < 16 = omega (arith, ltb-false 15 (worth_of b) g) in
        right ((worth_of a * 16 + worth_of b) ∷ u) r (pair k l s)

-- ---- the first line and those behind it

abbrev pub head_of : List Line → Line
head_of [] = record { bytes = []; fed = false }
head_of (l ∷ ls) = l

abbrev pub tail_of : List Line → List Line
tail_of [] = []
tail_of (l ∷ ls) = ls

abbrev hex_fed : Line → Option (List ℕ)
hex_fed l = pick l.fed (hex_bytes l.bytes) none

into_head : (b : ℕ) (ls : List Line) → into_first b ls ≡ record { bytes = b ∷ (head_of ls).bytes; fed = (head_of ls).fed } ∷ tail_of ls
into_head b [] = refl
into_head b (l ∷ ls) = refl

with_fed : (a b : Option ℕ) (x : Bool) (o : Option (List ℕ)) → pick x (byte_with a b o) none ≡ byte_with a b (pick x o none)
with_fed a b true o = refl
with_fed a b false o = sym (byte_stop a b)

head_frame : (t : List ℕ) → hex_fed (head_of (lines_of t)) ≡ frame_at t
head_frame [] = refl
head_frame (a ∷ []) = go (eqb a line_feed) refl
  where
    go : (x : Bool) → eqb a line_feed ≡ x → hex_fed (head_of (lines_of (a ∷ []))) ≡ frame_at (a ∷ [])
    go true e = simp e
    go false e = simp e
head_frame (a ∷ b ∷ t) = go (eqb a line_feed) refl (eqb b line_feed) refl (head_frame t)
  where
    go : (x : Bool) → eqb a line_feed ≡ x → (y : Bool) → eqb b line_feed ≡ y → hex_fed (head_of (lines_of t)) ≡ frame_at t
        → hex_fed (head_of (lines_of (a ∷ b ∷ t))) ≡ frame_at (a ∷ b ∷ t)
    go true e y f ih = simp e
    go false e true f ih =
        let k : digit_of b ≡ none = subst (λ (z : ℕ). digit_of z ≡ none) (sym (eqb-true b line_feed f)) refl in
        simp (e, f, k, byte_none)
    go false e false f ih = simp (e, f, into_head, ← ih) (with_fed (digit_of a) (digit_of b) (head_of (lines_of t)).fed (hex_bytes (head_of (lines_of t)).bytes))

pub some_lines : (a : ℕ) (t : List ℕ) → lines_of (a ∷ t) ≡ head_of (lines_of (a ∷ t)) ∷ tail_of (lines_of (a ∷ t))
some_lines a t = go (eqb a line_feed) refl
  where
    go : (x : Bool) → eqb a line_feed ≡ x → lines_of (a ∷ t) ≡ head_of (lines_of (a ∷ t)) ∷ tail_of (lines_of (a ∷ t))
    go true e = simp e
    go false e = simp (e, into_head)

-- "at least two" digits
abbrev pub non_empty : Option (List ℕ) → Option (List ℕ)
non_empty none = none
non_empty (some []) = none
non_empty (some (b ∷ bs)) = some (b ∷ bs)

byte_some : (a b : Option ℕ) (o : Option (List ℕ)) → byte_with a b o ≡ non_empty (byte_with a b o)
byte_some none b o = refl
byte_some (some h) none o = refl
byte_some (some h) (some l) none = refl
byte_some (some h) (some l) (some bs) = refl

hex_some : (bs : List ℕ) → pick (ltb 1 (length bs)) (hex_bytes bs) none ≡ non_empty (hex_bytes bs)
hex_some [] = refl
hex_some (h ∷ []) = refl
hex_some (h ∷ l ∷ ds) = rw (lt-ltb 1 (length (h ∷ l ∷ ds)) (omega arith)) (byte_some (digit_of h) (digit_of l) (hex_bytes ds))

frame_fed : (l : Line) → frame_of l ≡ non_empty (hex_fed l)
frame_fed l = go l.fed refl
  where
    go : (x : Bool) → l.fed ≡ x → frame_of l ≡ non_empty (hex_fed l)
    go true e = simp e (hex_some l.bytes)
    go false e = simp e

pub tail_right : {t f r : List ℕ} → Spelled t f r → tail_of (lines_of t) ≡ lines_of r
tail_right (feed {r}) = refl
tail_right (pair {h} {l} {t} {f} {r} p q z) = simp (not_feed h p, not_feed l q, into_head) (tail_right z)

pub first_frame : (a : ℕ) (t : List ℕ) → frame_of (head_of (lines_of (a ∷ t))) ≡ non_empty (frame_at (a ∷ t))
first_frame a t = frame_fed (head_of (lines_of (a ∷ t))) ∙ ap non_empty (head_frame (a ∷ t))
