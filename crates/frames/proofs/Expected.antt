-- A line that is expected: what its first bytes and its line feed say of its frame, and how it is refused.
use mathlib.Core.Path.{◌≡◌, refl, sym, ap, subst, ◌∙◌}
use Prim.Native.Nat.{ℕ, ◌+◌, ◌*◌, ◌<◌}
use native.Mathlib.Omega.{arith}
use mathlib.Core.Bool.{Bool, true, false}
use mathlib.Core.Option.{some}
use mathlib.Core.List.{List, [], ◌∷◌}
use lib.ListN.{length, get_or}
use lib.Dec.{leb, eqb}
use borrow.Author.Tests.{leb-false, eqb-true, lt-leb, eq-eqb, ne_eqb}
use Rattle.meaning.specs.Lists.{pick}
use Rattle.meaning.specs.Text.{line_feed, lines_of, Begun, Step, wrong, framed, is_frame, unreadable, read_from}
use Rattle.meaning.proofs.Readable.{read_step}
use Rattle.kinds.specs.declared.Refusal.{Refusal}
use Rattle.kinds.specs.declared.Refusal.TheVariants.{WrongFrame}
use Rattle.kinds.specs.Numbers.{refusal_number}
use Rattle.digits.specs.Digits.{digit_count}
use Rattle.frames.specs.Frames.{fault_of, starts_with}
use Rattle.digits.proofs.Worths.{is_low, worth_low}
use Rattle.digits.proofs.Spelled.{non_empty, Spelled, pair, frame_right, First, right, broken, first}
use Rattle.digits.proofs.Pairs.{pairs_at, bytes_of}
use Rattle.rules.proofs.Within.{differ, both_true}
use Rattle.frames.proofs.LineRead.{right-read, broken_read}

-- ---- tests

pub same-pick : {A : Type 0} (x : Bool) (a : A) → pick x a a ≡ a
same-pick true a = refl
same-pick false a = refl

-- ---- the refusal of a line

-- how a right line of the bytes f is refused that should have n digits
abbrev pub right_fault : List ℕ → ℕ → Refusal → Refusal
right_fault f n w = pick (eqb (digit_count 0 (some f)) n) w WrongFrame

pub fault_law : (s : Begun) (n N : ℕ) (w : Refusal) (t : List ℕ)
    → ((b : ℕ) (f r : List ℕ) → Spelled t (b ∷ f) r → framed s s.want_v s.want_e (b ∷ f) ≡ wrong (refusal_number (right_fault (b ∷ f) N w)))
    → read_from s n (lines_of t) ≡ unreadable (refusal_number (fault_of t N w)) n
unfolding fault_of
fault_law s n N w [] h = refl
fault_law s n N w (a ∷ t) h = go (first (a ∷ t))
  where
    some_left : eqb (length (a ∷ t)) 0 ≡ false
    some_left = ne_eqb (length (a ∷ t)) 0 (λ z. omega arith)

    go : First (a ∷ t) → read_from s n (lines_of (a ∷ t)) ≡ unreadable (refusal_number (fault_of (a ∷ t) N w)) n
    go (broken e) = simp (some_left, e) (broken_read s n a t (ap non_empty e))
    go (right [] r z) = simp (some_left, frame_right z) (broken_read s n a t (ap non_empty (frame_right z)))
    go (right (b ∷ f) r z) =
        simp (some_left, frame_right z, ne_eqb (digit_count 0 (some (b ∷ f))) 0 (λ e. omega arith))
        (right-read s n z ∙ ap (λ (x : Step). read_step x n (lines_of r)) (h b f r z))

-- ---- the first bytes

pub record Starts (t : List ℕ) (k n : ℕ) : Type 0 where
  pub long : n < length t
  pub first : get_or t 0 0 ≡ 48
  pub second : get_or t 1 0 ≡ k
  pub fed : get_or t n 0 ≡ line_feed

pub starts_says : (t : List ℕ) (k n : ℕ) → starts_with t k n ≡ true → Starts t k n
unfolding starts_with
starts_says t k n = go (leb (length t) n) refl (eqb (get_or t 0 0) 48) refl (eqb (get_or t 1 0) k) refl (eqb (get_or t n 0) line_feed) refl
  where
    go : (a : Bool) → leb (length t) n ≡ a → (b : Bool) → eqb (get_or t 0 0) 48 ≡ b → (c : Bool) → eqb (get_or t 1 0) k ≡ c → (d : Bool)
        → eqb (get_or t n 0) line_feed ≡ d → starts_with t k n ≡ true → Starts t k n
    go true p b q c u d v e = differ (sym (simp p at e))
    go false p false q c u d v e = differ (sym (simp (p, q) at e))
    go false p true q false u d v e = differ (sym (simp (p, q, u) at e))
    go false p true q true u false v e = differ (sym (simp (p, q, u, v) at e))
    go false p true q true u true v e = record { long = leb-false _ _ p; first = eqb-true _ _ q; second = eqb-true _ _ u; fed = eqb-true _ _ v }

-- ---- kinds and lengths

pub frame_kind : (κ m : ℕ) (f : List ℕ) → is_frame κ m f ≡ true → get_or f 0 0 ≡ κ
frame_kind κ m f e = eqb-true _ _ (both_true (eqb (get_or f 0 0) κ) (eqb (length f) m) e).0

pub frame_long : (κ m : ℕ) (f : List ℕ) → is_frame κ m f ≡ true → length f ≡ m
frame_long κ m f e = eqb-true _ _ (both_true (eqb (get_or f 0 0) κ) (eqb (length f) m) e).1

-- the bytes of a frame of m bytes, by their places
pub framed-bytes : {t f r : List ℕ} (κ m : ℕ) → Spelled t f r → is_frame κ m f ≡ true → f ≡ pairs_at t 0 m
framed-bytes {t} {f} κ m z i = subst (λ (n : ℕ). f ≡ pairs_at t 0 n) (frame_long κ m f i) (bytes_of z).bytes

module _ (κ : ℕ) (low : κ < 10) where
  -- a line that starts as expected and is right has the kind
  pub kind_of_lem : {t f r : List ℕ} {b : ℕ} (n : ℕ) → Spelled t (b ∷ f) r → Starts t (κ + 48) n → b ≡ κ
  kind_of_lem n (pair {h} {l} p q z) s =
      let x : h ≡ 0 + 48 = s.first in
      let y : l ≡ κ + 48 = s.second in
      rw (x, y, worth_low 0 (omega arith), worth_low κ low) (omega arith)

  starts_true : {t f r : List ℕ} {b : ℕ} → Spelled t (b ∷ f) r → b ≡ κ → starts_with t (κ + 48) (2 * length (b ∷ f)) ≡ true
  unfolding starts_with
  starts_true (pair {h} {l} p q z) e =
      let b = bytes_of (pair p q z) in
      let x : h ≡ 0 + 48 = is_low h 0 (omega arith) (omega arith) in
      let y : l ≡ κ + 48 = is_low l κ (omega arith) low in
      simp (lt-leb _ _ b.long, eq-eqb _ _ x, eq-eqb _ _ y, eq-eqb _ _ b.fed)

  -- a right line that does not start as expected has not the frame
  pub not_frame : {t f r : List ℕ} {b : ℕ} (m : ℕ) → Spelled t (b ∷ f) r → starts_with t (κ + 48) (2 * m) ≡ false → is_frame κ m (b ∷ f) ≡ false
  not_frame {t} {f} {r} {b} m z e = go (is_frame κ m (b ∷ f)) refl
    where
      go : (x : Bool) → is_frame κ m (b ∷ f) ≡ x → is_frame κ m (b ∷ f) ≡ false
      go false q = q
      go true q =
          let l : length (b ∷ f) ≡ m = frame_long κ m (b ∷ f) q in
          differ (sym (subst (λ (n : ℕ). starts_with t (κ + 48) (2 * n) ≡ true) l (starts_true z (frame_kind κ m (b ∷ f) q))) ∙ e)

  -- where the rest of an expected line fails
  pub fails : {t f r : List ℕ} {b : ℕ} (m : ℕ) (w : Refusal) (x : Step) → Spelled t (b ∷ f) r → Starts t (κ + 48) (2 * m)
      → (is_frame κ m (b ∷ f) ≡ true → x ≡ wrong (refusal_number w))
      → pick (is_frame κ m (b ∷ f)) x (wrong 2) ≡ wrong (refusal_number (right_fault (b ∷ f) (2 * m) w))
  fails {t} {f} {r} {b} m w x z s h = go (is_frame κ m (b ∷ f)) refl
    where
      go : (y : Bool) → is_frame κ m (b ∷ f) ≡ y
          → pick (is_frame κ m (b ∷ f)) x (wrong 2) ≡ wrong (refusal_number (right_fault (b ∷ f) (2 * m) w))
      go true q =
          let l : length (b ∷ f) ≡ m = frame_long κ m (b ∷ f) q in
          simp (q, eq-eqb (digit_count 0 (some (b ∷ f))) (2 * m) (omega arith)) (h q)
      go false q =
          simp (
            q,
            ne_eqb (digit_count 0 (some (b ∷ f))) (2 * m) (λ c.
                let l : length (b ∷ f) ≡ m = omega arith in
                differ (sym (simp (eq-eqb b κ (kind_of_lem (2 * m) z s), eq-eqb (length (b ∷ f)) m l)) ∙ q)),
          )
