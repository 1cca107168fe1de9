-- A right line is the digits of its frame and a line feed: frames of bytes are read from their lines as they are, and no other lines are right.
use mathlib.Core.Path.{◌≡◌, refl, sym, ap, ap₂, subst, ◌∙◌}
use Prim.Native.Nat.{ℕ, suc, ◌+◌, ◌-◌, ◌*◌, ◌/◌, ◌%◌, ◌≤◌, ◌<◌}
use native.Mathlib.Omega.{arith}
use mathlib.Core.Bool.{Bool, true, false, ◌&&◌}
use mathlib.Core.Option.{Option, none, some}
use mathlib.Core.Logic.{◌⊎◌, inl, inr}
use mathlib.Core.List.Memᴰ
use mathlib.Core.List.{List, [], ◌∷◌, ◌++◌, map, Memᴰ}
use lib.ListN.{length}
use lib.Dec.{leb, ltb, eqb}
use borrow.Author.Tests.{ltb-true, ltb-false, leb-true, lt-ltb, le-ltb, le-leb, lt-leb, eqb-true, ne_eqb}
use Rattle.meaning.specs.Lists.{pick, gather}
use Rattle.meaning.specs.Table.{Table}
use Rattle.meaning.specs.Text.{Line, into_first, line_feed, lines_of, digit_of, byte_with, hex_bytes, frame_of, digit, digits, line}
use Rattle.meaning.specs.Text.{Begun, nothing, Step, on, over, wrong, step_at, readable, unreadable, at_end, frames_from, read}
use Rattle.meaning.specs.Rings.{PlainFrame, Plain}
use Rattle.meaning.proofs.Lists.{each_map}
use Rattle.meaning.proofs.Readable.{frames_step, step_frames}

-- ---- digits

pub digit_back : (n : ℕ) → n < 16 → digit_of (digit n) ≡ some n
digit_back n h = go (ltb n 10) refl
  where
    go : (b : Bool) → ltb n 10 ≡ b → digit_of (pick (ltb n 10) (48 + n) (87 + n)) ≡ some n
    go true e =
        let l : n < 10 = ltb-true n 10 e in
        let m : 48 + n - 48 ≡ n = omega arith in
        rw (e, le-leb 48 (48 + n) (omega arith), le-leb (48 + n) 57 (omega arith), m)
    go false e =
        let l : 10 ≤ n = ltb-false n 10 e in
        let m : 87 + n - 87 ≡ n = omega arith in
        rw (e, lt-leb (87 + n) 57 (omega arith), le-leb 97 (87 + n) (omega arith), le-leb (87 + n) 102 (omega arith), m, le-leb 48 (87 + n) (omega arith))

digit_fed : (n : ℕ) → eqb (digit n) line_feed ≡ false
digit_fed n = go (ltb n 10)
  where
    go : (b : Bool) → eqb (pick b (48 + n) (87 + n)) line_feed ≡ false
    go true = ne_eqb (48 + n) line_feed (λ e. omega arith)
    go false = ne_eqb (87 + n) line_feed (λ e. omega arith)

-- a byte that is a digit is the digit of its number
pub digit_is : (b n : ℕ) → digit_of b ≡ some n → (b ≡ digit n) × (n < 16)
digit_is b n q = go (leb 48 b && leb b 57) refl (leb 97 b && leb b 102) refl q
  where
    low : (x y : Bool) → leb 48 b ≡ x → leb b 57 ≡ y → x && y ≡ true → (48 ≤ b) × (b ≤ 57)
    low true true p r e = (leb-true 48 b p, leb-true b 57 r)
    low true false p r e = absurd (let z : ◌≡◌ {A = ℕ} 0 1 = cc in omega arith)
    low false y p r e = absurd (let z : ◌≡◌ {A = ℕ} 0 1 = cc in omega arith)

    high : (x y : Bool) → leb 97 b ≡ x → leb b 102 ≡ y → x && y ≡ true → (97 ≤ b) × (b ≤ 102)
    high true true p r e = (leb-true 97 b p, leb-true b 102 r)
    high true false p r e = absurd (let z : ◌≡◌ {A = ℕ} 0 1 = cc in omega arith)
    high false y p r e = absurd (let z : ◌≡◌ {A = ℕ} 0 1 = cc in omega arith)

    go : (x : Bool) → leb 48 b && leb b 57 ≡ x → (y : Bool) → leb 97 b && leb b 102 ≡ y
        → pick x (some (b - 48)) (pick y (some (b - 87)) none) ≡ some n → (b ≡ digit n) × (n < 16)
    go true p y r e =
        let k = low (leb 48 b) (leb b 57) refl refl p in
        let m : b - 48 ≡ n = cc in
        (rw (lt-ltb n 10 (omega (arith, k.0, k.1))) (omega (arith, k.0)), omega (arith, k.1))
    go false p true r e =
        let k = high (leb 97 b) (leb b 102) refl refl r in
        let m : b - 87 ≡ n = cc in
        (rw (le-ltb n 10 (omega (arith, k.0, k.1))) (omega (arith, k.0)), omega (arith, k.0, k.1))
    go false p false r e = absurd (let z : ◌≡◌ {A = ℕ} 0 1 = cc in omega arith)

-- ---- the line of a frame of bytes

abbrev pub Bytes : List ℕ → Type 0
Bytes [] = Unit {0}
Bytes (b ∷ f) = (b < 256) × Bytes f

-- a frame has a byte at least
abbrev pub Framed : List ℕ → Type 0
Framed f = (1 ≤ length f) × Bytes f

abbrev pub AllFramed : List (List ℕ) → Type 0
AllFramed [] = Unit {0}
AllFramed (f ∷ fs) = Framed f × AllFramed fs

abbrev fed_line : List ℕ → Line
fed_line f = record { bytes = gather digits f; fed = true }

first-line : (f r : List ℕ) → lines_of (line f ++ r) ≡ fed_line f ∷ lines_of r
first-line [] r = refl
first-line (b ∷ f) r = rw (digit_fed (b / 16), digit_fed (b % 16), first-line f r)

lines_of_lem : (fs : List (List ℕ)) → lines_of (gather line fs) ≡ map fed_line fs
lines_of_lem [] = refl
lines_of_lem (f ∷ fs) = first-line f (gather line fs) ∙ ap (λ (ls : List Line). fed_line f ∷ ls) (lines_of_lem fs)

hex_of : (f : List ℕ) → Bytes f → hex_bytes (gather digits f) ≡ some f
hex_of [] h = refl
hex_of (b ∷ f) h =
    let l = h.0 in
    let m : b / 16 * 16 + b % 16 ≡ b = omega arith in
    rw (digit_back (b / 16) (omega arith), digit_back (b % 16) (omega arith), hex_of f h.1, m)

frame_of_lem : (f : List ℕ) → Framed f → frame_of (fed_line f) ≡ some f
frame_of_lem [] h = absurd (omega (arith, h.0))
frame_of_lem (b ∷ f) h = rw (lt-ltb 1 (length (gather digits (b ∷ f))) (omega arith)) (hex_of (b ∷ f) h.1)

fed_ends : (ts : Table) (n : ℕ) (fs : List (List ℕ)) → at_end ts n (map fed_line fs) ≡ at_end ts n fs
fed_ends ts n [] = refl
fed_ends ts n (f ∷ fs) = refl

-- what is read of the frames' lines is what is read of the frames
lines_from : (s : Begun) (n : ℕ) (fs : List (List ℕ)) → AllFramed fs → frames_from frame_of s n (map fed_line fs) ≡ frames_from some s n fs
lines_from s n [] h = refl
lines_from s n (f ∷ fs) h =
    step_frames frame_of s n (fed_line f) (map fed_line fs)
    ∙ ap (λ (o : Option (List ℕ)). frames_step frame_of (step_at s o) n (map fed_line fs)) (frame_of_lem f h.0)
    ∙ go (λ z. lines_from z (suc n) fs h.1) (step_at s (some f))
    ∙ sym (step_frames some s n f fs)
  where
    go : ((z : Begun) → frames_from frame_of z (suc n) (map fed_line fs) ≡ frames_from some z (suc n) fs) → (r : Step)
        → frames_step frame_of r n (map fed_line fs) ≡ frames_step some r n fs
    go ih (on z) = ih z
    go ih (over ts) = fed_ends ts (suc n) fs
    go ih (wrong k) = refl

pub read_lines : (fs : List (List ℕ)) → AllFramed fs → read (gather line fs) ≡ frames_from some nothing 1 fs
unfolding read
read_lines fs h = ap (frames_from frame_of nothing 1) (lines_of_lem fs) ∙ lines_from nothing 1 fs h

-- ---- frames whose numbers bytes may not hold

digit_foreign : (n : ℕ) → 16 ≤ n → digit_of (digit n) ≡ none
digit_foreign n h =
    rw (
      le-ltb n 10 (omega arith),
      lt-leb (87 + n) 57 (omega arith),
      lt-leb (87 + n) 102 (omega arith),
      le-leb 48 (87 + n) (omega arith),
      le-leb 97 (87 + n) (omega arith),
    )

-- such a number spells no byte
hex_or_none : (f : List ℕ) → (hex_bytes (gather digits f) ≡ some f) ⊎ (hex_bytes (gather digits f) ≡ none)
hex_or_none [] = inl refl
hex_or_none (b ∷ f) = go (ltb b 256) refl (hex_or_none f)
  where
    stops : (x y : Option ℕ) → byte_with x y none ≡ none
    stops none y = refl
    stops (some a) none = refl
    stops (some a) (some c) = refl

    go : (x : Bool) → ltb b 256 ≡ x → (hex_bytes (gather digits f) ≡ some f) ⊎ (hex_bytes (gather digits f) ≡ none)
        → (hex_bytes (gather digits (b ∷ f)) ≡ some (b ∷ f)) ⊎ (hex_bytes (gather digits (b ∷ f)) ≡ none)
    go false e ih = let l = ltb-false b 256 e in inr (rw (digit_foreign (b / 16) (omega arith)))
    go true e (inl q) =
        let l = ltb-true b 256 e in
        let m : b / 16 * 16 + b % 16 ≡ b = omega arith in
        inl (rw (digit_back (b / 16) (omega arith), digit_back (b % 16) (omega arith), q, m))
    go true e (inr q) = inr (rw q (stops (digit_of (digit (b / 16))) (digit_of (digit (b % 16)))))

frame_or_none : (f : List ℕ) → 1 ≤ length f → (frame_of (fed_line f) ≡ some f) ⊎ (frame_of (fed_line f) ≡ none)
frame_or_none [] h = absurd (omega arith)
frame_or_none (b ∷ f) h = rw (lt-ltb 1 (length (gather digits (b ∷ f))) (omega arith)) (hex_or_none (b ∷ f))

-- no line of frames without 05 to 07 has one
pub plain_lines_lem : (fs : List (List ℕ)) → ((f : List ℕ) → Memᴰ f fs → (1 ≤ length f) × PlainFrame (some f)) → Plain (gather line fs)
plain_lines_lem fs h l m =
    each_map (λ (x : Line). PlainFrame (frame_of x)) fed_line fs (λ f i. go f (frame_or_none f (h f i).0) (h f i).1) l
    (subst (Memᴰ l) (lines_of_lem fs) m)
  where
    go : (f : List ℕ) → (frame_of (fed_line f) ≡ some f) ⊎ (frame_of (fed_line f) ≡ none) → PlainFrame (some f) → PlainFrame (frame_of (fed_line f))
    go f (inl q) p = subst PlainFrame (sym q) p
    go f (inr q) p = subst PlainFrame (sym q) tt

-- what is refused of the frames' lines, but by 1, is refused of the frames
lines_refused : (s : Begun) (n : ℕ) (fs : List (List ℕ)) → ((f : List ℕ) → Memᴰ f fs → 1 ≤ length f) → (k m : ℕ) → 2 ≤ k
    → frames_from frame_of s n (map fed_line fs) ≡ unreadable k m → frames_from some s n fs ≡ unreadable k m
lines_refused s n [] h k m l e = e
lines_refused s n (f ∷ fs) h k m l e =
    go (frame_or_none f (h f (Memᴰ.head refl))) (λ z q. lines_refused z (suc n) fs (λ g i. h g (Memᴰ.tail i)) k m l q)
    (sym (step_frames frame_of s n (fed_line f) (map fed_line fs)) ∙ e)
  where
    row_one : {j : ℕ} → unreadable 1 j ≡ unreadable k m → 1 ≡ k
    row_one q = cc

    same : (r : Step) → ((z : Begun) → frames_from frame_of z (suc n) (map fed_line fs) ≡ unreadable k m → frames_from some z (suc n) fs ≡ unreadable k m)
        → frames_step frame_of r n (map fed_line fs) ≡ unreadable k m → frames_step some r n fs ≡ unreadable k m
    same (on z) ih q = ih z q
    same (over ts) ih q = sym (fed_ends ts (suc n) fs) ∙ q
    same (wrong j) ih q = q

    go : (frame_of (fed_line f) ≡ some f) ⊎ (frame_of (fed_line f) ≡ none)
        → ((z : Begun) → frames_from frame_of z (suc n) (map fed_line fs) ≡ unreadable k m → frames_from some z (suc n) fs ≡ unreadable k m)
        → frames_step frame_of (step_at s (frame_of (fed_line f))) n (map fed_line fs) ≡ unreadable k m → frames_from some s n (f ∷ fs) ≡ unreadable k m
    go (inl q) ih u =
        step_frames some s n f fs
        ∙ same (step_at s (some f)) ih (sym (ap (λ (o : Option (List ℕ)). frames_step frame_of (step_at s o) n (map fed_line fs)) q) ∙ u)
    go (inr q) ih u =
        absurd (omega (arith, l, row_one (sym (ap (λ (o : Option (List ℕ)). frames_step frame_of (step_at s o) n (map fed_line fs)) q) ∙ u)))

pub read_refused_lines : (fs : List (List ℕ)) → ((f : List ℕ) → Memᴰ f fs → 1 ≤ length f) → (k m : ℕ) → 2 ≤ k
    → read (gather line fs) ≡ unreadable k m → frames_from some nothing 1 fs ≡ unreadable k m
unfolding read
read_refused_lines fs h k m l e = lines_refused nothing 1 fs h k m l (sym (ap (frames_from frame_of nothing 1) (lines_of_lem fs)) ∙ e)

-- ---- the frames of a readable text

pub apart : {A : Type 0} {f : List ℕ} → none ≡ some f → A
apart e = absurd (let z : ◌≡◌ {A = ℕ} 0 1 = cc in omega arith)

pub refused_apart : {A : Type 0} {ts : Table} {k n : ℕ} → unreadable k n ≡ readable ts → A
refused_apart e = absurd (let z : ◌≡◌ {A = ℕ} 0 1 = cc in omega arith)

-- the digits that spell a frame are its bytes' own
abbrev Spells : List ℕ → List ℕ → Type 0
Spells ds f = (ds ≡ gather digits f) × Bytes f

byte_spells : (h l : ℕ) (ds f : List ℕ) (x y : Option ℕ) (o : Option (List ℕ)) → digit_of h ≡ x → digit_of l ≡ y
    → ((g : List ℕ) → o ≡ some g → Spells ds g) → byte_with x y o ≡ some f → Spells (h ∷ l ∷ ds) f
byte_spells h l ds f (some a) (some b) (some g) p q ih e =
    let i = digit_is h a p in
    let j = digit_is l b q in
    let less = j.1 in
    let r = ih g refl in
    let high : (a * 16 + b) / 16 ≡ a = omega arith in
    let low : (a * 16 + b) % 16 ≡ b = omega arith in
    let is : (a * 16 + b) ∷ g ≡ f = cc in
    subst (Spells (h ∷ l ∷ ds)) is
    (rw (high, low) (ap₂ (λ (u v : ℕ). u ∷ v ∷ ds) i.0 j.0 ∙ ap (λ (w : List ℕ). digit a ∷ digit b ∷ w) r.0), (omega (arith, i.1), r.1))
byte_spells h l ds f (some a) (some b) none p q ih e = apart e
byte_spells h l ds f (some a) none o p q ih e = apart e
byte_spells h l ds f none y o p q ih e = apart e

hex_spells : (ds f : List ℕ) → hex_bytes ds ≡ some f → Spells ds f
hex_spells [] f e = let is : [] ≡ f = cc in subst (Spells []) is (refl, tt)
hex_spells (h ∷ []) f e = apart e
hex_spells (h ∷ l ∷ ds) f e = byte_spells h l ds f (digit_of h) (digit_of l) (hex_bytes ds) refl refl (λ g q. hex_spells ds g q) e

-- so a right line is the line of its frame
frame_line : (l : Line) (f : List ℕ) → frame_of l ≡ some f → (l ≡ fed_line f) × Framed f
frame_line l f = go l.fed refl (ltb 1 (length l.bytes)) refl
  where
    some_byte : (g : List ℕ) → 1 < length (gather digits g) → 1 ≤ length g
    some_byte [] h = omega arith
    some_byte (b ∷ g) h = omega arith

    go : (x : Bool) → l.fed ≡ x → (y : Bool) → ltb 1 (length l.bytes) ≡ y → pick (x && y) (hex_bytes l.bytes) none ≡ some f
        → (l ≡ fed_line f) × Framed f
    go true p true q e =
        let s = hex_spells l.bytes f e in
        let some = some_byte f (omega (arith, ltb-true 1 (length l.bytes) q, ap length s.0)) in
        (ap₂ (λ (bs : List ℕ) (x : Bool). record { bytes = bs; fed = x }) s.0 p, (some, s.1))
    go true p false q e = apart e
    go false p y q e = apart e

-- the bytes of a line, and its line feed if it has one
abbrev line_text : Line → List ℕ
line_text l = l.bytes ++ pick l.fed (line_feed ∷ []) []

text_lines : (text : List ℕ) → gather line_text (lines_of text) ≡ text
text_lines [] = refl
text_lines (b ∷ bs) = go (eqb b line_feed) refl (text_lines bs)
  where
    into : (ls : List Line) → gather line_text (into_first b ls) ≡ b ∷ gather line_text ls
    into [] = refl
    into (l ∷ ls) = refl

    go : (x : Bool) → eqb b line_feed ≡ x → gather line_text (lines_of bs) ≡ bs
        → gather line_text (pick x (record { bytes = []; fed = true } ∷ lines_of bs) (into_first b (lines_of bs))) ≡ b ∷ bs
    go true e ih = ap₂ (λ (c : ℕ) (cs : List ℕ). c ∷ cs) (sym (eqb-true b line_feed e)) ih
    go false e ih = into (lines_of bs) ∙ ap (λ (cs : List ℕ). b ∷ cs) ih

fed_texts : (fs : List (List ℕ)) → gather line_text (map fed_line fs) ≡ gather line fs
fed_texts [] = refl
fed_texts (f ∷ fs) = ap (λ (cs : List ℕ). line f ++ cs) (fed_texts fs)

-- the frames of lines that are read as ts from s and line n on
pub record FramesAs (ls : List Line) (s : Begun) (n : ℕ) (ts : Table) : Type 0 where
  pub frames : List (List ℕ)
  pub lines : ls ≡ map fed_line frames
  pub framed : AllFramed frames
  pub reading : frames_from some s n frames ≡ readable ts

frames_from_lem : (s : Begun) (n : ℕ) (ls : List Line) (ts : Table) → frames_from frame_of s n ls ≡ readable ts → FramesAs ls s n ts
frames_from_lem s n [] ts e = refused_apart e
frames_from_lem s n (l ∷ ls) ts e = go (frame_of l) refl (λ z q. frames_from_lem z (suc n) ls ts q) (sym (step_frames frame_of s n l ls) ∙ e)
  where
    more : (f : List ℕ) (r : Step) → step_at s (some f) ≡ r → (l ≡ fed_line f) × Framed f
        → ((z : Begun) → frames_from frame_of z (suc n) ls ≡ readable ts → FramesAs ls z (suc n) ts) → frames_step frame_of r n ls ≡ readable ts
        → FramesAs (l ∷ ls) s n ts
    more f (on z) q k ih e =
        let i = ih z e in
        record {
          frames = f ∷ i.frames;
          lines = ap₂ (λ (x : Line) (xs : List Line). x ∷ xs) k.0 i.lines;
          framed = (k.1, i.framed);
          reading = step_frames some s n f i.frames ∙ ap (λ (x : Step). frames_step some x n i.frames) q ∙ i.reading;
        }
    more f (over us) q k ih e = ended ls e
      where
        ended : (ls : List Line) → at_end us (suc n) ls ≡ readable ts → FramesAs (l ∷ ls) s n ts
        ended [] e =
            record {
              frames = f ∷ [];
              lines = ap (λ (x : Line). x ∷ []) k.0;
              framed = (k.1, tt);
              reading = step_frames some s n f [] ∙ ap (λ (x : Step). frames_step some x n []) q ∙ e;
            }
        ended (m ∷ ms) e = refused_apart e
    more f (wrong j) q k ih e = refused_apart e

    go : (o : Option (List ℕ)) → frame_of l ≡ o → ((z : Begun) → frames_from frame_of z (suc n) ls ≡ readable ts → FramesAs ls z (suc n) ts)
        → frames_step frame_of (step_at s (frame_of l)) n ls ≡ readable ts → FramesAs (l ∷ ls) s n ts
    go none q ih e = refused_apart (sym (ap (λ (o : Option (List ℕ)). frames_step frame_of (step_at s o) n ls) q) ∙ e)
    go (some f) q ih e =
        more f (step_at s (some f)) refl (frame_line l f q) ih (sym (ap (λ (o : Option (List ℕ)). frames_step frame_of (step_at s o) n ls) q) ∙ e)

-- each is the frame of a line
fed_mem : (fs : List (List ℕ)) → AllFramed fs → (f : List ℕ) → Memᴰ f fs → (l : Line) × Memᴰ l (map fed_line fs) × (frame_of l ≡ some f)
fed_mem [] h f m = absurd (Memᴰ.not-nil m)
fed_mem (g ∷ fs) h f m = go (λ k. fed_mem fs h.1 f k) (Memᴰ.cases_cons m)
  where
    go : (Memᴰ f fs → (l : Line) × Memᴰ l (map fed_line fs) × (frame_of l ≡ some f)) → (f ≡ g) ⊎ Memᴰ f fs
        → (l : Line) × Memᴰ l (map fed_line (g ∷ fs)) × (frame_of l ≡ some f)
    go ih (inl q) = (fed_line g, Memᴰ.head refl, frame_of_lem g h.0 ∙ ap some (sym q))
    go ih (inr k) = let r = ih k in (r.0, Memᴰ.tail r.1, r.2)

pub record TextFrames (text : List ℕ) (ts : Table) : Type 0 where
  pub frames : List (List ℕ)
  pub spelt : text ≡ gather line frames
  pub framed : AllFramed frames
  pub reading : frames_from some nothing 1 frames ≡ readable ts
  pub lines : (f : List ℕ) → Memᴰ f frames → (l : Line) × Memᴰ l (lines_of text) × (frame_of l ≡ some f)

pub readable_frames : (text : List ℕ) (ts : Table) → read text ≡ readable ts → TextFrames text ts
unfolding read
readable_frames text ts e =
    let i = frames_from_lem nothing 1 (lines_of text) ts e in
    record {
      frames = i.frames;
      spelt = sym (text_lines text) ∙ ap (gather line_text) i.lines ∙ fed_texts i.frames;
      framed = i.framed;
      reading = i.reading;
      lines = λ f m. let r = fed_mem i.frames i.framed f m in (r.0, subst (Memᴰ r.0) (sym i.lines) r.1, r.2);
    }
