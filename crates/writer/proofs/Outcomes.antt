-- What comes of a table and an area: it is written, it doesn't fit, or it breaks a rule.
use mathlib.Core.Path.{◌≡◌, refl, sym, ap, subst, ◌∙◌}
use Prim.Native.Nat.{ℕ, ◌≤◌, ◌<◌}
use native.Mathlib.Omega.{arith}
use mathlib.Core.Bool.{Bool, true, false}
use lib.ListN.{length}
use lib.Dec.{ltb}
use borrow.Author.Tests.{ltb-true, ltb-false}
use Rattle.meaning.specs.Lists.{pick}
use Rattle.meaning.specs.Table.{Table}
use Rattle.meaning.specs.Text.{Reading, readable, unreadable, read}
use Rattle.meaning.specs.Texts.{longest_text}
use Rattle.meaning.specs.Sound.{SoundTable}
use Rattle.meaning.specs.Writing.{text_of, Writing, writable, unwritable, ruled, writing_by, writing}
use Rattle.meaning.proofs.Readable.{row_least}
use Rattle.meaning.proofs.LongestText.{none_longer}
use Rattle.meaning.proofs.TextRead.{sound_read}
use Rattle.checks.proofs.Sound.{sound_ruled, ruled_sound, ruled_refused}

-- the text of a sound table means that table
pub text_means : (ts : Table) → SoundTable ts → read (text_of ts) ≡ readable ts
text_means ts s = sound_read ts s ∙ sound_ruled ts s

pub text_few : (ts : Table) → SoundTable ts → length (text_of ts) ≤ longest_text
text_few ts s = none_longer (text_of ts) ts (text_means ts s)

pub data Outcome (ts : Table) (room : ℕ) : Type 0 where
  fits : SoundTable ts → length (text_of ts) ≤ room → writing ts room ≡ writable (text_of ts) → Outcome ts room
  short : SoundTable ts → room < length (text_of ts) → writing ts room ≡ unwritable 10 (length (text_of ts)) → Outcome ts room
  broken : (k n : ℕ) → ruled ts ≡ unreadable k n → writing ts room ≡ unwritable k n → Outcome ts room

pub outcome : (ts : Table) (room : ℕ) → Outcome ts room
unfolding writing
outcome ts room = go (ruled ts) refl
  where
    sound : SoundTable ts → (b : Bool) → ltb room (length (text_of ts)) ≡ b
        → writing ts room ≡ pick b (unwritable 10 (length (text_of ts))) (writable (text_of ts)) → Outcome ts room
    sound s true p q = short s (ltb-true room (length (text_of ts)) p) q
    sound s false p q = fits s (ltb-false room (length (text_of ts)) p) q

    go : (r : Reading) → ruled ts ≡ r → Outcome ts room
    go (readable us) e =
        sound (ruled_sound ts us e) (ltb room (length (text_of ts))) refl (ap (λ (r : Reading). writing_by r (text_of ts) room) e)
    go (unreadable k n) e = broken k n e (ap (λ (r : Reading). writing_by r (text_of ts) room) e)

-- a sound table breaks no rule
pub sound_apart : {A : Type 0} (ts : Table) {k n : ℕ} → SoundTable ts → ruled ts ≡ unreadable k n → A
sound_apart ts s e = absurd (let z = sym (sound_ruled ts s) ∙ e in let y : ◌≡◌ {A = ℕ} 0 1 = cc in omega arith)

-- its numbers are small, and a refusal has one
abbrev pub Bounded : Writing → Type 0
Bounded (writable text) = length text ≤ longest_text
Bounded (unwritable k n) = (1 ≤ k) × (n ≤ longest_text)

pub writing_bounded : (ts : Table) (room : ℕ) → Bounded (writing ts room)
writing_bounded ts room = go (outcome ts room)
  where
    go : Outcome ts room → Bounded (writing ts room)
    go (fits s l q) = subst Bounded (sym q) (text_few ts s)
    go (short s l q) = subst Bounded (sym q) (omega arith, text_few ts s)
    go (broken k n u q) = let i = ruled_refused ts k n u in subst Bounded (sym q) (omega (arith, row_least (omega arith) i.0), omega (arith, i.3))
