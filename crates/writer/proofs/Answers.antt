-- The writer's answer, from what the check of a record found and what was written of it.
use mathlib.Core.Path.{◌≡◌, refl, sym, ap, ap₂, ◌∙◌}
use Prim.Native.Nat.{ℕ, ◌≤◌, ◌<◌}
use native.Mathlib.Omega.{arith}
use mathlib.Core.List.{List, [], ◌∷◌}
use lib.ListN.{length}
use Rattle.meaning.specs.Text.{readable, unreadable}
use Rattle.meaning.specs.Texts.{text_length, longest_text}
use Rattle.meaning.specs.Sound.{SoundTable}
use Rattle.meaning.specs.Areas.{Wrote}
use Rattle.meaning.specs.Writing.{text_of, Writing, writable, unwritable, ruled, writing, writing_numbers, area_after}
use Rattle.meaning.proofs.TextSize.{text_size}
use Rattle.meaning.proofs.Wrote.{front-set}
use Rattle.kinds.specs.declared.RefusedAt.{RefusedAt}
use Rattle.kinds.specs.declared.Refusal.TheVariants.{WorkTooShort}
use Rattle.kinds.specs.Numbers.{refusal_number}
use Rattle.table.specs.declared.Table.{Table}
use Rattle.table.specs.Record.{table_held}
use Rattle.std.specs.Prelude.{Ok, Err}
use Rattle.checks.specs.Checks.{Check, TableChecked}
use Rattle.checks.proofs.Tables.{checked_kept, checked_broken}
use Rattle.checks.proofs.Ruled.{unless, ruled_is}
use Rattle.checks.proofs.Sound.{kept_sound}
use Rattle.writer.specs.Written.{Written, written_numbers, Writes}
use Rattle.writer.proofs.Outcomes.{text_few, Outcome, fits, short, broken, outcome, sound_apart}

-- the answer and the area that a writing gives
writes_by : {t : Table} {before after : List ℕ} {r : Written} (w : Writing) → writing (table_held t) (length before) ≡ w → written_numbers r ≡ writing_numbers w
    → after ≡ area_after w before → Writes t before r after
writes_by {t} {before} w e a b = record { answer = a ∙ ap writing_numbers (sym e); area = b ∙ ap (λ (x : Writing). area_after x before) (sym e) }

module _ {t : Table} where
  pub answer_broken : (before : List ℕ) {at : RefusedAt} → TableChecked t (Err at) → Writes t before (Err at) before
  answer_broken before {at} found =
      let rule : ruled (table_held t) ≡ unreadable (refusal_number at.refusal) at.place = ruled_is (table_held t) ∙ ap (λ (x : Check). unless x (readable (table_held t))) (checked_broken found) in
      go rule (outcome (table_held t) (length before))
    where
      go : ruled (table_held t) ≡ unreadable (refusal_number at.refusal) at.place → Outcome (table_held t) (length before) → Writes t before (Err at) before
      go u (fits s l q) = sound_apart (table_held t) s u
      go u (short s l q) = sound_apart (table_held t) s u
      go u (broken k n v q) =
          let z : unreadable k n ≡ unreadable (refusal_number at.refusal) at.place = sym v ∙ u in
          let a : refusal_number at.refusal ≡ k = cc in
          let b : at.place ≡ n = cc in
          writes_by (unwritable k n) q (ap₂ (λ (x y : ℕ). x ∷ y ∷ []) a b) refl

  module _ {need : ℕ} (found : TableChecked t (Ok need)) where
    pub answer_sound : SoundTable (table_held t)
    answer_sound = kept_sound (table_held t) (checked_kept found).0

    -- as the check counts them, and as the text has them
    pub answer-bytes : (need ≡ text_length (table_held t)) × (need ≡ length (text_of (table_held t)))
    answer-bytes = let b = (checked_kept found).1 in (b, b ∙ sym (text_size (table_held t)))

    pub answer_few : need ≤ longest_text
    answer_few = omega (arith, answer-bytes.1, text_few (table_held t) answer_sound)

    pub answer_short : (before : List ℕ) → length before < need → Writes t before (Err (record { refusal = WorkTooShort; place = need })) before
    answer_short before h = go (outcome (table_held t) (length before))
      where
        go : Outcome (table_held t) (length before) → Writes t before (Err (record { refusal = WorkTooShort; place = need })) before
        go (fits s l q) = absurd (omega (arith, answer-bytes.1, h))
        go (short s l q) = writes_by (unwritable 10 (length (text_of (table_held t)))) q (ap (λ (n : ℕ). 10 ∷ n ∷ []) answer-bytes.1) refl
        go (broken k n u q) = sound_apart (table_held t) answer_sound u

    pub answer-written : {before after : List ℕ} {next : ℕ} → need ≤ length before → Wrote (text_of (table_held t)) before 0 after next
        → Writes t before (Ok next) after
    answer-written {before} {after} {next} h w = go (outcome (table_held t) (length before))
      where
        go : Outcome (table_held t) (length before) → Writes t before (Ok next) after
        go (fits s l q) =
            let end : next ≡ length (text_of (table_held t)) = omega (arith, w.end) in
            writes_by (writable (text_of (table_held t))) q (ap (λ (n : ℕ). 0 ∷ n ∷ []) end)
            (w.cells ∙ front-set (text_of (table_held t)) before l)
        go (short s l q) = absurd (omega (arith, answer-bytes.1, h))
        go (broken k n u q) = sound_apart (table_held t) answer_sound u
