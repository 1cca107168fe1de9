-- What a caller learns of a text from its reading: the table that a readable one means, the refusal of the others.
use mathlib.Core.Path.{◌≡◌, refl, sym, ap, ap₂, subst, ◌∙◌}
use Prim.Native.Nat.{ℕ}
use native.Mathlib.Omega.{arith}
use mathlib.Core.Logic.{inl, inr}
use mathlib.Core.List.{List, [], ◌∷◌}
use lib.ListN.{get_or}
use Rattle.meaning.specs.Table as Meant
use Rattle.meaning.specs.Text as Text
use Rattle.meaning.specs.Text.{readable, unreadable, read, checked}
use Rattle.meaning.specs.Sound.{SoundTable}
use Rattle.meaning.specs.Slips.{LineRow}
use Rattle.meaning.proofs.Readable.{InText, row_least}
use Rattle.meaning.proofs.Demands.{readable_sound, text_refused}
use Rattle.kinds.specs.declared.RefusedAt.{RefusedAt}
use Rattle.kinds.specs.Numbers.{refusal_number}
use Rattle.kinds.proofs.Numbers.{refusal_of, number_of-refusal, number_some, same-refusal}
use Rattle.table.specs.declared.Table.{Table}
use Rattle.table.specs.Record.{table_record}
use Rattle.table.specs.Inner.{table_of}
use Rattle.table.proofs.Record.{table_of_record}
use Rattle.std.specs.Prelude.{Result, Ok, Err, IfOk}
use Rattle.std.proofs.lemmas.Result.{IfOk-at_ok}
use Rattle.reader.specs.Inner.{refused_at}
use Rattle.reader.specs.Record.{status_numbers, Reads}
use Rattle.reader.specs.Settled.{ReadSettled}
use Rattle.reader.proofs.Descent.{reading_record}

-- each row of a text has its refusal
row_number : (k : ℕ) → LineRow 1 7 k → refusal_number (refusal_of k) ≡ k
row_number k (inl r) = number_of-refusal k r.0 r.1
row_number k (inr r) = subst (λ (j : ℕ). refusal_number (refusal_of j) ≡ j) (sym r) refl

-- the record of what a text means is what a reading promises
pub reading_reads : (text : List ℕ) (r : Result Table RefusedAt) → r ≡ reading_record (read text) → Reads text r
reading_reads text r e = record { status = rw e (status_is (read text) refl); table = rw e (table_is (read text)) }
  where
    status_is : (m : Text.Reading) → read text ≡ m → status_numbers (reading_record m) ≡ checked m
    status_is (readable ts) q = refl
    status_is (unreadable k n) q = ap (λ (i : ℕ). i ∷ n ∷ []) (row_number k (text_refused text k n q).0)

    table_is : (m : Text.Reading) → IfOk (reading_record m) (λ t. t ≡ table_record (Text.tasks_of m))
    table_is (readable ts) = refl
    table_is (unreadable k n) = tt

-- ---- what a caller learns

-- t is the record of the table that the text means
pub record TableRead (text : List ℕ) (t : Table) : Type 0 where
  pub means : read text ≡ readable (table_of t)
  pub is : t ≡ table_record (table_of t)
  pub sound : SoundTable (table_of t)

-- the text is refused by this row at this line
pub record LineRefused (text : List ℕ) (at : RefusedAt) : Type 0 where
  pub means : read text ≡ unreadable (refusal_number at.refusal) at.place
  pub bounds : InText (refusal_number at.refusal) at.place

number_is : {a b : List ℕ} → a ≡ b → get_or a 0 0 ≡ get_or b 0 0
number_is q = ap (λ (ns : List ℕ). get_or ns 0 0) q

module _ (text : List ℕ) where
  of_table : (ts : Meant.Table) → read text ≡ readable ts → TableRead text (table_record ts)
  of_table ts e =
      let t : table_of (table_record ts) ≡ ts = table_of_record ts in
      record { means = e ∙ ap readable (sym t); is = ap table_record (sym t); sound = subst SoundTable (sym t) (readable_sound text ts e) }

  module _ (r : Result Table RefusedAt) (e : Reads text r) where
    status_says : {s : Result Table RefusedAt} {m : Text.Reading} → r ≡ s → read text ≡ m → status_numbers s ≡ checked m
    status_says p q = ap status_numbers (sym p) ∙ e.status ∙ ap checked q

    pub table_read : {t : Table} → r ≡ Ok t → TableRead text t
    table_read {t} p = go (read text) refl
      where
        is_table : t ≡ table_record (Text.tasks_of (read text))
        is_table = IfOk-at_ok (λ (u : Table). u ≡ table_record (Text.tasks_of (read text))) p e.table

        go : (m : Text.Reading) → read text ≡ m → TableRead text t
        go (readable ts) q = rw (is_table ∙ ap (λ (m : Text.Reading). table_record (Text.tasks_of m)) q) (of_table ts q)
        go (unreadable k n) q = absurd (omega (arith, number_is (status_says p q), row_least (omega arith) (text_refused text k n q).0))

    pub line_refused : {at : RefusedAt} → r ≡ Err at → LineRefused text at
    line_refused {at} p = go (read text) refl
      where
        go : (m : Text.Reading) → read text ≡ m → LineRefused text at
        go (readable ts) q = absurd (omega (arith, number_is (status_says p q), number_some at.refusal))
        go (unreadable k n) q =
            let s : refusal_number at.refusal ∷ at.place ∷ [] ≡ k ∷ n ∷ [] = status_says p q in
            let a : k ≡ refusal_number at.refusal = cc in
            let b : n ≡ at.place = cc in
            let means = q ∙ ap₂ unreadable a b in
            record { means = means; bounds = text_refused text (refusal_number at.refusal) at.place means }

-- ---- only one

same_refused : (a b : RefusedAt) → status_numbers (Err a) ≡ status_numbers (Err b) → a ≡ b
same_refused a b q = ap₂ refused_at (same-refusal a.refusal b.refusal cc) cc

pub read-settled : ReadSettled
read-settled text (Ok t) (Ok u) p q = ap Ok (p.table ∙ sym q.table)
read-settled text (Ok t) (Err b) p q = absurd (omega (arith, number_is (p.status ∙ sym q.status), number_some b.refusal))
read-settled text (Err a) (Ok u) p q = absurd (omega (arith, number_is (p.status ∙ sym q.status), number_some a.refusal))
read-settled text (Err a) (Err b) p q = ap Err (same_refused a b (p.status ∙ sym q.status))
