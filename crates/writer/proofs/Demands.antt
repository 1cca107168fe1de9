-- The demands of the writer, from what its promise says of each outcome; and that the promise leaves one result.
use mathlib.Core.Path.{◌≡◌, refl, sym, ap, ap₂, subst, ◌∙◌}
use Prim.Native.Nat.{ℕ, suc, ◌+◌, ◌-◌, ◌≤◌, ◌<◌}
use native.Mathlib.Omega.{arith}
use mathlib.Core.Option.{some}
use mathlib.Core.List.{List, [], ◌∷◌, map}
use lib.ListN.{length, take, drop, length-append, length-drop}
use lib.Seq.{take_at, drop-append_seam}
use Rattle.std.specs.Prelude.{Result, Ok, Err}
use Rattle.meaning.specs.Lists.{gather}
use Rattle.meaning.specs.Bounds.{most_tasks}
use Rattle.meaning.specs.Table as Meant
use Rattle.meaning.specs.Text as Text
use Rattle.meaning.specs.Text.{readable, unreadable, read, checked}
use Rattle.meaning.specs.Slips.{LineRow, Slip, frame_in}
use Rattle.meaning.specs.Sound.{SoundTable}
use Rattle.meaning.specs.Writing.{frames_of_task, frames_of, text_of, Writing, unwritable, ruled, writing, writing_numbers, area_after}
use Rattle.meaning.specs.Rings.{Plain, task_of, text_of_forms}
use Rattle.meaning.specs.Areas.{written}
use Rattle.meaning.proofs.Readable.{row_least, read_sound}
use Rattle.meaning.proofs.Slips.{slip_refused, only_slips_ruled}
use Rattle.meaning.proofs.FramesBack.{forms_back, text_of-read}
use Rattle.meaning.proofs.TextRead.{text_plain, refused_read}
use Rattle.meaning.proofs.Rings.{expansion}
use Rattle.checks.proofs.Forms.{forms_read}
use Rattle.kinds.specs.declared.Refusal.{Refusal}
use Rattle.kinds.specs.declared.RefusedAt.{RefusedAt}
use Rattle.kinds.proofs.Numbers.{number_some, same-refusal}
use Rattle.table.specs.declared.Table.{Table}
use Rattle.table.specs.Record.{table_record, table_held}
use Rattle.table.proofs.Record.{table_held_record}
use Rattle.table.proofs.Holding.{tasks_length_lem}
use Rattle.reader.specs.Record.{Reads}
use Rattle.reader.proofs.Result.{table_read}
use Rattle.checks.proofs.Sound.{ruled_refused, ninth_ruled, counts_ruled, slip_ruled, mask_ruled, none-ruled}
use Rattle.writer.specs.Written.{Written, written_numbers, Writes}
use Rattle.writer.specs.Settled.{WriteSettled}
use Rattle.writer.specs.Demands.{ReadBack, WrittenBack, OneText, AsPlainTasks, OnlyForms, ReadAgain, WriteCall, Demands}
use Rattle.writer.proofs.Outcomes.{text_means, Outcome, fits, short, broken, outcome, sound_apart}

-- ---- answers by their numbers

number_of : {a b c d : ℕ} → a ∷ b ∷ [] ≡ c ∷ d ∷ [] → a ≡ c
number_of e = cc

value_of : {a b c d : ℕ} → a ∷ b ∷ [] ≡ c ∷ d ∷ [] → b ≡ d
value_of e = cc

pub same-written : (r s : Written) → written_numbers r ≡ written_numbers s → r ≡ s
same-written (Ok n) (Ok m) e = ap Ok (value_of e)
same-written (Ok n) (Err at) e = absurd (omega (arith, number_of e, number_some at.refusal))
same-written (Err at) (Ok m) e = absurd (omega (arith, number_of e, number_some at.refusal))
same-written (Err a) (Err b) e =
    ap₂ (λ (w : Refusal) (n : ℕ). Err (record { refusal = w; place = n })) (same-refusal a.refusal b.refusal (number_of e)) (value_of e)

pub write-settled : WriteSettled
write-settled t before r s after other p q = (same-written r s (p.answer ∙ sym q.answer), p.area ∙ sym q.area)

-- ---- a call

module _ {t : Table} {before : List ℕ} {r : Written} {after : List ℕ} (w : Writes t before r after) where
  abbrev ts : Meant.Table
  ts = table_held t

  abbrev room : ℕ
  room = length before

  gets : {k n : ℕ} → writing ts room ≡ unwritable k n → written_numbers r ≡ k ∷ n ∷ []
  gets e = w.answer ∙ ap writing_numbers e

  -- what is known of a table that was written
  pub record WrittenAs (n : ℕ) : Type 0 where
    pub sound : SoundTable ts
    pub enough : length (text_of ts) ≤ room
    pub bytes : n ≡ length (text_of ts)
    pub area : after ≡ written (text_of ts) before

  pub written_as : (n : ℕ) → r ≡ Ok n → WrittenAs n
  written_as n e = go (outcome ts room)
    where
      said : {k m : ℕ} → writing ts room ≡ unwritable k m → 0 ≡ k
      said q = number_of (ap written_numbers (sym e) ∙ gets q)

      go : Outcome ts room → WrittenAs n
      go (fits s l q) =
          record {
            sound = s;
            enough = l;
            bytes = value_of (ap written_numbers (sym e) ∙ w.answer ∙ ap writing_numbers q);
            area = w.area ∙ ap (λ (x : Writing). area_after x before) q;
          }
      go (short s l q) = absurd (omega (arith, said q))
      go (broken k m u q) = let i = ruled_refused ts k m u in absurd (omega (arith, said q, row_least (omega arith) i.0))

  front_is : (n : ℕ) → WrittenAs n → take n after ≡ text_of ts
  front_is n a =
      ap₂ (λ (k : ℕ) (l : List ℕ). take k l) a.bytes a.area
      ∙ take_at (text_of ts) (drop (length (text_of ts)) before) (length (text_of ts)) refl

  refused_as : (at : RefusedAt) → r ≡ Err at → after ≡ before
  refused_as at e = go (outcome ts room)
    where
      go : Outcome ts room → after ≡ before
      go (fits s l q) = absurd (omega (arith, number_of (ap written_numbers (sym e) ∙ w.answer ∙ ap writing_numbers q), number_some at.refusal))
      go (short s l q) = w.area ∙ ap (λ (x : Writing). area_after x before) q
      go (broken k m u q) = w.area ∙ ap (λ (x : Writing). area_after x before) q

  -- refused as the rules say
  ruled_gets : (k n : ℕ) → ruled ts ≡ unreadable k n → written_numbers r ≡ k ∷ n ∷ []
  ruled_gets k n e = go (outcome ts room)
    where
      go : Outcome ts room → written_numbers r ≡ k ∷ n ∷ []
      go (fits s l q) = sound_apart ts s e
      go (short s l q) = sound_apart ts s e
      go (broken j m u q) =
          let z : unreadable j m ≡ unreadable k n = sym u ∙ e in
          let a : j ≡ k = cc in
          let b : m ≡ n = cc in
          gets q ∙ ap₂ (λ (x y : ℕ). x ∷ y ∷ []) a b

  sound_written : SoundTable ts → length (text_of ts) ≤ room → r ≡ Ok (length (text_of ts))
  sound_written s h = go (outcome ts room)
    where
      go : Outcome ts room → r ≡ Ok (length (text_of ts))
      go (fits i l q) = same-written r (Ok (length (text_of ts))) (w.answer ∙ ap writing_numbers q)
      go (short i l q) = absurd (omega arith)
      go (broken k n u q) = sound_apart ts s u

  sound_short : SoundTable ts → room < length (text_of ts) → written_numbers r ≡ 10 ∷ length (text_of ts) ∷ []
  sound_short s h = go (outcome ts room)
    where
      go : Outcome ts room → written_numbers r ≡ 10 ∷ length (text_of ts) ∷ []
      go (fits i l q) = absurd (omega arith)
      go (short i l q) = gets q
      go (broken k n u q) = sound_apart ts s u

  broken_gets : (SoundTable ts → ⊥) → (k : ℕ) × (n : ℕ) × (written_numbers r ≡ k ∷ n ∷ []) × LineRow 2 5 k × (1 ≤ n) × (n ≤ length (frames_of ts))
  broken_gets h = go (outcome ts room)
    where
      go : Outcome ts room → (k : ℕ) × (n : ℕ) × (written_numbers r ≡ k ∷ n ∷ []) × LineRow 2 5 k × (1 ≤ n) × (n ≤ length (frames_of ts))
      go (fits i l q) = absurd (h i)
      go (short i l q) = absurd (h i)
      go (broken k n u q) = let i = ruled_refused ts k n u in (k, n, gets q, i.0, i.1, i.2)

  none-held : t.n ≡ 0 → ts ≡ []
  unfolding table_held
  none-held e = rw e

  call : WriteCall t before r after
  call =
      record {
        fits = sound_written;
        short = sound_short;
        only_sound = λ n e. (written_as n e).sound;
        front = λ n e. front_is n (written_as n e);
        never_linked = λ n e. subst Plain (sym (front_is n (written_as n e))) (text_plain ts);
        broken = broken_gets;
        same_line = λ k n l e. ruled_gets k n (refused_read ts k n l e);
        no_task = λ e. ruled_gets 2 1 (ap ruled (none-held e) ∙ none-ruled);
        ninth = λ h s. line_gets 2 most_tasks (ninth_ruled ts (omega (arith, h, tasks_length_lem t)) s);
        counts = λ i h o. line_gets 3 i (counts_ruled ts i (omega (arith, h.0, tasks_length_lem t)) h.1 h.2 o);
        slip = λ i j h b a each long.
            ruled_gets 13 _
            (slip_ruled ts i (omega (arith, h.0, tasks_length_lem t)) h.1 h.2 j a b.1 b.2 b.3 each long ∙ ap (unreadable 13) (omega arith));
        slip_only = λ n e. only_slips n e (outcome ts room);
        mask = λ i h b e m.
            ruled_gets 3 _
            (mask_ruled ts i (omega (arith, h.0, tasks_length_lem t)) h.1 h.2 b.0 b.1 b.2 b.3 e m ∙ ap (unreadable 3) (omega arith));
        unchanged = refused_as;
        rest = λ n e. rest n (written_as n e);
      }
    where
      -- 10 isn't 13, nor is a text that is written
      only_slips : (n : ℕ) → written_numbers r ≡ 13 ∷ n ∷ [] → Outcome ts room → (f : List ℕ) × (frame_in some (frames_of ts) (n - 1) ≡ some f) × Slip f
      only_slips n e (fits s l q) = absurd (omega (arith, number_of (sym (w.answer ∙ ap writing_numbers q) ∙ e)))
      only_slips n e (short s l q) = absurd (omega (arith, number_of (sym (gets q) ∙ e)))
      only_slips n e (broken k m u q) =
          let z : k ∷ m ∷ [] ≡ 13 ∷ n ∷ [] = sym (gets q) ∙ e in
          only_slips_ruled ts n (u ∙ ap₂ unreadable (number_of z) (value_of z))

      line_gets : (k i : ℕ) → ruled ts ≡ unreadable k (1 + length (gather frames_of_task (take i ts)))
          → written_numbers r ≡ k ∷ suc (length (gather frames_of_task (take i ts))) ∷ []
      line_gets k i e = ruled_gets k (suc (length (gather frames_of_task (take i ts)))) (e ∙ ap (unreadable k) (omega arith))

      rest : (n : ℕ) → WrittenAs n → (length after ≡ length before) × (drop n after ≡ drop n before)
      rest n a =
          let long = a.enough in
          let behind = drop (length (text_of ts)) before in (
            ap length a.area ∙ length-append (text_of ts) behind ∙ omega (arith, length-drop (length (text_of ts)) before),
            ap₂ (λ (k : ℕ) (l : List ℕ). drop k l) a.bytes a.area ∙ drop-append_seam (text_of ts) behind ∙ ap (λ (k : ℕ). drop k before) (sym a.bytes),
          )

-- ---- there and back

readable_record : (text : List ℕ) (ts : Meant.Table) (q : Result Table RefusedAt) → read text ≡ readable ts → Reads text q → q ≡ Ok (table_record ts)
readable_record text ts (Ok t) e r = ap Ok (r.table ∙ ap (λ (m : Text.Reading). table_record (Text.tasks_of m)) e)
readable_record text ts (Err at) e r = absurd (omega (arith, number_of (r.status ∙ ap checked e), number_some at.refusal))

read_back : ReadBack
read_back t before n after q w r =
    let a = written_as w n refl in
    let ts = table_held t in
    let means : read (take n after) ≡ readable ts = ap read (front_is w n a) ∙ text_means ts a.sound in
    (table_record ts, readable_record (take n after) ts q means r, table_held_record ts)

-- what a reading says of a readable text
means_held : (text : List ℕ) (t : Table) → Reads text (Ok t) → read text ≡ readable (table_held t)
means_held text t r = let k = table_read text (Ok t) r refl in k.means ∙ ap readable (sym (ap table_held k.is ∙ table_held_record _))

written_back : WrittenBack
written_back text t before r after plain reads room w =
    let ts = table_held t in
    let means = means_held text t reads in
    let back : text_of ts ≡ text = text_of-read text ts plain means in
    let is : r ≡ Ok (length text) = sound_written w (read_sound text ts means) (omega (arith, ap length back)) ∙ ap Ok (ap length back) in
    (is, front_is w (length text) (written_as w (length text) is) ∙ back)

one_text : OneText
one_text text other t u a b p r e =
    sym (text_of-read text (table_held t) a (means_held text t p)) ∙ ap text_of e ∙ text_of-read other (table_held u) b (means_held other u r)

-- ---- rings and gear tables

as_plain_tasks : AsPlainTasks
as_plain_tasks fs q s r =
    let ts = map task_of fs in
    (table_record ts, readable_record (text_of_forms fs) ts q (forms_read fs s) r, table_held_record ts)

only_forms : OnlyForms
only_forms text t reads = let f = forms_back text (table_held t) (means_held text t reads) in (f.forms, f.spelt, f.meant)

read_again : ReadAgain
read_again text t before r after reads room w =
    let ts = table_held t in
    let means = means_held text t reads in
    let sound = read_sound text ts means in
    let is : r ≡ Ok (length (text_of ts)) = sound_written w sound room in
    let front = front_is w (length (text_of ts)) (written_as w (length (text_of ts)) is) in
    let same : read text ≡ read (take (length (text_of ts)) after) = means ∙ sym (ap read front ∙ text_means ts sound) in (
      is,
      record {
        status = reads.status ∙ ap checked same;
        table = reads.table ∙ ap (λ (m : Text.Reading). table_record (Text.tasks_of m)) same;
      },
    )

pub demands : Demands
demands =
    record {
      record_holds = table_held_record;
      read_back = read_back;
      written_back = written_back;
      one_text = one_text;
      expansion = expansion;
      as_plain_tasks = as_plain_tasks;
      only_forms = only_forms;
      read_again = read_again;
      slips = slip_refused;
      calls = λ t before r after w. call w;
    }
