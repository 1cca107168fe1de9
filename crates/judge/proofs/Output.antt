-- The desk's whole output: what each way to end writes.
use mathlib.Core.Path.{◌≡◌, refl, sym, ap, subst, subst₂, ◌∙◌}
use Prim.Native.Nat.{ℕ, ◌≤◌, ◌<◌}
use native.Mathlib.Omega.{arith}
use native.Mathlib.Decide.{dec_lt}
use mathlib.Core.Bool.{Bool, true, false}
use mathlib.Core.List.{List, [], ◌∷◌, map, append-nil}
use lib.ListN.{length, length-append}
use lib.Dec.{ltb}
use borrow.Author.Tests.{lt-ltb, le-ltb}
use Rattle.meaning.specs.Lists.{pick, gather}
use Rattle.meaning.specs.Bounds.{longest_input, refusal_line, longest_output}
use Rattle.meaning.specs.Table as Meant
use Rattle.meaning.specs.Text.{line, Reading, readable, unreadable, read}
use Rattle.meaning.specs.Sound.{SoundTable}
use Rattle.meaning.specs.Whole.{places, counts_of}
use Rattle.meaning.specs.Desk.{counts_frame, refusal_frame, desk_verdict, table_frames, reading_frames, frames, output}
use Rattle.meaning.proofs.Demands.{readable_sound}
use Rattle.kinds.specs.declared.RefusedAt.{RefusedAt}
use Rattle.kinds.specs.Numbers.{refusal_number}
use Rattle.table.specs.declared.Table.{Table}
use Rattle.table.specs.Inner.{table_of}
use Rattle.reader.proofs.Result.{TableRead, LineRefused}
use Rattle.meaning.specs.Areas.{Wrote}
use Rattle.meaning.proofs.TextSize.{line-length}
use Rattle.meaning.proofs.Wrote.{wrote_none, wrote_length}
use Rattle.judge.specs.Desk.{table_room, reading_room, output_room, output_into}
use Rattle.judge.specs.Settled.{OutputFits, RoomEnough, SomeOutput}
use Rattle.judge.specs.Inner.{table_output}
use Rattle.judge.proofs.Rooms.{room_most}
use Rattle.judge.proofs.DeskLines.{bytes_of, counts_bytes, table_lines, lines_fit}

module _ (text : List ℕ) where
  -- 12 is checked before all
  checked : (b : Bool) → ltb longest_input (length text) ≡ b → frames text ≡ elim b [ true ↦ refusal_frame 12 0 ∷ [] | false ↦ reading_frames (read text) ]
  checked b e = ap (λ (c : Bool). elim c [ true ↦ refusal_frame 12 0 ∷ [] | false ↦ reading_frames (read text) ]) e

  output-long : longest_input < length text → output text ≡ line (refusal_frame 12 0)
  unfolding output
  output-long h = ap (gather line) (checked true (lt-ltb longest_input (length text) h)) ∙ append-nil (line (refusal_frame 12 0))

  output-read : length text ≤ longest_input → (m : Reading) → read text ≡ m → output text ≡ gather line (reading_frames m)
  unfolding output
  output-read h m e = ap (gather line) (checked false (le-ltb longest_input (length text) h) ∙ ap reading_frames e)

  -- and so is the room for it
  room_long : longest_input < length text → output_room text ≡ refusal_line
  room_long h = ap (λ (b : Bool). elim b [ true ↦ refusal_line | false ↦ reading_room (read text) ]) (lt-ltb longest_input (length text) h)

  room_read : length text ≤ longest_input → (m : Reading) → read text ≡ m → output_room text ≡ reading_room m
  room_read h m e =
      ap (λ (b : Bool). elim b [ true ↦ refusal_line | false ↦ reading_room (read text) ]) (le-ltb longest_input (length text) h) ∙ ap reading_room e

  module _ {out after : List ℕ} {r : ℕ} where
    -- what is written where the room for it and the bytes are these
    writes : (room : ℕ) (bytes : List ℕ) → output_room text ≡ room → output text ≡ bytes
        → Wrote (pick (ltb (length out) room) [] bytes) out 0 after r → Wrote (output_into text (length out)) out 0 after r
    unfolding output_into
    writes room bytes e f w = subst₂ (λ (n : ℕ) (l : List ℕ). Wrote (pick (ltb (length out) n) [] l) out 0 after r) (sym e) (sym f) w

    pub writes_long : longest_input < length text → Wrote (pick (ltb (length out) refusal_line) [] (line (refusal_frame 12 0))) out 0 after r
        → Wrote (output_into text (length out)) out 0 after r
    writes_long h w = writes refusal_line (line (refusal_frame 12 0)) (room_long h) (output-long h) w

    module _ (short : length text ≤ longest_input) where
      pub writes_table : (t : Table) → TableRead text t
          → Wrote (pick (ltb (length out) (table_room (table_of t))) [] (table_output (table_of t))) out 0 after r
          → Wrote (output_into text (length out)) out 0 after r
      unfolding table_output
      writes_table t q w = writes (table_room (table_of t)) (table_output (table_of t)) (room_read short _ q.means) (output-read short _ q.means) w

      pub writes_refused : (at : RefusedAt) → LineRefused text at
          → Wrote (pick (ltb (length out) refusal_line) [] (line (refusal_frame (refusal_number at.refusal) at.place))) out 0 after r
          → Wrote (output_into text (length out)) out 0 after r
      writes_refused at q w =
          let f = refusal_frame (refusal_number at.refusal) at.place in
          writes refusal_line (line f) (room_read short _ q.means) (output-read short _ q.means ∙ append-nil (line f)) w

-- ---- nothing, where it might not fit, and else all of it

pub into_none : (room : ℕ) (bytes out : List ℕ) → length out < room → Wrote (pick (ltb (length out) room) [] bytes) out 0 out 0
into_none room bytes out h = subst (λ (b : Bool). Wrote (pick b [] bytes) out 0 out 0) (sym (lt-ltb (length out) room h)) (wrote_none out 0)

pub into_all : (room : ℕ) (bytes : List ℕ) {out after : List ℕ} {r : ℕ} → room ≤ length out → Wrote bytes out 0 after r
    → Wrote (pick (ltb (length out) room) [] bytes) out 0 after r
into_all room bytes {out} {after} {r} h w = subst (λ (b : Bool). Wrote (pick b [] bytes) out 0 after r) (sym (le-ltb (length out) room h)) w

-- ---- what is written fits the area

table_fits : (ts : Meant.Table) → SoundTable ts → length (gather line (table_frames ts)) ≤ table_room ts
unfolding counts_bytes
table_fits ts s =
    let both = ap length (table_lines ts) ∙ length-append (bytes_of ts (places ts)) (counts_bytes ts) in
    let last = line-length (counts_frame (counts_of (map (desk_verdict ts) (places ts)))) in
    omega (arith, both, last, lines_fit ts s)

reading_fits : (text : List ℕ) (m : Reading) → read text ≡ m → (length (gather line (reading_frames m)) ≤ reading_room m) × (reading_room m ≤ longest_output)
reading_fits text (readable ts) e = let s = readable_sound text ts e in (table_fits ts s, room_most ts s)
reading_fits text (unreadable k n) e = (omega arith, omega arith)

-- the output has room there, and there is room for that in the longest
in_room : (text : List ℕ) → (length (output text) ≤ output_room text) × (output_room text ≤ longest_output)
in_room text =
    elim (dec_lt longest_input (length text)) [
      | yes h ↦ (omega (arith, ap length (output-long text h), room_long text h), omega (arith, room_long text h))
      | no h ↦
          subst₂ (λ (l : List ℕ) (n : ℕ). (length l ≤ n) × (n ≤ longest_output)) (sym (output-read text (omega arith) (read text) refl))
          (sym (room_read text (omega arith) (read text) refl)) (reading_fits text (read text) refl)
    ]

pub room_enough : RoomEnough
room_enough text = (in_room text).1

table_some : (ts : Meant.Table) → 1 ≤ length (gather line (table_frames ts))
unfolding counts_bytes
table_some ts =
    let both = ap length (table_lines ts) ∙ length-append (bytes_of ts (places ts)) (counts_bytes ts) in
    omega (arith, both, line-length (counts_frame (counts_of (map (desk_verdict ts) (places ts)))))

reading_some : (m : Reading) → 1 ≤ length (gather line (reading_frames m))
reading_some (readable ts) = table_some ts
reading_some (unreadable k n) = omega arith

pub some_output : SomeOutput
some_output text =
    elim (dec_lt longest_input (length text)) [
      | yes h ↦ omega (arith, ap length (output-long text h))
      | no h ↦ omega (arith, ap length (output-read text (omega arith) (read text) refl), reading_some (read text))
    ]

pub output-fits : OutputFits
unfolding output_into
output-fits text n =
    elim (dec_lt n (output_room text)) [
      | yes h ↦ rw (lt-ltb n (output_room text) h) (omega arith)
      | no h ↦ rw (le-ltb n (output_room text) (omega arith)) (omega (arith, (in_room text).0))
    ]

pub output-within : (text : List ℕ) {out after : List ℕ} {r : ℕ} → Wrote (output_into text (length out)) out 0 after r → r ≤ length after
output-within text {out} w = omega (arith, w.end, wrote_length w, output-fits text (length out))
