-- One line read, as document 01 reads it.
use mathlib.Core.Path.{◌≡◌, ap, ◌∙◌}
use Prim.Native.Nat.{ℕ, ◌+◌, ◌*◌}
use mathlib.Core.Option.{Option, none}
use mathlib.Core.List.{List, ◌∷◌}
use Rattle.std.specs.Prelude.{Result, Ok, Err}
use Rattle.kinds.specs.declared.Refusal.{Refusal}
use Rattle.kinds.specs.Numbers.{refusal_number}
use Rattle.meaning.specs.Text.{Line, lines_of, Begun, framed, step_at, Reading, unreadable, read_from}
use Rattle.meaning.proofs.Readable.{read_step, step_read}
use Rattle.digits.specs.Digits.{worth_of, frame_at}
use Rattle.digits.proofs.Spelled.{non_empty, Spelled, pair, frame_right, head_of, tail_of, some_lines, first_frame, tail_right}

-- what becomes of the reading at line n with what its frame gives
abbrev pub gives : {A : Type 0} → Result A Refusal → ℕ → (A → Reading) → Reading
gives (Ok x) n go = go x
gives (Err w) n go = unreadable (refusal_number w) n

line_read : (s : Begun) (n a : ℕ) (t : List ℕ)
    → read_from s n (lines_of (a ∷ t)) ≡ read_step (step_at s (non_empty (frame_at (a ∷ t)))) n (tail_of (lines_of (a ∷ t)))
line_read s n a t =
    let ls = lines_of (a ∷ t) in
    ap (read_from s n) (some_lines a t)
    ∙ step_read s n (head_of ls) (tail_of ls)
    ∙ ap (λ (o : Option (List ℕ)). read_step (step_at s o) n (tail_of ls)) (first_frame a t)

-- a right line of at least one byte
pub right-read : (s : Begun) (n : ℕ) {t f r : List ℕ} {b : ℕ} → Spelled t (b ∷ f) r
    → read_from s n (lines_of t) ≡ read_step (framed s s.want_v s.want_e (b ∷ f)) n (lines_of r)
right-read s n (pair {h} {l} {t} {f} {r} p q z) =
    line_read s n h (l ∷ t)
    ∙ ap (λ (o : Option (List ℕ)). read_step (step_at s (non_empty o)) n (tail_of (lines_of (h ∷ l ∷ t)))) (frame_right (pair p q z))
    ∙ ap (λ (ls : List Line). read_step (framed s s.want_v s.want_e ((worth_of h * 16 + worth_of l) ∷ f)) n ls) (tail_right (pair p q z))

pub broken_read : (s : Begun) (n a : ℕ) (t : List ℕ) → non_empty (frame_at (a ∷ t)) ≡ none → read_from s n (lines_of (a ∷ t)) ≡ unreadable 1 n
broken_read s n a t e = line_read s n a t ∙ ap (λ (o : Option (List ℕ)). read_step (step_at s o) n (tail_of (lines_of (a ∷ t)))) e
