-- A vertex's lines: its verdict's, and after a miss those of the paths.
use mathlib.Core.Path.{◌≡◌, refl, sym, ap, ◌∙◌}
use Prim.Native.Nat.{ℕ, ◌+◌, ◌/◌, ◌%◌, ◌≤◌}
use native.Mathlib.Omega.{arith}
use mathlib.Core.List.{List, [], ◌∷◌, ◌++◌, append-nil}
use lib.ListN.{length, get_or, length-append}
use Rattle.std.specs.Int.{w32, to_be_bytes}
use Rattle.meaning.specs.Bounds.{verdict_line}
use Rattle.meaning.specs.Paths.{Path}
use Rattle.meaning.specs.Whole.{Place}
use Rattle.meaning.specs.Desk.{four, verdict_frame}
use Rattle.meaning.proofs.TextSize.{line-length}
use Rattle.kinds.specs.declared.Verdict.{Verdict}
use Rattle.kinds.specs.declared.Verdict.TheVariants.{Meets, Misses, Unfinished, Refused}
use Rattle.kinds.specs.Numbers.{verdict_numbers}
use Rattle.put.specs.declared.Pen.{Pen}
use Rattle.put.specs.Pens.{Penned}
use Rattle.put.proofs.Pens.{penned_then, penned_as, penned_length, penned_end}
use Rattle.desk_frames.specs.Lines.{cell_paths, path_lines, shown_paths, shown_verdict, shown_lines}

-- the code's four bytes of a number are the definition's
pub four_bytes : (n : ℕ) → to_be_bytes w32 n ≡ four n
four_bytes n =
    let e : n / 16777216 % 256 ≡ n / 65536 / 256 % 256 = omega arith in
    ap (λ (high : ℕ). high ∷ n / 65536 % 256 ∷ n / 256 % 256 ∷ n % 256 ∷ []) e

-- no other verdict has paths
pub shown_none : (r : Verdict) (h : ℕ) (cs : List ℕ) → ((c n : ℕ) → r ≡ Misses c n → ⊥) → shown_paths r h cs ≡ []
shown_none (Meets c) h cs none = refl
shown_none (Misses c n) h cs none = absurd (none c n refl)
shown_none (Unfinished b) h cs none = refl
shown_none (Refused at) h cs none = refl

module _ (q : Place) (r : Verdict) (cs : List ℕ) where
  verdict_length : length (shown_verdict q r) ≡ verdict_line
  verdict_length = line-length (verdict_frame q (get_or (verdict_numbers r) 0 0) (get_or (verdict_numbers r) 1 0))

  shown_is : {ws : List Path} → shown_paths r q.task cs ≡ ws → shown_lines q r cs ≡ shown_verdict q r ++ path_lines 0 ws
  unfolding shown_lines
  shown_is e = ap (λ (ws : List Path). shown_verdict q r ++ path_lines 0 ws) e

  shown-length : {ws : List Path} → shown_paths r q.task cs ≡ ws → length (shown_lines q r cs) ≡ length (shown_verdict q r) + length (path_lines 0 ws)
  shown-length {ws} e = ap length (shown_is e) ∙ length-append (shown_verdict q r) (path_lines 0 ws)

  -- room for all of it is room for the verdict
  pub verdict_asks : (at n : ℕ) → at + length (shown_lines q r cs) ≤ n → at + verdict_line ≤ n
  verdict_asks at n h = omega (arith, h, verdict_length, shown-length refl)

  pub shown-alone : {p o : Pen} → Penned (shown_verdict q r) p o → shown_paths r q.task cs ≡ [] → Penned (shown_lines q r cs) p o
  shown-alone a e = penned_as (sym (shown_is e ∙ append-nil (shown_verdict q r))) a

  module _ (p : Pen) {o : Pen} (a : Penned (shown_verdict q r) p o) (shows : shown_paths r q.task cs ≡ cell_paths q.task cs) where
    pub paths_ask : p.at + length (shown_lines q r cs) ≤ length p.out.now → o.at + length (path_lines 0 (cell_paths q.task cs)) ≤ length o.out.now
    paths_ask room = omega (arith, room, penned_end a, penned_length a, shown-length shows)

    pub shown-all : {s : Pen} → Penned (path_lines 0 (cell_paths q.task cs)) o s → Penned (shown_lines q r cs) p s
    shown-all b = penned_as (sym (shown_is shows)) (penned_then (shown_verdict q r) (path_lines 0 (cell_paths q.task cs)) a b)
