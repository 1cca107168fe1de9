-- What the desk shows of a vertex, from its verdict and the witness area, is what `meaning` has for it.
use mathlib.Core.Path.{◌≡◌, sym, ap, ap₂, subst, ◌∙◌}
use Prim.Native.Nat.{ℕ}
use native.Mathlib.Omega.{arith}
use mathlib.Core.List.{List, [], ◌++◌, Memᴰ}
use lib.ListN.{length, drop}
use Rattle.meaning.specs.Lists.{gather}
use Rattle.meaning.specs.Bounds.{desk_budget, desk_work, desk_witness}
use Rattle.meaning.specs.Table.{Table}
use Rattle.meaning.specs.Paths.{Path}
use Rattle.meaning.specs.Verdict as Said
use Rattle.meaning.specs.Verdict.{misses, numbers, cells_of, plain}
use Rattle.meaning.specs.Areas.{witness_after}
use Rattle.meaning.specs.Judge.{judged}
use Rattle.meaning.specs.Sound.{SoundTable}
use Rattle.meaning.specs.Whole.{Place, places}
use Rattle.meaning.specs.Text.{line}
use Rattle.meaning.specs.Desk.{verdict_frame, vertex_frames, desk_verdict}
use Rattle.meaning.proofs.Whole.{place_in}
use Rattle.meaning.proofs.MissPaths.{miss_count, miss_fits}
use Rattle.kinds.specs.declared.Verdict.{Verdict}
use Rattle.kinds.specs.declared.Verdict.TheVariants.{Meets, Misses, Unfinished, Refused}
use Rattle.kinds.specs.Numbers.{verdict_numbers}
use Rattle.desk_frames.specs.Lines.{Bytes, WholePaths, WholeShown, cell_paths, path_lines, shown_lines}
use Rattle.desk_frames.proofs.PathLines.{cells_paths, cells_whole}
use Rattle.judge.specs.Inner.{Answered}
use Rattle.judge.proofs.Cases.{says_meets, says_misses, says_unfinished, says_refused}
use Rattle.judge.proofs.DeskLines.{vertex_lines}

pub record Shown (ts : Table) (q : Place) (r : Verdict) (cells : List ℕ) : Type 0 where
  pub whole : WholeShown r q.task cells
  pub lines : shown_lines q r cells ≡ vertex_lines ts q

module _ (ts : Table) (s : SoundTable ts) (q : Place) (m : Memᴰ q (places ts)) where
  abbrev x : Said.Verdict
  x = desk_verdict ts q

  -- a miss's paths stand in the area, whatever is behind them
  cells_show : (c : ℕ) (ws : List Path) (rest : List ℕ) → x ≡ misses c ws
      → WholePaths q.task (cells_of ws ++ rest) × (cell_paths q.task (cells_of ws ++ rest) ≡ ws)
  cells_show c ws rest e =
      let p = place_in ts q m in
      let many = miss_count ts s q.task q.vertex p.0 p.1 plain desk_budget desk_work desk_witness c ws e in
      let fits = miss_fits ts s q.task q.vertex p.0 p.1 plain desk_budget desk_work desk_witness c ws e in
      let small : (w : Path) → Memᴰ w ws → Bytes w = λ w n j. omega (arith, (fits w n).vertices j) in (
        subst (λ (h : ℕ). WholePaths h (cells_of ws ++ rest)) many (cells_whole ws rest small),
        ap (λ (h : ℕ). cell_paths h (cells_of ws ++ rest)) (sym many) ∙ cells_paths ws rest,
      )

  -- the lines of the verdict that is said
  lines_said : {y : Said.Verdict} → x ≡ y → gather line (vertex_frames q y) ≡ vertex_lines ts q
  unfolding vertex_lines
  lines_said e = ap (λ (z : Said.Verdict). gather line (vertex_frames q z)) (sym e)

  shows : (r : Verdict) (wit wit' : List ℕ) → verdict_numbers r ≡ numbers x → wit' ≡ witness_after [] x wit → Shown ts q r wit'
  unfolding shown_lines
  shows (Meets c) wit wit' e w = record { whole = tt; lines = lines_said (says_meets x c e) }
  shows (Misses c n) wit wit' e w =
      let p = says_misses x c n e in
      let rest = drop (length (cells_of p.0)) wit in
      let is : wit' ≡ cells_of p.0 ++ rest = w ∙ ap (λ (y : Said.Verdict). witness_after [] y wit) p.1 in
      let show = cells_show c p.0 rest p.1 in
      record {
        whole = subst (WholePaths q.task) (sym is) show.0;
        lines = ap (λ (ws : List Path). line (verdict_frame q 1 c) ++ path_lines 0 ws) (ap (cell_paths q.task) is ∙ show.1) ∙ lines_said p.1;
      }
  shows (Unfinished n) wit wit' e w = record { whole = tt; lines = lines_said (says_unfinished x n e) }
  shows (Refused at) wit wit' e w = record { whole = tt; lines = lines_said (says_refused x at e) }

  pub vertex-shown : {work wit work' wit' : List ℕ} {need : ℕ} {r : Verdict} → length work ≡ desk_work → length wit ≡ desk_witness
      → Answered (judged plain ts q.task q.vertex desk_budget (length work) (length wit)) [] need work wit r work' wit' → Shown ts q r wit'
  vertex-shown {work} {wit} {wit' = wit'} {r = r} a b j =
      let is = ap₂ (judged plain ts q.task q.vertex desk_budget) a b in
      shows r wit wit' (j.verdict ∙ ap numbers is) (j.paths ∙ ap (λ (y : Said.Verdict). witness_after [] y wit) is)
