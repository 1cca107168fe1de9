-- The paths that cells hold, line by line.
use mathlib.Core.Path.{◌≡◌, refl, sym, ap, ap₂, subst, ◌∙◌}
use Prim.Native.Nat.{ℕ, suc, ◌+◌, ◌-◌, ◌%◌, ◌≤◌, ◌<◌}
use native.Mathlib.Omega.{arith}
use native.Mathlib.Numerals.{add-one}
use mathlib.Core.List.{List, [], ◌∷◌, ◌++◌, append_assoc, append-nil, Memᴰ}
use lib.ListN.{length, take, drop, get_or, length-append}
use lib.Seq.{take-append_seam, drop-append_seam}
use Rattle.meaning.specs.Bounds.{path_line}
use Rattle.meaning.specs.Paths.{Path}
use Rattle.meaning.specs.Verdict.{cells_of}
use Rattle.meaning.specs.Lists.{gather}
use Rattle.meaning.specs.Text.{digits, line, line_feed}
use Rattle.meaning.specs.Desk.{two, path_frame}
use Rattle.meaning.proofs.TextSize.{line-length}
use Rattle.meaning.proofs.Wrote.{wrote_none}
use Rattle.put.specs.declared.Pen.{Pen}
use Rattle.put.specs.Pens.{Penned}
use Rattle.put.proofs.Lines.{low_size}
use Rattle.put.proofs.Pens.{penned_then, penned_as, penned_length, penned_end}
use Rattle.desk_frames.specs.Lines.{Bytes, cell_paths, path_lines, WholePaths}

-- ---- a path's frame: its head, then its vertices

-- vertices that fit a byte are their own low bytes
low_vertices : (w : Path) → Bytes w → gather (λ (x : ℕ). digits (x % 256)) w ≡ gather digits w
low_vertices [] h = refl
low_vertices (x ∷ w) h =
    let e : x % 256 ≡ x = omega (arith, h 0) in
    ap₂ (λ (y : ℕ) (l : List ℕ). digits y ++ l) e (low_vertices w (λ i. h (suc i)))

-- 12, task, length
abbrev pub path_head : ℕ → ℕ → List ℕ
path_head i n = 18 ∷ i ∷ two n

module _ (i : ℕ) (w : Path) {p q r : Pen} (a : Penned (gather digits (path_head i (length w))) p q)
    (b : Penned (gather (λ (x : ℕ). digits (x % 256)) w) q r) where
  pub feed_asks : p.at + path_line (length w) ≤ length p.out.now → r.at < length r.out.now
  feed_asks room = omega (arith, room, penned_end a, penned_length a, penned_end b, penned_length b, low_size (λ (x : ℕ). x % 256) w)

  pub path_put : Bytes w → {s : Pen} → Penned (line_feed ∷ []) r s → Penned (line (path_frame i w)) p s
  path_put h c =
      penned_then (gather digits (path_frame i w)) (line_feed ∷ [])
      (penned_then (gather digits (path_head i (length w))) (gather digits w) a (penned_as (low_vertices w h) b)) c

-- ---- the next path of the cells that are left

pub some_path_lem : (n : ℕ) (rest : List ℕ) → WholePaths (suc n) rest → rest ≡ get_or rest 0 0 ∷ drop 1 rest
some_path_lem n [] w = absurd w
some_path_lem n (m ∷ cs) w = refl

-- ---- after i of h paths

pub record Pathing (h : ℕ) (cells : List ℕ) (before now : Pen) (rest : List ℕ) (i : ℕ) : Type 0 where
  pub rests : WholePaths (h - i) rest
  pub done : List ℕ
  pub penned : Penned done before now
  pub whole : path_lines 0 (cell_paths h cells) ≡ done ++ path_lines i (cell_paths (h - i) rest)
  pub room : before.at + length (path_lines 0 (cell_paths h cells)) ≤ length before.out.now

pub pathing_none : (h : ℕ) (cells : List ℕ) (p : Pen) → WholePaths h cells → p.at + length (path_lines 0 (cell_paths h cells)) ≤ length p.out.now
    → Pathing h cells p p cells 0
pathing_none h cells p w r =
    let e : h ≡ h - 0 = omega arith in
    record {
      rests = subst (λ (n : ℕ). WholePaths n cells) e w;
      done = [];
      penned = record { same_area = refl; wrote = wrote_none p.out.now p.at };
      whole = ap (λ (n : ℕ). path_lines 0 (cell_paths n cells)) e;
      room = r;
    }

module _ {h : ℕ} {cells : List ℕ} {before now : Pen} {rest : List ℕ} {i : ℕ} (p : Pathing h cells before now rest i) (l : i < h) where
  -- so many are left behind this one
  abbrev left : ℕ
  left = h - (i + 1)

  one : h - i ≡ suc left
  one = omega arith

  held : WholePaths (suc left) rest
  held = subst (λ (n : ℕ). WholePaths n rest) one p.rests

  opened : rest ≡ get_or rest 0 0 ∷ drop 1 rest
  opened = some_path_lem left rest held

  pub inside : 0 < length rest
  inside = omega (arith, ap length opened)

  module _ (m : ℕ) (e : m ≡ get_or rest 0 0) (tail : List ℕ) (t : tail ≡ drop 1 rest) where
    abbrev own : Path
    own = take m tail

    abbrev behind : List ℕ
    behind = drop m tail

    cut : rest ≡ m ∷ tail
    cut = opened ∙ ap₂ (λ (n : ℕ) (ns : List ℕ). n ∷ ns) (sym e) (sym t)

    next : WholePaths (suc left) (m ∷ tail)
    next = subst (WholePaths (suc left)) cut held

    pub ahead : m ≤ length tail
    ahead = next.0.0

    splits : path_lines 0 (cell_paths h cells) ≡ (p.done ++ line (path_frame i own)) ++ path_lines (i + 1) (cell_paths left behind)
    splits =
        p.whole
        ∙ ap (λ (ws : List Path). p.done ++ path_lines i ws) (ap (λ (n : ℕ). cell_paths n rest) one ∙ ap (cell_paths (suc left)) cut)
        ∙ ap (λ (n : ℕ). p.done ++ (line (path_frame i own) ++ path_lines n (cell_paths left behind))) (sym (add-one i))
        ∙ sym (append_assoc p.done (line (path_frame i own)) (path_lines (i + 1) (cell_paths left behind)))

    -- the line and what follows it have room
    fits : length p.done + path_line (length own) ≤ length (path_lines 0 (cell_paths h cells))
    fits =
        rw (
          splits,
          length-append (p.done ++ line (path_frame i own)) (path_lines (i + 1) (cell_paths left behind)),
          length-append p.done (line (path_frame i own)),
        )
        (omega (arith, line-length (path_frame i own)))

    pub path_asks : (now.at + path_line (length own) ≤ length now.out.now) × Bytes own
    path_asks = (omega (arith, fits, p.room, penned_end p.penned, penned_length p.penned), next.0.1)

    pub pathing_more : {after : Pen} (to : List ℕ) → to ≡ behind → Penned (line (path_frame i own)) now after → Pathing h cells before after to (i + 1)
    pathing_more {after} to q w =
        subst (λ (cs : List ℕ). Pathing h cells before after cs (i + 1)) (sym q)
        (record {
          rests = next.1;
          done = p.done ++ line (path_frame i own);
          penned = penned_then p.done (line (path_frame i own)) p.penned w;
          whole = splits;
          room = p.room;
        })

pub pathing_all : {h : ℕ} {cells : List ℕ} {before now : Pen} {rest : List ℕ} {i : ℕ} → Pathing h cells before now rest i → h ≤ i
    → Penned (path_lines 0 (cell_paths h cells)) before now
pathing_all {h} {rest = rest} {i = i} p l =
    let none : h - i ≡ 0 = omega arith in
    penned_as (sym (p.whole ∙ ap (λ (n : ℕ). p.done ++ path_lines i (cell_paths n rest)) none ∙ append-nil p.done)) p.penned

-- ---- the cells of a miss hold its paths

pub cells_paths : (ws : List Path) (rest : List ℕ) → cell_paths (length ws) (cells_of ws ++ rest) ≡ ws
cells_paths [] rest = refl
cells_paths (w ∷ ws) rest =
    let cells = cells_of ws ++ rest in
    rw (append_assoc w (cells_of ws) rest)
    (ap₂ (λ (p : Path) (ps : List Path). p ∷ ps) (take-append_seam w cells) (ap (cell_paths (length ws)) (drop-append_seam w cells) ∙ cells_paths ws rest))

pub cells_whole : (ws : List Path) (rest : List ℕ) → ((w : Path) → Memᴰ w ws → Bytes w) → WholePaths (length ws) (cells_of ws ++ rest)
cells_whole [] rest s = tt
cells_whole (w ∷ ws) rest s =
    let cells = cells_of ws ++ rest in
    rw (append_assoc w (cells_of ws) rest) (
      (omega (arith, length-append w cells), subst Bytes (sym (take-append_seam w cells)) (s w (Memᴰ.head refl))),
      subst (WholePaths (length ws)) (sym (drop-append_seam w cells)) (cells_whole ws rest (λ v m. s v (Memᴰ.tail m))),
    )
