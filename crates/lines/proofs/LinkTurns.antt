-- One turn of the loop over the lines of a ring's or a gear table's vertices, and where a vertex leads.
use mathlib.Core.Path.{◌≡◌, refl, sym, ap, ◌∙◌}
use Prim.Native.Nat.{ℕ, suc, ◌+◌, ◌-◌, ◌*◌, ◌≤◌, ◌<◌}
use native.Mathlib.Omega.{arith}
use mathlib.Core.List.{List}
use lib.ListN.{length, drop, set, replicate, length-drop}
use lib.Seq.{drop-drop}
use borrow.Author.Tests.{lt-ltb, le-ltb}
use Rattle.meaning.specs.Bounds.{most_vertices, most_edges}
use Rattle.meaning.proofs.FramesKeep.{ring_leads}
use Rattle.kinds.specs.declared.Refusal.{Refusal}
use Rattle.table.specs.declared.Vertex.{Vertex}
use Rattle.table.specs.declared.Edge.{Edge}
use Rattle.table.specs.Record.{task_cells, no_vertex, no_edge}
use Rattle.table.specs.Inner.{ticks, edge_cells}
use Rattle.frames.specs.declared.Form.{Form}
use Rattle.frames.specs.declared.Form.TheVariants.{Plain, Ring, Gears}
use Rattle.frames.specs.declared.Head.{Head}
use Rattle.std.specs.Prelude.{Result, Ok, Err}
use Rattle.frames.specs.declared.Link.{Link}
use Rattle.frames.specs.Frames.{link_bytes, form_to, link_line}
use Rattle.lines.specs.Parts.{behind, took_task, plain_lines, links_on, link_lines, form_lines, task_lines}
use Rattle.frames.proofs.LinkRead.{link-long}
use Rattle.lines.specs.declared.Stopped.{Stopped}
use Rattle.lines.proofs.Gives.{was_taken}
use Rattle.lines.proofs.Turns.{lent, lent-drop}

-- ---- where a vertex leads

pub to_itself : (o : Form) (n i : ℕ) → (o ≡ Ring → ⊥) → i ≡ form_to o n i
to_itself Plain n i h = refl
to_itself Ring n i h = absurd (h refl)
to_itself Gears n i h = refl

pub to_next : {o : Form} (n i : ℕ) → o ≡ Ring → i + 1 < n → i + 1 ≡ form_to o n i
to_next n i q h =
    let next : i + 1 ≡ suc i = omega arith in
    rw (q, lt-ltb (suc i) n (omega arith)) next

pub to_first : {o : Form} (n i : ℕ) → o ≡ Ring → n ≤ i + 1 → 0 ≡ form_to o n i
to_first n i q h = rw (q, le-ltb (suc i) n (omega arith))

pub to_in : (o : Form) (n i : ℕ) → i < n → form_to o n i < n
to_in Plain n i h = h
to_in Ring n i h = ring_leads n i h
to_in Gears n i h = h

-- ---- by the task's own line

pub plain_lines_lem : (h : Head) (t : List ℕ) → h.form ≡ Plain → plain_lines h.v h.e h.m t ≡ task_lines h t
plain_lines_lem h t q = rw q

pub linked_lines : (h : Head) (t : List ℕ) → (h.form ≡ Plain → ⊥) → link_lines (form_to h.form h.v) h.v t ≡ task_lines h t
linked_lines h t q = go h.form q
  where
    go : (o : Form) → (o ≡ Plain → ⊥) → link_lines (form_to o h.v) h.v t ≡ form_lines o h.v h.e h.m t
    go Plain r = absurd (r refl)
    go Ring r = refl
    go Gears r = refl

-- ---- the loop

-- the line behind i of fifteen bytes, from a place on
abbrev pub link_at : ℕ → ℕ → ℕ
link_at from i = from + i * link_bytes

link_next : (s : List ℕ) (from i : ℕ) → drop link_bytes (drop (link_at from i) s) ≡ drop (link_at from (i + 1)) s
link_next s from i =
    let o : link_at from i + link_bytes ≡ link_at from (i + 1) = omega arith in
    drop-drop link_bytes (link_at from i) s ∙ ap (λ (z : ℕ). drop z s) o

-- before a turn: i of n vertices are taken, and going on from here gives them all
pub record LinkTurn (s : List ℕ) (from : ℕ) (to : ℕ → ℕ) (n : ℕ) (vs : List Vertex) (es : List Edge) (i : ℕ) : Type 0 where
  pub few : i ≤ n
  pub inside : link_at from i ≤ length s
  pub going : links_on to i vs es (n - i) (drop (link_at from i) s) ≡ link_lines to n (drop from s)

pub links_first : (s : List ℕ) (from : ℕ) (to : ℕ → ℕ) (n : ℕ) (v : Vertex) (e : Edge) → from ≤ length s → v ≡ no_vertex → e ≡ no_edge
    → LinkTurn s from to n (replicate most_vertices v) (replicate most_edges e) 0
links_first s from to n v e h p q =
    let o : n - 0 ≡ n = omega arith in
    let z : link_at from 0 ≡ from = omega arith in
    record { few = omega arith; inside = omega arith; going = rw (p, q, o, z) }

module _ {s : List ℕ} {from : ℕ} {to : ℕ → ℕ} {n : ℕ} {vs : List Vertex} {es : List Edge} {i : ℕ} (turn : LinkTurn s from to n vs es i) where
  pub links_end : n ≤ i → Ok (took_task n (n * link_bytes) (task_cells (ticks 0) n n vs es)) ≡ link_lines to n (drop from s)
  unfolding links_on
  links_end h =
      let o : n - i ≡ 0 = omega arith in
      let all : n ≡ i = omega (arith, turn.few) in
      ap (λ (k : ℕ). Ok (took_task k (k * link_bytes) (task_cells (ticks 0) k k vs es))) all ∙ rw (← turn.going, o)

  -- the line gives g
  module _ {g : Result Link Refusal} (more : i < n) (gives : g ≡ link_line (lent s (link_at from i))) where
    link_here : link_line (drop (link_at from i) s) ≡ g
    link_here = sym (gives ∙ ap link_line (lent-drop s (link_at from i)))

    one_link : n - i ≡ suc (n - (i + 1))
    one_link = omega arith

    pub links_stop : {w : Stopped} → Err w ≡ behind i g → Err w ≡ link_lines to n (drop from s)
    unfolding links_on
    links_stop q = rw (← turn.going, one_link, link_here, ← q)

    pub links_more : {x : Link} {y : Edge} → Ok x ≡ behind i g → y ≡ edge_cells i (to i) x.p.0
        → LinkTurn s from to n (set vs i x.vertex) (set es i y) (i + 1)
    unfolding links_on
    links_more {x} {y} q e =
        let same : links_on to (i + 1) (set vs i x.vertex) (set es i y) (n - (i + 1)) (drop (link_at from (i + 1)) s)
        ≡ links_on to i vs es (n - i) (drop (link_at from i) s) = rw (e, one_link, link_here, ← q, link_next s from i) in
        let long = link-long (drop (link_at from i) s) x (link_here ∙ was_taken i g (sym q)) in
        record { few = omega arith; inside = omega (arith, long, length-drop (link_at from i) s); going = same ∙ turn.going }
