-- What the tests of a frame's numbers say.
use mathlib.Core.Path.{◌≡◌, refl, sym}
use Prim.Native.Nat.{ℕ, ◌≤◌, ◌<◌}
use native.Mathlib.Omega.{arith}
use mathlib.Core.Bool.{Bool, true, false, ◌&&◌}
use lib.Dec.{leb, ltb}
use borrow.Author.Tests.{ltb-true, leb-true}
use Rattle.meaning.specs.Bounds.{most_vertices, most_edges, largest_e, largest_d, largest_p, largest_m}
use Rattle.meaning.specs.Text.{within}
use Rattle.rules.specs.Rules.{task_in, vertex_in, edge_in, link_in}

pub differ : {A : Type 0} → true ≡ false → A
differ g = absurd (let k : ◌≡◌ {A = ℕ} 0 1 = cc in omega arith)

pub both_true : (a b : Bool) → a && b ≡ true → (a ≡ true) × (b ≡ true)
both_true true b e = (refl, e)
both_true false b e = differ (sym e)

pub within_bounds : (low high n : ℕ) → within low high n ≡ true → (low ≤ n) × (n ≤ high)
within_bounds low high n h =
    let b = both_true (leb low n) (leb n high) h in
    (leb-true _ _ b.0, leb-true _ _ b.1)

-- ---- each frame

pub record TaskBounds (v e least m : ℕ) : Type 0 where
  pub some : 1 ≤ v
  pub v_in : v ≤ most_vertices
  pub e_in : e ≤ most_edges
  pub m_from : least ≤ m
  pub m_in : m ≤ largest_m

pub task_bounds : (v e least m : ℕ) → task_in v e least m ≡ true → TaskBounds v e least m
unfolding task_in
task_bounds v e least m h =
    let o = both_true (within 1 most_vertices v && leb e most_edges) (within least largest_m m) h in
    let a = both_true (within 1 most_vertices v) (leb e most_edges) o.0 in
    let b = within_bounds 1 most_vertices v a.0 in
    let c = within_bounds least largest_m m o.1 in
    record { some = b.0; v_in = b.1; e_in = leb-true _ _ a.1; m_from = c.0; m_in = c.1 }

pub record VertexBounds (e d : ℕ) : Type 0 where
  pub some_e : 1 ≤ e
  pub e_in : e ≤ largest_e
  pub some_d : 1 ≤ d
  pub d_in : d ≤ largest_d

pub vertex_bounds : (e d : ℕ) → vertex_in e d ≡ true → VertexBounds e d
unfolding vertex_in
vertex_bounds e d h =
    let a = both_true (within 1 largest_e e) (within 1 largest_d d) h in
    let b = within_bounds 1 largest_e e a.0 in
    let c = within_bounds 1 largest_d d a.1 in
    record { some_e = b.0; e_in = b.1; some_d = c.0; d_in = c.1 }

pub record EdgeBounds (n from to p : ℕ) : Type 0 where
  pub from_in : from < n
  pub to_in : to < n
  pub some_p : 1 ≤ p
  pub p_in : p ≤ largest_p

pub edge_bounds : (n from to p : ℕ) → edge_in n from to p ≡ true → EdgeBounds n from to p
unfolding edge_in
edge_bounds n from to p h =
    let a = both_true (ltb from n && ltb to n) (within 1 largest_p p) h in
    let b = both_true (ltb from n) (ltb to n) a.0 in
    let c = within_bounds 1 largest_p p a.1 in
    record { from_in = ltb-true _ _ b.0; to_in = ltb-true _ _ b.1; some_p = c.0; p_in = c.1 }

pub record LinkBounds (e d p : ℕ) : Type 0 where
  pub vertex : VertexBounds e d
  pub some_p : 1 ≤ p
  pub p_in : p ≤ largest_p

pub link_bounds : (e d p : ℕ) → link_in e d p ≡ true → LinkBounds e d p
unfolding link_in vertex_in
link_bounds e d p h =
    let a = both_true (vertex_in e d) (within 1 largest_p p) h in
    let c = within_bounds 1 largest_p p a.1 in
    record { vertex = vertex_bounds e d a.0; some_p = c.0; p_in = c.1 }
