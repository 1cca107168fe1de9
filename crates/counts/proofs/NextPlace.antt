-- The next place, and that a place's numbers settle it.
use mathlib.Core.Path.{◌≡◌, ap}
use Prim.Native.Nat.{ℕ, ◌+◌, ◌≤◌, ◌<◌}
use borrow.Author.Tests.{lt-ltb, le-ltb}
use Rattle.meaning.specs.Whole as Meant
use Rattle.counts.specs.declared.places.Place.{Place}
use Rattle.counts.specs.Place.{meant_place, next_place}

abbrev pub at : ℕ → ℕ → Meant.Place
at i v = record { task = i; vertex = v }

module _ (n : ℕ) (q : Meant.Place) where
  pub next-vertex : q.vertex + 1 < n → at q.task (q.vertex + 1) ≡ next_place n q
  next-vertex h = rw (lt-ltb (q.vertex + 1) n h)

  pub next-task : n ≤ q.vertex + 1 → at (q.task + 1) 0 ≡ next_place n q
  next-task h = rw (le-ltb (q.vertex + 1) n h)

-- a place from its numbers
abbrev place_of : Meant.Place → Place
place_of q = record { task = record { 0 = q.task }; vertex = record { 0 = q.vertex } }

pub same_place : (p q : Place) → meant_place p ≡ meant_place q → p ≡ q
same_place p q e = ap place_of e
