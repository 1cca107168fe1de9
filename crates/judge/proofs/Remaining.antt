-- The vertices of a table from a place on.
use mathlib.Core.Path.{◌≡◌, refl, sym, ap, ap₂, subst, ◌∙◌}
use Prim.Native.Nat.{ℕ, suc, ◌+◌, ◌-◌, ◌≤◌, ◌<◌}
use native.Mathlib.Nat.{sub-zero}
use native.Mathlib.Numerals.{add-one}
use native.Mathlib.Omega.{arith}
use native.Mathlib.Decide.{dec_lt}
use mathlib.Core.List.{List, [], ◌∷◌, ◌++◌, map}
use lib.ListN.{length, drop, drop_of_length-le, get_or-eq_default}
use lib.Seq.{drop-cons}
use Rattle.meaning.specs.Lists.{count_from}
use Rattle.meaning.specs.Table.{Task, Table, no_task, task_at}
use Rattle.meaning.specs.Sound.{SoundTable}
use Rattle.meaning.specs.Whole.{Place, places_from, places}
use Rattle.meaning.proofs.Lists.{mem_get_or}
use Rattle.table.specs.declared.Table as Record
use Rattle.table.specs.Inner.{table_of, Held}
use Rattle.table.proofs.Records.{held_count, held_few}
use Rattle.table.proofs.Vertices.{own_task, own_size, own_few}
use Rattle.counts.specs.Place.{first_place, next_place, Within}
use Rattle.judge.specs.Places.{size, next_in, remaining, Reached}
use Rattle.counts.proofs.NextPlace.{at, next-vertex, next-task}

pub remaining-first : (ts : Table) → remaining ts first_place ≡ places ts
remaining-first [] = refl
remaining-first (k ∷ ks) = rw (sub-zero (length k.vertices))

pub remaining-none : (ts : Table) (q : Place) → length ts ≤ q.task → remaining ts q ≡ []
remaining-none ts q h =
    let none : size ts q.task ≡ 0 = ap (λ (k : Task). length k.vertices) (get_or-eq_default ts no_task h) in
    let own : size ts q.task - q.vertex ≡ 0 = omega arith in
    let rest : drop (suc q.task) ts ≡ [] = drop_of_length-le ts {i = suc q.task} (omega arith) in
    ap₂ (λ (n : ℕ) (ks : List Task). map (at q.task) (count_from q.vertex n) ++ places_from (suc q.task) ks) own rest

-- the tasks from a number on
from_task : (ts : Table) (i : ℕ) → remaining ts (at i 0) ≡ places_from i (drop i ts)
from_task ts i =
    elim (dec_lt i (length ts)) [
      | yes h ↦
          ap (λ (n : ℕ). map (at i) (count_from 0 n) ++ places_from (suc i) (drop (suc i) ts)) (sub-zero (size ts i))
          ∙ sym (ap (places_from i) (drop-cons ts i no_task h))
      | no h ↦ remaining-none ts (at i 0) (omega arith) ∙ sym (ap (places_from i) (drop_of_length-le ts {i = i} (omega arith)))
    ]

pub remaining-next : (ts : Table) (q : Place) → q.vertex < size ts q.task → remaining ts q ≡ q ∷ remaining ts (next_in ts q)
remaining-next ts q h = elim (dec_lt (v + 1) (size ts i)) [ yes l ↦ within l | no l ↦ last (omega arith) ]
  where
    i : ℕ
    i = q.task

    v : ℕ
    v = q.vertex

    rest : List Place
    rest = places_from (suc i) (drop (suc i) ts)

    within : v + 1 < size ts i → remaining ts q ≡ q ∷ remaining ts (next_in ts q)
    within l =
        let e : size ts i - v ≡ suc (size ts i - (v + 1)) = omega arith in
        ap (λ (n : ℕ). map (at i) (count_from v n) ++ rest) e ∙ ap (λ (n : ℕ). q ∷ (map (at i) (count_from n (size ts i - (v + 1))) ++ rest)) (sym (add-one v))
        ∙ ap (λ (p : Place). q ∷ remaining ts p) (next-vertex (size ts q.task) q l)

    last : size ts i ≤ v + 1 → remaining ts q ≡ q ∷ remaining ts (next_in ts q)
    last l =
        let e : size ts i - v ≡ 1 = omega (arith, h) in
        ap (λ (n : ℕ). map (at i) (count_from v n) ++ rest) e ∙ ap (λ (ps : List Place). q ∷ ps) (sym (from_task ts (suc i)))
        ∙ ap (λ (n : ℕ). q ∷ remaining ts (at n 0)) (sym (add-one i)) ∙ ap (λ (p : Place). q ∷ remaining ts p) (next-task (size ts q.task) q l)

-- ---- a loop has come to a place

some_vertex_lem : (ts : Table) → SoundTable ts → (i : ℕ) → i < length ts → 0 < size ts i
some_vertex_lem ts s i h = omega (arith, (s.each_task (task_at ts i) (mem_get_or no_task ts i h)).some_vertex)

pub reached_first : (t : Record.Table) → Held t → Reached t first_place
reached_first t k = record { held = k; task = omega arith; vertex = some_vertex_lem (table_of t) k.sound 0 }

module _ {t : Record.Table} {q : Place} (r : Reached t q) where
  abbrev ts : Table
  ts = table_of t

  pub reached_end : t.n ≤ q.task → remaining ts q ≡ []
  reached_end h = remaining-none ts q (omega (arith, held_count t r.held))

  module _ (h : q.task < t.n) where
    inside : q.vertex < size ts q.task
    inside = r.vertex (omega (arith, held_count t r.held))

    -- its numbers are small
    pub reached_within : Within q
    reached_within =
        let own = own_size t r.held q.task h in
        record { task = omega (arith, held_few t r.held); vertex = omega (arith, (own_few t r.held q.task h).0, own, inside) }

    -- the record's number of vertices is the task's
    next_is : {p : Place} → p ≡ next_place (own_task t q.task).nv q → p ≡ next_in ts q
    next_is e = e ∙ ap (λ (n : ℕ). next_place n q) (own_size t r.held q.task h)

    pub reached_turn : {p : Place} → p ≡ next_place (own_task t q.task).nv q → remaining ts q ≡ q ∷ remaining ts p
    reached_turn e = remaining-next ts q inside ∙ ap (λ (p : Place). q ∷ remaining ts p) (sym (next_is e))

    next_reached : Reached t (next_in ts q)
    next_reached =
        elim (dec_lt (q.vertex + 1) (size ts q.task)) [
          | yes l ↦ subst (Reached t) (next-vertex (size ts q.task) q l) (record { held = r.held; task = r.task; vertex = λ _. l })
          | no l ↦
              subst (Reached t) (next-task (size ts q.task) q (omega arith))
              (record { held = r.held; task = omega (arith, held_count t r.held); vertex = some_vertex_lem ts r.held.sound (q.task + 1) })
        ]

    pub reached_next : {p : Place} → p ≡ next_place (own_task t q.task).nv q → Reached t p
    reached_next e = subst (Reached t) (sym (next_is e)) next_reached
