-- A loop over a table's vertices that counts their verdicts: what holds where the places qs are still to come.
use mathlib.Core.Path.{◌≡◌, refl, sym, subst}
use Prim.Native.Nat.{ℕ, ◌*◌, ◌<◌}
use native.Mathlib.Omega.{arith}
use mathlib.Core.List.{List, [], ◌∷◌, map, Memᴰ}
use lib.ListN.{length-map}
use Rattle.meaning.specs.Bounds.{most_tasks, most_vertices, desk_witness}
use Rattle.meaning.specs.Verdict.{numbers, plain}
use Rattle.meaning.specs.Judge.{judged}
use Rattle.meaning.specs.Whole.{Place, places, verdict_at, verdicts, counts_of}
use Rattle.meaning.proofs.Whole.{place_in, verdict_at_lem, desk_witness_lem}
use Rattle.meaning.proofs.Counts.{places_few}
use Rattle.kinds.specs.declared.Verdict.{Verdict}
use Rattle.kinds.specs.Numbers.{verdict_numbers}
use Rattle.table.specs.declared.Table.{Table}
use Rattle.table.specs.Inner.{table_of, Held}
use Rattle.counts.specs.declared.Counts.{Counts}
use Rattle.counts.specs.Counts.{meant_counts}
use Rattle.counts.specs.Inner.{total, no_counts, one_more}
use Rattle.counts.proofs.Counting.{Counting, counting_none, counting_more, counting_all, counting_few}
use Rattle.judge.specs.Inner.{There}

-- the verdicts of some vertices are still to be counted
abbrev ToCount : Table → ℕ → ℕ → Counts → List Place → Type 0
ToCount t b work c qs = Counting (verdicts (table_of t) b work) (map (verdict_at (table_of t) b work) qs) c

-- places of the table
pub record Left (t : Table) (qs : List Place) : Type 0 where
  pub each : (p : Place) → Memᴰ p qs → Memᴰ p (places (table_of t))

pub left_all : {t : Table} {qs : List Place} → qs ≡ places (table_of t) → Left t qs
left_all f = record { each = λ p m. subst (Memᴰ p) f m }

module _ {t : Table} {qs rest : List Place} {q : Place} (left : Left t qs) (e : qs ≡ q ∷ rest) where
  pub left_in : Memᴰ q (places (table_of t))
  left_in = left.each q (subst (Memᴰ q) (sym e) (Memᴰ.head refl))

  pub left_there : There (table_of t) q
  left_there = let p = place_in (table_of t) q left_in in record { task = p.0; vertex = p.1 }

  pub left_more : Left t rest
  left_more = record { each = λ p m. left.each p (subst (Memᴰ p) (sym e) (Memᴰ.tail m)) }

pub record SoFar (t : Table) (b work : ℕ) (c : Counts) (qs : List Place) : Type 0 where
  pub held : Held t
  pub left : Left t qs
  pub counts : ToCount t b work c qs

pub so_far_none : {t : Table} → Held t → (b work : ℕ) {c : Counts} {qs : List Place} → c ≡ no_counts → qs ≡ places (table_of t) → SoFar t b work c qs
so_far_none {t} h b work e f = record { held = h; left = left_all f; counts = rw (e, f) (counting_none (verdicts (table_of t) b work)) }

module _ {t : Table} {b work : ℕ} {c : Counts} {qs : List Place} (k : SoFar t b work c qs) where
  pub so_far_all : qs ≡ [] → meant_counts c ≡ counts_of (verdicts (table_of t) b work)
  so_far_all e = counting_all (subst (ToCount t b work c) e k.counts)

  module _ {q : Place} {rest : List Place} (e : qs ≡ q ∷ rest) where
    pub so_far_in : Memᴰ q (places (table_of t))
    so_far_in = left_in k.left e

    pub so_far_there : Held t × There (table_of t) q
    so_far_there = (k.held, left_there k.left e)

    counts_next : ToCount t b work c (q ∷ rest)
    counts_next = subst (ToCount t b work c) e k.counts

    -- there is room for one more
    pub so_far_few : total c < most_tasks * most_vertices
    so_far_few =
        let all = length-map (places (table_of t)) (verdict_at (table_of t) b work) in
        omega (arith, counting_few counts_next, all, places_few (table_of t) k.held.sound)

    -- a judging with this budget and as many work cells says what the whole table's does
    pub so_far_said : {cells wits : ℕ} → cells ≡ work → wits ≡ desk_witness
        → judged plain (table_of t) q.task q.vertex b cells wits ≡ verdict_at (table_of t) b work q
    so_far_said c w = rw (c, w) (sym (verdict_at_lem (table_of t) b work desk_witness q (desk_witness_lem (table_of t) k.held.sound q so_far_in)))

    pub so_far_more : (r : Verdict) {n : Counts} → verdict_numbers r ≡ numbers (verdict_at (table_of t) b work q) → n ≡ one_more c r → SoFar t b work n rest
    so_far_more r x m = record { held = k.held; left = left_more k.left e; counts = rw m (counting_more counts_next r x) }
