-- A loop over a table's vertices that asks something of each and counts its verdicts: what holds where the places qs are still to come.
use mathlib.Core.Path.{◌≡◌, ap}
use Prim.Native.Nat.{◌+◌, ◌*◌, ◌≤◌, ◌<◌}
use native.Mathlib.Omega.{arith}
use mathlib.Core.List.{List, ◌∷◌}
use lib.ListN.{length}
use Rattle.meaning.specs.Bounds.{most_tasks, most_vertices}
use Rattle.meaning.specs.Whole.{Place, places}
use Rattle.meaning.proofs.Counts.{places_few}
use Rattle.kinds.specs.declared.Verdict.{Verdict}
use Rattle.kinds.specs.declared.Verdict.TheVariants.{Meets, Misses, Unfinished, Refused}
use Rattle.table.specs.declared.Table.{Table}
use Rattle.table.specs.Inner.{table_of, Held}
use Rattle.counts.specs.declared.Counts.{Counts}
use Rattle.counts.specs.Inner.{total, no_counts, one_more}

-- the vertices counted and those to come are no more than a table has
pub record Asking (c : Counts) (qs : List Place) : Type 0 where
  pub few : total c + length qs ≤ most_tasks * most_vertices

pub asking_none : {t : Table} → Held t → {c : Counts} {qs : List Place} → c ≡ no_counts → qs ≡ places (table_of t) → Asking c qs
asking_none {t} h e f = record { few = omega (arith, ap total e, ap length f, places_few (table_of t) h.sound) }

one_more_lem : (c : Counts) (r : Verdict) → total (one_more c r) ≡ total c + 1
one_more_lem c (Meets n) = omega arith
one_more_lem c (Misses n cells) = omega arith
one_more_lem c (Unfinished n) = omega arith
one_more_lem c (Refused at) = omega arith

module _ {c : Counts} {qs rest : List Place} {q : Place} (k : Asking c qs) (e : qs ≡ q ∷ rest) where
  -- there is room for one more
  pub asking_few : total c < most_tasks * most_vertices
  asking_few = omega (arith, k.few, ap length e)

  pub asking_more : (r : Verdict) {n : Counts} → n ≡ one_more c r → Asking n rest
  asking_more r f = record { few = omega (arith, k.few, ap length e, ap total f, one_more_lem c r) }
