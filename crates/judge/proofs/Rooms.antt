-- How many bytes the desk's output can have: summed vertex by vertex, and never more than there is room for in the longest.
use mathlib.Core.Path.{◌≡◌, refl, ap, ◌∙◌}
use Prim.Native.Nat.{ℕ, ◌+◌, ◌*◌, ◌≤◌, ◌<◌}
use native.Mathlib.Nat.{mul-le-mul}
use native.Mathlib.Omega.{arith}
use mathlib.Core.List.{List, [], ◌∷◌, map, Memᴰ}
use lib.ListN.{length}
use Rattle.meaning.specs.Lists.{sum}
use Rattle.meaning.specs.Bounds.{most_tasks, most_vertices, most_higher, largest_d, verdict_line, counts_line, path_line, longest_vertex, longest_output}
use Rattle.meaning.specs.Table as Meant
use Rattle.meaning.specs.Table.{no_task, no_vertex, task_at, vertex_at}
use Rattle.meaning.specs.Verdict.{deadline}
use Rattle.meaning.specs.Sound.{SoundTable}
use Rattle.meaning.specs.Whole.{Place, places}
use Rattle.meaning.proofs.Lists.{mem_get_or}
use Rattle.meaning.proofs.Counts.{places_few}
use Rattle.meaning.proofs.Whole.{place_in}
use Rattle.table.specs.declared.Table.{Table}
use Rattle.table.specs.Inner.{table_of, Held}
use Rattle.table.proofs.Records.{held_count, held_few}
use Rattle.table.proofs.Vertices.{own_task, own_vertex, own_size, own_few, job_d}
use Rattle.judge.specs.Desk.{vertex_room, table_room}
use Rattle.judge.specs.Inner.{There}
use Rattle.judge.proofs.SoFar.{Left, left_all, left_there, left_more}

-- ---- never more than the longest

module _ (ts : Meant.Table) (s : SoundTable ts) where
  vertex_most : (q : Place) → Memᴰ q (places ts) → vertex_room ts q ≤ longest_vertex
  vertex_most q m =
      let p = place_in ts q m in
      let k = task_at ts q.task in
      let job = (s.each_task k (mem_get_or no_task ts q.task p.0)).each_vertex (vertex_at k q.vertex) (mem_get_or no_vertex k.vertices q.vertex p.1) in
      let few : q.task ≤ most_higher = omega (arith, s.task_count, p.0) in
      let short : path_line (deadline ts q.task q.vertex) ≤ path_line largest_d = omega (arith, job.most_d) in
      omega (arith, mul-le-mul few short)

  rooms_most : (qs : List Place) → ((q : Place) → Memᴰ q qs → Memᴰ q (places ts)) → sum (map (vertex_room ts) qs) ≤ longest_vertex * length qs
  rooms_most [] f = omega arith
  rooms_most (q ∷ qs) f = omega (arith, vertex_most q (f q (Memᴰ.head refl)), rooms_most qs (λ p m. f p (Memᴰ.tail m)))

  pub room_most : table_room ts ≤ longest_output
  room_most = omega (arith, rooms_most (places ts) (λ q m. m), places_few ts s)

-- ---- the loop of `table_room`, with the places qs still to come

pub record Summing (t : Table) (qs : List Place) (room : ℕ) : Type 0 where
  pub held : Held t
  pub left : Left t qs
  pub all : room + sum (map (vertex_room (table_of t)) qs) ≡ table_room (table_of t)

pub summing_none : {t : Table} {qs : List Place} → Held t → qs ≡ places (table_of t) → Summing t qs counts_line
summing_none {t} {qs} k e =
    record { held = k; left = left_all e; all = omega (arith, ap (λ (ps : List Place). sum (map (vertex_room (table_of t)) ps)) e) }

module _ {t : Table} {qs : List Place} {room : ℕ} (s : Summing t qs room) where
  abbrev ts : Meant.Table
  ts = table_of t

  pub summing_all : qs ≡ [] → room ≡ table_room ts
  summing_all e = let z = ap (λ (ps : List Place). sum (map (vertex_room ts) ps)) e in omega (arith, z, s.all)

  module _ {q : Place} {rest : List Place} (e : qs ≡ q ∷ rest) where
    there : There ts q
    there = left_there s.left e

    h : q.task < t.n
    h = omega (arith, held_count t s.held, there.task)

    -- its cells in the record
    pub summing_there : (q.task < most_tasks) × (q.vertex < most_vertices)
    summing_there = (omega (arith, h, held_few t s.held), omega (arith, (own_few t s.held q.task h).0, own_size t s.held q.task h, there.vertex))

    next-sum : sum (map (vertex_room ts) qs) ≡ vertex_room ts q + sum (map (vertex_room ts) rest)
    next-sum = ap (λ (ps : List Place). sum (map (vertex_room ts) ps)) e

    module _ {x : ℕ} (f : x ≡ verdict_line + q.task * path_line (own_vertex t q.task q.vertex).d.0) where
      own_room : x ≡ vertex_room ts q
      own_room =
          let v : q.vertex < (own_task t q.task).nv = omega (arith, own_size t s.held q.task h, there.vertex) in
          f ∙ ap (λ (d : ℕ). verdict_line + q.task * path_line d) (job_d t s.held q.task h q.vertex v)

      pub summing_fits : room + x ≤ longest_output
      summing_fits = omega (arith, own_room, next-sum, s.all, room_most ts s.held.sound)

      pub summing_more : Summing t rest (room + x)
      summing_more = record { held = s.held; left = left_more s.left e; all = omega (arith, own_room, next-sum, s.all) }
