-- A vertex of a held table: its cells of the record.
use mathlib.Core.Path.{◌≡◌, ap, ◌∙◌}
use Prim.Native.Nat.{ℕ, ◌≤◌, ◌<◌}
use native.Mathlib.Omega.{arith}
use mathlib.Core.List.{map}
use lib.ListN.{length, get_or, length-map}
use Rattle.meaning.specs.Bounds.{most_vertices}
use Rattle.meaning.specs.Table as Meant
use Rattle.meaning.specs.Table.{no_vertex, task_at, vertex_at}
use Rattle.meaning.specs.Verdict.{deadline}
use Rattle.meaning.specs.Sound.{SoundVertex}
use Rattle.meaning.proofs.Lists.{mem_get_or, get_or_mapped}
use Rattle.table.specs.declared.Vertex.{Vertex}
use Rattle.table.specs.declared.Task.{Task}
use Rattle.table.specs.declared.Table.{Table}
use Rattle.table.specs.Record.{vertex_record, blank_task}
use Rattle.table.specs.Inner.{table_of, Held}
use Rattle.table.specs.Record as Blank
use Rattle.table.proofs.Record.{get_or-padded, length-padded}
use Rattle.table.proofs.Records.{held-task, held_sound}

abbrev pub own_task : Table → ℕ → Task
own_task t i = get_or t.tasks i blank_task

abbrev pub own_vertex : Table → ℕ → ℕ → Vertex
own_vertex t i v = get_or (own_task t i).vertices v Blank.no_vertex

module _ (t : Table) (k : Held t) (i : ℕ) (l : i < t.n) where
  abbrev ts : Meant.Table
  ts = table_of t

  pub own_size : (own_task t i).nv ≡ length (task_at ts i).vertices
  own_size = ap (λ (x : Task). x.nv) (held-task t k blank_task i l)

  pub own_few : ((own_task t i).nv ≤ most_vertices) × (length (own_task t i).vertices ≡ most_vertices)
  own_few =
      let s = (held_sound t k i l).vertex_count in (
        omega (arith, own_size),
        ap (λ (x : Task). length x.vertices) (held-task t k blank_task i l) ∙ length-padded most_vertices Blank.no_vertex
            (map vertex_record (task_at ts i).vertices) (omega (arith, length-map (task_at ts i).vertices vertex_record)),
      )

  module _ (v : ℕ) (m : v < (own_task t i).nv) where
    pub job_is : own_vertex t i v ≡ vertex_record (vertex_at (task_at ts i) v)
    job_is =
        ap (λ (x : Task). get_or x.vertices v Blank.no_vertex) (held-task t k blank_task i l)
        ∙ get_or-padded most_vertices Blank.no_vertex Blank.no_vertex (map vertex_record (task_at ts i).vertices) v
        (omega (arith, length-map (task_at ts i).vertices vertex_record, own_size))
        ∙ get_or_mapped vertex_record Blank.no_vertex no_vertex (task_at ts i).vertices v (omega (arith, own_size))

    pub job_sound : SoundVertex (vertex_at (task_at ts i) v)
    job_sound = (held_sound t k i l).each_vertex (vertex_at (task_at ts i) v) (mem_get_or no_vertex (task_at ts i).vertices v (omega (arith, own_size)))

    pub job_d : (own_vertex t i v).d.0 ≡ deadline ts i v
    job_d = ap (λ (x : Vertex). x.d.0) job_is

    pub job_e : (own_vertex t i v).e.0 ≡ (vertex_at (task_at ts i) v).e
    job_e = ap (λ (x : Vertex). x.e.0) job_is
