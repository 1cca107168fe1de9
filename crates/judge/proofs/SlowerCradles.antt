-- What wish 7 promises of paths, of the desk's refusals and of its frames.
use mathlib.Core.Path.{refl, sym, subst}
use mathlib.Core.List.{Memᴰ}
use lib.ListN.{replicate}
use native.Mathlib.Nat.{le_trans}
use Rattle.meaning.specs.Table.{no_task, no_vertex, task_at, vertex_at}
use Rattle.meaning.proofs.Lists.{mem_get_or}
use Rattle.meaning.proofs.Readable.{read_sound}
use Rattle.meaning.proofs.PathsOf.{paths_short}
use Rattle.meaning.proofs.Answers.{sound_higher}
use Rattle.meaning.proofs.Whole.{place_in}
use Rattle.meaning.specs.Bench.{self_edge}
use Rattle.meaning.proofs.LongPath.{long_text, long_table, long-read, long_path}
use Rattle.meaning.proofs.DeskFrames as Desk
use Rattle.judge.specs.Demands.{SlowerCradles}

pub slower_cradles : SlowerCradles
slower_cradles =
    record {
      numbers = (refl, refl, refl, refl);
      paths = λ text ts e q m k n w z.
          let s = read_sound text ts e in
          let p = place_in ts q m in
          let own = task_at ts q.task in
          let task = s.each_task own (mem_get_or no_task ts q.task p.0) in
          let job = task.each_vertex (vertex_at own q.vertex) (mem_get_or no_vertex own.vertices q.vertex p.1) in
          le_trans (paths_short k (sound_higher ts q.task s k n) _ job.some_d w z) job.most_d;
      reached = (
        long_text,
        long_table,
        long-read,
        record { task = 1; vertex = 0 },
        Memᴰ.tail (Memᴰ.head refl),
        self_edge 1 1 1,
        Memᴰ.head refl,
        replicate 1000 0,
        subst (Memᴰ (replicate 1000 0)) (sym long_path) (Memᴰ.head refl),
        refl,
      );
      desk_refuses = λ text ts e. Desk.desk_refuses ts (read_sound text ts e);
      never_11 = λ text f m. (Desk.frames-right text f m).old;
      shown = Desk.miss_shown;
      lengths = λ text f m. (Desk.frames-right text f m).said;
    }
