-- What the lines of a task give: what becomes of the reading behind its own line, and how far they reach.
use mathlib.Core.Path.{◌≡◌, refl, ap}
use Prim.Native.Nat.{ℕ, suc, ◌+◌, ◌≤◌}
use native.Mathlib.Omega.{arith}
use mathlib.Core.List.{List, []}
use lib.ListN.{length, drop, replicate}
use Rattle.meaning.specs.Bounds.{most_vertices, most_edges}
use Rattle.meaning.specs.Table as Meant
use Rattle.meaning.specs.Text.{lines_of, begun, Reading, unreadable, read_from}
use Rattle.kinds.specs.declared.Refusal.{Refusal}
use Rattle.kinds.specs.Numbers.{refusal_number}
use Rattle.table.specs.Record.{padded, no_vertex, no_edge, task_record}
use Rattle.table.specs.Inner.{vertices_record, edges_record}
use Rattle.std.specs.Prelude.{Result, Ok, Err}
use Rattle.lines.specs.declared.Stopped.{Stopped}
use Rattle.lines.specs.Parts.{TaskTaken, took_task, stopped, behind}

pub no_vertices : vertices_record [] ≡ replicate most_vertices no_vertex
unfolding padded
no_vertices = refl

pub no_edges_lem : edges_record [] ≡ replicate most_edges no_edge
unfolding padded
no_edges_lem = refl

-- the reading from line n on, with the tasks ts and the task k read
abbrev pub task_begun : List Meant.Task → Meant.Task → ℕ → List ℕ → Reading
task_begun ts k n t = read_from (begun ts k 0 0) n (lines_of t)

-- what becomes of the reading R of the text t, behind a task's line l: after n more lines of b bytes it goes on with the task k in place, or it ends at one
-- of them
pub data TaskGives (R : Reading) (ts : List Meant.Task) (l : ℕ) (t : List ℕ) : Result TaskTaken Stopped → Type 0 where
  whole-task : (k : Meant.Task) (n b : ℕ) → 1 ≤ length k.vertices → R ≡ task_begun ts k (suc (l + n)) (drop b t)
      → TaskGives R ts l t (Ok (took_task n b (task_record k)))
  task_stopped : (w : Refusal) (i : ℕ) → R ≡ unreadable (refusal_number w) (suc (l + i)) → TaskGives R ts l t (Err (stopped w i))

-- how far they reach in the text t
pub record TaskReach (t : List ℕ) (r : Result TaskTaken Stopped) : Type 0 where
  pub few : (a : TaskTaken) → r ≡ Ok a → a.count ≤ most_vertices + most_edges
  pub room : (a : TaskTaken) → r ≡ Ok a → a.bytes ≤ length t
  pub stops : (s : Stopped) → r ≡ Err s → s.count ≤ most_vertices + most_edges

pub stopped_reach : (t : List ℕ) (w : Refusal) (c : ℕ) → c ≤ most_vertices + most_edges → TaskReach t (Err (stopped w c))
stopped_reach t w c h = record { few = λ a e. absurd cc; room = λ a e. absurd cc; stops = λ s e. (let q : c ≡ s.count = cc in omega arith) }

-- a line that was taken, behind i of the task's
pub was_taken : {A : Type 0} (i : ℕ) (r : Result A Refusal) {x : A} → behind i r ≡ Ok x → r ≡ Ok x
was_taken i (Ok y) {x} e = let k : y ≡ x = cc in ap Ok k
was_taken i (Err w) e = absurd cc
