-- The first line of a table that breaks a rule, in the order in which they are looked at; `proofs/Ruled` has that it is the one that the definition finds.
use Rattle.std.specs.Prelude.{◌≡◌, ℕ, suc, ◌+◌, List, [], ◌∷◌, length, get_or, leb, eqb, Result, Ok, Err}
use Rattle.meaning.specs.Lists.{pick}
use Rattle.meaning.specs.Bounds.{most_tasks}
use Rattle.meaning.specs.Table as Meant
use Rattle.meaning.specs.Texts.{text_length}
use Rattle.kinds.specs.declared.RefusedAt.{RefusedAt}
use Rattle.kinds.specs.declared.Refusal.{Refusal}
use Rattle.kinds.specs.declared.Refusal.TheVariants.{WrongFrame, OutOfBounds, DeadlineOverSeparation, EdgeNotAfter, JobOverDeadline}
use Rattle.rules.specs.Rules.{task_in, vertex_in, edge_in, job_in_time, mask_covered, edge_spaced, edge_after, least_after}
use Rattle.table.specs.declared.Table.{Table}
use Rattle.table.specs.Record.{table_held}

-- ---- what is found: no rule is broken, or one is, at a line

abbrev pub Check : Type 0
Check = Result (Unit {0}) RefusedAt

abbrev pub kept : Check
kept = Ok tt

abbrev pub broken_by : Refusal → ℕ → Check
broken_by w n = Err (record { refusal = w; place = n })

-- what stands first decides
abbrev pub and_then : Check → Check → Check
and_then (Ok u) c = c
and_then (Err at) c = Err at

-- ---- vertices, from line n on

unfoldable pub vertex_check : ℕ → Meant.Vertex → Check
vertex_check n x =
    pick (vertex_in x.e x.d) (pick (job_in_time x.e x.d) kept (broken_by JobOverDeadline n)) (broken_by OutOfBounds n)

abbrev pub vertices_check : ℕ → List Meant.Vertex → Check
vertices_check n [] = kept
vertices_check n (x ∷ xs) = and_then (vertex_check n x) (vertices_check (suc n) xs)

-- the masked length m, at the last one's line
unfoldable pub mask_check : ℕ → ℕ → List Meant.Vertex → Check
mask_check n m vs = pick (mask_covered m (Meant.largest_e_in vs)) kept (broken_by OutOfBounds n)

-- ---- edges of a task with the vertices vs, from line n on, where `least` is the first place after the edge before

unfoldable pub edge_check : List Meant.Vertex → ℕ → ℕ → Meant.Edge → Check
edge_check vs least n x =
    pick (edge_in (length vs) x.from x.to x.p)
    (pick (edge_spaced (get_or vs x.from Meant.no_vertex).d x.p)
    (pick (edge_after least x.from x.to) kept (broken_by EdgeNotAfter n))
    (broken_by DeadlineOverSeparation n))
    (broken_by OutOfBounds n)

abbrev pub edges_check : List Meant.Vertex → ℕ → ℕ → List Meant.Edge → Check
edges_check vs least n [] = kept
edges_check vs least n (x ∷ xs) = and_then (edge_check vs least n x) (edges_check vs (least_after x.from x.to) (suc n) xs)

-- ---- a task

-- its own line
unfoldable pub own_check : ℕ → Meant.Task → Check
own_check n k = pick (task_in (length k.vertices) (length k.edges) 0 k.m) kept (broken_by OutOfBounds n)

unfoldable pub task_check : ℕ → Meant.Task → Check
task_check n k =
    and_then (own_check n k)
    (and_then (vertices_check (n + 1) k.vertices)
    (and_then (mask_check (n + length k.vertices) k.m k.vertices)
    (edges_check k.vertices 0 (n + length k.vertices + 1) k.edges)))

abbrev pub lines_of_task : Meant.Task → ℕ
lines_of_task k = 1 + length k.vertices + length k.edges

-- ---- all tasks, from line n on, after i of them, and the end

abbrev pub ninth_check : ℕ → ℕ → Check
ninth_check i n = pick (leb most_tasks i) (broken_by WrongFrame n) kept

abbrev pub end_check : ℕ → ℕ → Check
end_check i n = pick (eqb i 0) (broken_by WrongFrame n) kept

unfoldable pub table_check : ℕ → ℕ → Meant.Table → Check
table_check i n [] = end_check i n
table_check i n (k ∷ ks) = and_then (ninth_check i n) (and_then (task_check n k) (table_check (i + 1) (n + lines_of_task k) ks))

-- ---- a record

-- what is found of a table whose text has n bytes: those where no rule is broken
abbrev pub checked_by : Check → ℕ → Result ℕ RefusedAt
checked_by (Ok u) n = Ok n
checked_by (Err at) n = Err at

-- the first line that breaks a rule, or the bytes of the text
pub record TableChecked (t : Table) (c : Result ℕ RefusedAt) : Type 0 where
  pub is : c ≡ checked_by (table_check 0 1 (table_held t)) (text_length (table_held t))
