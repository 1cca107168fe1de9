-- Paths and their load.
use Rattle.std.specs.Prelude.{ℕ, zero, suc, ◌+◌, ◌-◌, ◌<◌, ◌≡◌, ◌⊎◌, Bool, true, false, ◌&&◌, List, [], ◌∷◌, map, length, leb, ltb, eqb}
use Rattle.meaning.specs.Lists.{all, those, largest, gather, below}
use Rattle.meaning.specs.Table.{Edge, Task, vertex_at}

-- a path is a list of vertex numbers
abbrev pub Path : Type 0
Path = List ℕ

-- ---- edges

-- the edges out of a vertex, in the table's order
abbrev pub out_of : Task → ℕ → List Edge
out_of k v = those (λ (x : Edge). eqb x.from v) k.edges

-- the edges from u to v: at most one, in a readable table
abbrev pub between : Task → ℕ → ℕ → List Edge
between k u v = those (λ (x : Edge). eqb x.to v) (out_of k u)

abbrev pub first_p : List Edge → ℕ
first_p [] = 0
first_p (x ∷ xs) = x.p

-- the separation from u to v
unfoldable pub separation : Task → ℕ → ℕ → ℕ
separation k u v = first_p (between k u v)

-- ---- legal paths, of any length

-- each next one by an edge, after u
abbrev pub linked : Task → ℕ → Path → Bool
linked k u [] = true
linked k u (v ∷ w) = ltb 0 (length (between k u v)) && linked k v w

-- at least one vertex, of the task, each next one by an edge
abbrev pub legal : Task → Path → Bool
legal k [] = false
legal k (v ∷ w) = ltb v (length k.vertices) && linked k v w

-- ---- span and load

-- the sum of the separations, after u
abbrev pub span_on : Task → ℕ → Path → ℕ
span_on k u [] = 0
span_on k u (v ∷ w) = separation k u v + span_on k v w

-- the sum of its separations
abbrev pub span : Task → Path → ℕ
span k [] = 0
span k (v ∷ w) = span_on k v w

unfoldable pub execution : Task → ℕ → ℕ
execution k v = (vertex_at k v).e

-- the total e
abbrev pub total : Task → Path → ℕ
total k [] = 0
total k (v ∷ w) = execution k v + total k w

-- the prefixes of at least one vertex
abbrev pub prefixes : Path → List Path
prefixes [] = []
prefixes (v ∷ w) = (v ∷ []) ∷ map (λ (q : Path). v ∷ q) (prefixes w)

-- the largest total e over the prefixes with span strictly below t
unfoldable pub load : Task → Path → ℕ → ℕ
unfolding separation execution
load k w t = largest (map (total k) (those (λ (q : Path). ltb (span k q) t) (prefixes w)))

-- ---- complete paths

-- the last vertex of u and then w
abbrev pub last_on : ℕ → Path → ℕ
last_on u [] = u
last_on u (v ∷ w) = last_on v w

abbrev pub last_of : Path → ℕ
last_of [] = 0
last_of (v ∷ w) = last_on v w

-- its span is below d, and each edge out of its last vertex, if any, would make the span d or more
abbrev pub complete : Task → ℕ → Path → Bool
complete k d w = ltb (span k w) d && all (λ (x : Edge). leb d (span k w + x.p)) (out_of k (last_of w))

-- the order of paths as lists of vertex numbers, first difference first
abbrev pub Before : Path → Path → Type 0
Before [] [] = ⊥
Before [] (v ∷ w) = Unit {0}
Before (u ∷ q) [] = ⊥
Before (u ∷ q) (v ∷ w) = (u < v) ⊎ ((u ≡ v) × Before q w)

-- v alone where nothing goes on
abbrev pub or_alone : ℕ → List Path → List Path
or_alone v [] = (v ∷ []) ∷ []
or_alone v (w ∷ ws) = map (λ (q : Path). v ∷ q) (w ∷ ws)

-- the complete paths for horizon `room` that begin at v: on by each edge that leaves room. An edge takes a tick or more of the room, so
-- `room` turns are enough
abbrev pub paths_from : Task → ℕ → ℕ → ℕ → List Path
paths_from k zero room v = (v ∷ []) ∷ []
paths_from k (suc turns) room v =
    or_alone v (gather (λ (x : Edge). paths_from k turns (room - x.p) x.to) (those (λ (x : Edge). ltb x.p room) (out_of k v)))

-- the complete paths of a task for deadline d, in order: any vertex may be the first
unfoldable pub complete_paths : Task → ℕ → List Path
complete_paths k d = gather (paths_from k d d) (below (length k.vertices))

-- the paths of a task that the walk chooses from
unfoldable pub paths_of : Task → ℕ → List Path
unfolding complete_paths
paths_of k d = complete_paths k d
