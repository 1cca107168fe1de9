-- The complete paths over the columns of a task, each as the list of the edges that it takes: a way on from a vertex.
use Rattle.std.specs.Prelude.{ℕ, zero, suc, ◌-◌, List, [], ◌∷◌, map, get_or, ltb}
use Rattle.meaning.specs.Lists.{pick, gather, count_from}
use Rattle.columns.specs.Columns.{edges_of}

-- so far paths are counted, and places of paths go: no product of these with a row's cells is too large for the code
abbrev pub most_counted : ℕ
most_counted = 65536

-- one way on, to stop here, where there is no other
abbrev pub or_stop : List (List ℕ) → List (List ℕ)
or_stop [] = [] ∷ []
or_stop (h ∷ hs) = h ∷ hs

abbrev pub on_by : ℕ → List (List ℕ) → List (List ℕ)
on_by k hs = map (λ (h : List ℕ). k ∷ h) hs

-- by the edge k, where it leaves room, and then on
abbrev pub onward : List ℕ → List ℕ → (ℕ → ℕ → List (List ℕ)) → ℕ → ℕ → List (List ℕ)
onward to p on room k = pick (ltb (get_or p k 0) room) (on_by k (on (room - get_or p k 0) (get_or to k 0))) []

module _ (start to p : List ℕ) where
  -- the ways on from v with `room` ticks left; as many turns are enough, since an edge takes a tick or more
  abbrev pub ways_from : ℕ → ℕ → ℕ → List (List ℕ)
  ways_from zero room v = [] ∷ []
  ways_from (suc n) room v = or_stop (gather (onward to p (ways_from n) room) (edges_of start v))

  unfoldable pub ways : ℕ → ℕ → List (List ℕ)
  ways v r = ways_from r r v

  -- from each of the vertices v up to n: the first vertex, and then the edges taken
  unfoldable pub all_ways : ℕ → ℕ → ℕ → List (List ℕ)
  unfolding ways
  all_ways d v n = gather (λ (u : ℕ). on_by u (ways u d)) (count_from v (n - v))

-- the vertices on a way from v
abbrev pub vertices_by : List ℕ → ℕ → List ℕ → List ℕ
vertices_by to v h = v ∷ map (λ (k : ℕ). get_or to k 0) h

-- the path of a first vertex and the edges taken
abbrev pub path_by : List ℕ → List ℕ → List ℕ
path_by to [] = []
path_by to (v ∷ h) = vertices_by to v h
