-- Masked lengths play no part in paths and their loads, in what a vertex needs of an area, or in a refusal.
use mathlib.Core.Path.{◌≡◌, refl, ap, ap₂, fun_ext, ◌∙◌}
use Prim.Native.Nat.{ℕ, zero, suc, ◌+◌, ◌-◌, ◌*◌}
use mathlib.Core.Bool.{Bool, not, ◌&&◌}
use mathlib.Core.List.{List, [], ◌∷◌, ◌++◌, map, map-map}
use lib.ListN.{length, get_or, length-map}
use lib.Dec.{ltb}
use Rattle.meaning.specs.Lists.{those, sum, largest, gather, first_that, below}
use Rattle.meaning.specs.Bounds.{most_paths}
use Rattle.meaning.specs.Table.{Edge, Task, Table, no_task, vertex_at, task_at, higher, unmasked}
use Rattle.meaning.specs.Paths.{Path, out_of, between, linked, legal, separation, span_on, span, execution, total, prefixes, load, or_alone, paths_from, paths_of}
use Rattle.meaning.specs.Verdict.{listed, top_of, deadline, top_at}
use Rattle.meaning.specs.Areas.{rows_for, rows_of, work_need}
use Rattle.meaning.specs.Whole.{Place, places_from, places}
use Rattle.meaning.specs.Judge.{Row, crowded, row8, row9, row10, row11, refusal}
use Rattle.meaning.proofs.Lists.{take-map}

-- ---- a task's paths and their loads

module _ (k : Task) where
  total-unmasked : (w : Path) → total (unmasked k) w ≡ total k w
  unfolding execution
  total-unmasked [] = refl
  total-unmasked (v ∷ w) = ap (λ (n : ℕ). execution k v + n) (total-unmasked w)

  span_on_unmasked : (u : ℕ) (w : Path) → span_on (unmasked k) u w ≡ span_on k u w
  unfolding separation
  span_on_unmasked u [] = refl
  span_on_unmasked u (v ∷ w) = ap (λ (n : ℕ). separation k u v + n) (span_on_unmasked v w)

  span-unmasked : (w : Path) → span (unmasked k) w ≡ span k w
  span-unmasked [] = refl
  span-unmasked (v ∷ w) = span_on_unmasked v w

  pub load-unmasked : (w : Path) (t : ℕ) → load (unmasked k) w t ≡ load k w t
  unfolding load
  load-unmasked w t =
      ap₂ (λ (e s : Path → ℕ). largest (map e (those (λ (q : Path). ltb (s q) t) (prefixes w)))) (fun_ext total-unmasked) (fun_ext span-unmasked)

  linked-unmasked : (u : ℕ) (w : Path) → linked (unmasked k) u w ≡ linked k u w
  linked-unmasked u [] = refl
  linked-unmasked u (v ∷ w) = ap (λ (b : Bool). ltb 0 (length (between k u v)) && b) (linked-unmasked v w)

  pub legal-unmasked : (w : Path) → legal (unmasked k) w ≡ legal k w
  legal-unmasked [] = refl
  legal-unmasked (v ∷ w) = ap (λ (b : Bool). ltb v (length k.vertices) && b) (linked-unmasked v w)

  from_unmasked : (turns room v : ℕ) → paths_from (unmasked k) turns room v ≡ paths_from k turns room v
  from_unmasked zero room v = refl
  from_unmasked (suc turns) room v =
      ap (λ (f : Edge → List Path). or_alone v (gather f (those (λ (x : Edge). ltb x.p room) (out_of k v))))
      (fun_ext (λ (x : Edge). from_unmasked turns (room - x.p) x.to))

  pub paths_unmasked : (d : ℕ) → paths_of (unmasked k) d ≡ paths_of k d
  unfolding paths_of
  paths_unmasked d = ap (λ (f : ℕ → List Path). gather f (below (length k.vertices))) (fun_ext (from_unmasked d d))

  listed-unmasked : (d : ℕ) → listed d (unmasked k) ≡ listed d k
  listed-unmasked d = ap (map (λ (w : Path). record { task = unmasked k; path = w })) (paths_unmasked d)

places_from_unmasked : (i : ℕ) (ks : List Task) → places_from i (map unmasked ks) ≡ places_from i ks
places_from_unmasked i [] = refl
places_from_unmasked i (k ∷ ks) =
    ap (λ (ps : List Place). map (λ (v : ℕ). record { task = i; vertex = v }) (below (length k.vertices)) ++ ps) (places_from_unmasked (suc i) ks)

pub places-unmasked : (ts : Table) → places (map unmasked ts) ≡ places ts
places-unmasked ts = places_from_unmasked 0 ts

-- ---- a table's vertex: its needs, and the rows that refuse it

module _ (ts : Table) where
  abbrev bare : Table
  bare = map unmasked ts

  pub task-unmasked : (i : ℕ) → task_at bare i ≡ unmasked (task_at ts i)
  task-unmasked i = go ts i
    where
      go : (ks : List Task) (j : ℕ) → get_or (map unmasked ks) j no_task ≡ unmasked (get_or ks j no_task)
      go [] j = refl
      go (k ∷ ks) zero = refl
      go (k ∷ ks) (suc j) = go ks j

  pub table_paths_unmasked : (k d : ℕ) → paths_of (task_at bare k) d ≡ paths_of (task_at ts k) d
  table_paths_unmasked k d = ap (λ (x : Task). paths_of x d) (task-unmasked k) ∙ paths_unmasked (task_at ts k) d

  pub table_load-unmasked : (k : ℕ) (w : Path) (t : ℕ) → load (task_at bare k) w t ≡ load (task_at ts k) w t
  table_load-unmasked k w t = ap (λ (x : Task). load x w t) (task-unmasked k) ∙ load-unmasked (task_at ts k) w t

  module _ (i v : ℕ) where
    pub deadline-unmasked : deadline bare i v ≡ deadline ts i v
    deadline-unmasked = ap (λ (k : Task). (vertex_at k v).d) (task-unmasked i)

    over_higher : {X : Type 0} (f g : Task → X) → ((k : Task) → f (unmasked k) ≡ g k) → map f (higher bare i) ≡ map g (higher ts i)
    over_higher {X = X} f g h = ap (map f) (take-map unmasked i ts) ∙ map-map f unmasked (higher ts i) ∙ ap (λ (q : Task → X). map q (higher ts i)) (fun_ext h)

    pub top_unmasked : top_at bare i v ≡ top_at ts i v
    top_unmasked = ap (top_of (higher bare i)) deadline-unmasked
        ∙ over_higher (listed (deadline ts i v)) (listed (deadline ts i v)) (λ (k : Task). listed-unmasked k (deadline ts i v))

    pub need_unmasked : work_need bare i v ≡ work_need ts i v
    need_unmasked = ap (λ (d : ℕ). d * sum (map (rows_of d) (higher bare i))) deadline-unmasked
        ∙ ap (λ (ns : List ℕ). deadline ts i v * sum ns)
        (over_higher (rows_of (deadline ts i v)) (rows_of (deadline ts i v)) (λ (k : Task). ap (λ (ws : List Path). rows_for (length ws)) (paths_unmasked k (deadline ts i v))))

    crowded-unmasked : (d : ℕ) → crowded bare i d ≡ crowded ts i d
    crowded-unmasked d =
        ap (λ (f : ℕ → List Path). those (λ (k : ℕ). ltb most_paths (length (f k))) (below i)) (fun_ext (λ (k : ℕ). table_paths_unmasked k d))

    row8-unmasked : row8 bare i v ≡ row8 ts i v
    row8-unmasked =
        ap₂ (λ (n m : ℕ). record { number = 8; holds = not (ltb i n && ltb v m); place = 0 }) (length-map ts unmasked)
        (ap (λ (k : Task). length k.vertices) (task-unmasked i))

    row9-unmasked : row9 bare i v ≡ row9 ts i v
    row9-unmasked =
        ap (λ (ks : List ℕ). record { number = 9; holds = ltb 0 (length ks); place = get_or ks 0 0 })
        (ap (crowded bare i) deadline-unmasked ∙ crowded-unmasked (deadline ts i v))

    pub refusal-unmasked : (work wit : ℕ) → refusal bare i v work wit ≡ refusal ts i v work wit
    unfolding refusal
    refusal-unmasked work wit =
        ap₂ (λ (a b : Row). first_that (λ (r : Row). r.holds) (a ∷ b ∷ row10 bare i v work ∷ row11 bare i v wit ∷ [])) row8-unmasked row9-unmasked
        ∙ ap₂ (λ (n m : ℕ). first_that (λ (r : Row). r.holds) (row8 ts i v ∷ row9 ts i v ∷ short 10 n work ∷ short 11 m wit ∷ []))
        need_unmasked (ap (λ (d : ℕ). i * (1 + d)) deadline-unmasked)
      where
        short : ℕ → ℕ → ℕ → Row
        short n need cells = record { number = n; holds = ltb cells need; place = need }
