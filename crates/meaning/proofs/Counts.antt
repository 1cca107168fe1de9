-- A whole table's four counts: they add up, and more budget never lowers the first two.
use mathlib.Core.Path.{◌≡◌, refl, ap₂, ◌∙◌}
use Prim.Native.Nat.{ℕ, suc, ◌+◌, ◌*◌, ◌≤◌, ◌<◌}
use native.Mathlib.Nat.{le_refl}
use native.Mathlib.Omega.{arith}
use native.Mathlib.Decide.{dec_lt}
use mathlib.Core.Bool.{Bool, true, false}
use mathlib.Core.Option.{Option, none, some}
use mathlib.Core.List.Memᴰ
use mathlib.Core.List.{List, [], ◌∷◌, map}
use lib.ListN.{length, length-map, length-append}
use lib.Dec.{T, ltb, eqb, eqb→eq}
use borrow.Author.Tests.{lt-ltb, le-ltb}
use Rattle.meaning.specs.Lists.{pick, those, below}
use Rattle.meaning.specs.Bounds.{most_tasks, most_vertices}
use Rattle.meaning.specs.Table.{Task, Table, higher}
use Rattle.meaning.specs.Groups.{count, witness}
use Rattle.meaning.specs.Verdict.{Verdict, meets, misses, unfinished, refused, Listed, load_of, top_of, kind_of, decided, walked, own_e, deadline, plain}
use Rattle.meaning.specs.Areas.{witness_need}
use Rattle.meaning.specs.Judge.{Row, refusal, unless_refused, judged}
use Rattle.meaning.specs.Whole.{Place, places_from, places, verdict_at, verdicts, of_kind, counts_of}
use Rattle.meaning.specs.Sound.{AllSound, SoundTable}
use Rattle.meaning.specs.Demands.{vertex_total}
use Rattle.meaning.proofs.Lists.{length-count_from}
use Rattle.meaning.proofs.Verdicts.{walked_at}

-- ---- the four add up

pub one_kind : (vs : List Verdict) → of_kind 0 vs + of_kind 1 vs + of_kind 2 vs + of_kind 3 vs ≡ length vs
one_kind [] = refl
one_kind (meets c ∷ vs) = omega (arith, one_kind vs)
one_kind (misses c ws ∷ vs) = omega (arith, one_kind vs)
one_kind (unfinished b ∷ vs) = omega (arith, one_kind vs)
one_kind (refused k n ∷ vs) = omega (arith, one_kind vs)

length-places : (i : ℕ) (ts : List Task) → length (places_from i ts) ≡ vertex_total ts
length-places i [] = refl
length-places i (t ∷ ts) =
    length-append (map (λ (v : ℕ). record { task = i; vertex = v }) (below (length t.vertices))) (places_from (suc i) ts)
    ∙ ap₂ ◌+◌ (length-map (below (length t.vertices)) _ ∙ length-count_from 0 (length t.vertices)) (length-places (suc i) ts)

-- the four add up to the number of vertices
pub counts_all : (ts : Table) (b work : ℕ) → (let n = counts_of (verdicts ts b work) in n.meeting + n.missing + n.unfinishing + n.refusing) ≡ vertex_total ts
counts_all ts b work = one_kind (verdicts ts b work) ∙ length-map (places ts) (verdict_at ts b work) ∙ length-places 0 ts

-- at most 96: eight tasks of twelve vertices
total_few : (ts : List Task) → AllSound ts → vertex_total ts ≤ most_vertices * length ts
total_few [] s = omega arith
total_few (t ∷ ts) s = omega (arith, (s t (Memᴰ.head refl)).vertex_count, total_few ts (λ k m. s k (Memᴰ.tail m)))

pub vertices_few : (ts : Table) → SoundTable ts → vertex_total ts ≤ most_tasks * most_vertices
vertices_few ts s = omega (arith, total_few ts s.each_task, s.task_count)

pub places_few : (ts : Table) → SoundTable ts → length (places ts) ≤ most_tasks * most_vertices
places_few ts s = omega (arith, length-places 0 ts, vertices_few ts s)

-- ---- more budget changes an unfinished verdict only

abbrev Kept : Verdict → Verdict → Type 0
Kept (meets c) y = y ≡ meets c
Kept (misses c ws) y = y ≡ misses c ws
Kept (unfinished b) y = Unit {0}
Kept (refused k n) y = y ≡ refused k n

kept-decided : (c : ℕ) (o : Option (List Listed)) → Kept (decided c o) (decided c o)
kept-decided c none = refl
kept-decided c (some x) = refl

kept_budgeted : (b b' c : ℕ) (o : Option (List Listed)) → b ≤ b'
    → Kept (pick (ltb b c) (unfinished b) (decided c o)) (pick (ltb b' c) (unfinished b') (decided c o))
kept_budgeted b b' c o h =
    elim (dec_lt b c) [ yes k ↦ rw (lt-ltb b c k) tt | no k ↦ rw (le-ltb b c (omega arith), le-ltb b' c (omega arith)) (kept-decided c o) ]

kept-unless : (o : Option Row) (x y : Verdict) → Kept x y → Kept (unless_refused o x) (unless_refused o y)
kept-unless none x y k = k
kept-unless (some r) x y k = refl

kept-walked : (ks : List Task) (e d b b' : ℕ) → b ≤ b' → Kept (walked plain b ks e d) (walked plain b' ks e d)
unfolding walked
kept-walked ks e d b b' h = kept_budgeted b b' (count load_of e d (top_of ks d)) (witness load_of e d (top_of ks d)) h

kept_at : (ts : Table) (work : ℕ) (q : Place) (b b' : ℕ) → b ≤ b' → Kept (verdict_at ts b work q) (verdict_at ts b' work q)
unfolding judged
kept_at ts work q b b' h =
    kept-unless (refusal ts q.task q.vertex work (witness_need ts q.task q.vertex))
    (walked_at plain ts q.task q.vertex b) (walked_at plain ts q.task q.vertex b')
    (kept-walked (higher ts q.task) (own_e ts q.task q.vertex) (deadline ts q.task q.vertex) b b' h)

-- so a verdict of any other kind stays of its kind
kept_kind : (n : ℕ) → n < 2 → (x y : Verdict) → Kept x y → T (eqb (kind_of x) n) → T (eqb (kind_of y) n)
kept_kind n h (meets c) y k t = rw k t
kept_kind n h (misses c ws) y k t = rw k t
kept_kind n h (unfinished b) y k t = absurd (omega (arith, eqb→eq 2 n t))
kept_kind n h (refused c place) y k t = rw k t

pick_mono : (a b : Bool) (n m : ℕ) → (T a → T b) → n ≤ m → pick a (suc n) n ≤ pick b (suc m) m
pick_mono true true n m f h = omega arith
pick_mono true false n m f h = absurd (f tt)
pick_mono false true n m f h = omega arith
pick_mono false false n m f h = h

those_count : (f : Verdict → Bool) (x : Verdict) (xs : List Verdict) → length (those f (x ∷ xs)) ≡ pick (f x) (suc (length (those f xs))) (length (those f xs))
those_count f x xs = go (f x)
  where
    go : (t : Bool) → length (pick t (x ∷ those f xs) (those f xs)) ≡ pick t (suc (length (those f xs))) (length (those f xs))
    go true = refl
    go false = refl

more_of : {A : Type 0} (n : ℕ) → n < 2 → (f g : A → Verdict) → ((a : A) → Kept (f a) (g a)) → (xs : List A) → of_kind n (map f xs) ≤ of_kind n (map g xs)
more_of n l f g h [] = le_refl 0
more_of n l f g h (x ∷ xs) =
    let is : Verdict → Bool = λ v. eqb (kind_of v) n in
    rw (those_count is (f x) (map f xs), those_count is (g x) (map g xs))
    (pick_mono (is (f x)) (is (g x)) (of_kind n (map f xs)) (of_kind n (map g xs)) (kept_kind n l (f x) (g x) (h x)) (more_of n l f g h xs))

-- more budget never lowers the first two counts
pub meets_mono : (ts : Table) (work b b' : ℕ) → b ≤ b' → (counts_of (verdicts ts b work)).meeting ≤ (counts_of (verdicts ts b' work)).meeting
meets_mono ts work b b' h = more_of 0 (omega arith) (verdict_at ts b work) (verdict_at ts b' work) (λ q. kept_at ts work q b b' h) (places ts)

pub misses_mono : (ts : Table) (work b b' : ℕ) → b ≤ b' → (counts_of (verdicts ts b work)).missing ≤ (counts_of (verdicts ts b' work)).missing
misses_mono ts work b b' h = more_of 1 (omega arith) (verdict_at ts b work) (verdict_at ts b' work) (λ q. kept_at ts work q b b' h) (places ts)
