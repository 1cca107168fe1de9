-- The text of a table, read: what is refused of it, but by 1, is refused of its frames; of a sound table it is what the frames give.
use mathlib.Core.Path.{◌≡◌, refl, sym, subst}
use Prim.Native.Nat.{ℕ, ◌≤◌}
use native.Mathlib.Omega.{arith}
use mathlib.Core.Bool.{Bool, true, false}
use mathlib.Core.Logic.{◌⊎◌, inl, inr}
use mathlib.Core.List.Memᴰ
use mathlib.Core.List.{List, [], ◌∷◌, ◌++◌, map, Memᴰ}
use mathlib.Core.Option.{some}
use lib.ListN.{length}
use lib.Dec.{eqb}
use Rattle.meaning.specs.Lists.{pick, gather}
use Rattle.meaning.specs.Bounds.{most_vertices, most_edges, largest_m}
use Rattle.meaning.specs.Table.{Vertex, Edge, Task, Table}
use Rattle.meaning.specs.Text.{unreadable, read}
use Rattle.meaning.specs.Sound.{SoundVertex, SoundEdge, SoundTask, SoundTable}
use Rattle.meaning.specs.Rings.{PlainFrame, Plain}
use Rattle.meaning.specs.Writing.{in_two, frame_of_task, frame_of_vertex, frame_of_edge, frame_of_end, frames_of_task, frames_of, text_of, ruled}
use Rattle.meaning.proofs.Lists.{each_map, gather_mem}
use Rattle.meaning.proofs.FrameLines.{Framed, AllFramed, read_lines, plain_lines_lem, read_refused_lines}

-- ---- what holds of every frame of a table

-- Q of a task's frames
pub record OfTask (Q : List ℕ → Type 0) (k : Task) : Type 0 where
  pub own : Q (frame_of_task k.m (length k.vertices) (length k.edges))
  pub vertices : (x : Vertex) → Memᴰ x k.vertices → Q (frame_of_vertex x)
  pub edges : (x : Edge) → Memᴰ x k.edges → Q (frame_of_edge x)

task_each : (Q : List ℕ → Type 0) (k : Task) → OfTask Q k → (f : List ℕ) → Memᴰ f (frames_of_task k) → Q f
task_each Q k o f m = go (Memᴰ.cases_cons m)
  where
    part : Memᴰ f (map frame_of_vertex k.vertices) ⊎ Memᴰ f (map frame_of_edge k.edges) → Q f
    part (inl n) = each_map Q frame_of_vertex k.vertices o.vertices f n
    part (inr n) = each_map Q frame_of_edge k.edges o.edges f n

    go : (f ≡ frame_of_task k.m (length k.vertices) (length k.edges))
        ⊎ Memᴰ f (map frame_of_vertex k.vertices ++ map frame_of_edge k.edges) → Q f
    go (inl q) = subst Q (sym q) o.own
    go (inr n) = part (Memᴰ.append_cases (map frame_of_vertex k.vertices) n)

-- of the frames that `frames` gives for each of xs, then the end's
each_frame : {X : Type 0} (Q : List ℕ → Type 0) (frames : X → List (List ℕ)) (xs : List X)
    → ((x : X) → Memᴰ x xs → (f : List ℕ) → Memᴰ f (frames x) → Q f) → Q frame_of_end
    → (f : List ℕ) → Memᴰ f (gather frames xs ++ (frame_of_end ∷ [])) → Q f
each_frame Q frames xs h end f m = go (Memᴰ.append_cases (gather frames xs) m)
  where
    go : Memᴰ f (gather frames xs) ⊎ Memᴰ f (frame_of_end ∷ []) → Q f
    go (inl n) = let r = gather_mem frames xs n in h r.0 r.1 f r.2
    go (inr n) = subst Q (sym (Memᴰ.eq_of_singleton n)) end

all-framed : (fs : List (List ℕ)) → ((f : List ℕ) → Memᴰ f fs → Framed f) → AllFramed fs
all-framed [] h = tt
all-framed (f ∷ fs) h = (h f (Memᴰ.head refl), all-framed fs (λ g m. h g (Memᴰ.tail m)))

-- each has a byte at least
some_bytes : (ts : Table) (f : List ℕ) → Memᴰ f (frames_of ts) → 1 ≤ length f
some_bytes ts f m =
    let Some : List ℕ → Type 0 = λ g. 1 ≤ length g in
    each_frame Some frames_of_task ts
    (λ k n. task_each Some k (record { own = own (eqb k.m 0) k; vertices = λ x i. omega arith; edges = λ x i. omega arith })) (omega arith) f m
  where
    own : (b : Bool) (k : Task)
        → 1 ≤ length (pick b (1 ∷ length k.vertices ∷ length k.edges ∷ []) (4 ∷ length k.vertices ∷ length k.edges ∷ in_two k.m))
    own true k = omega arith
    own false k = omega arith

-- "the writer never writes those": its frames are 00 to 04
pub text_plain : (ts : Table) → Plain (text_of ts)
unfolding text_of
text_plain ts =
    plain_lines_lem (frames_of ts)
    (λ f m. (
      some_bytes ts f m,
      each_frame (λ g. PlainFrame (some g)) frames_of_task ts
          (λ k n. task_each (λ g. PlainFrame (some g)) k (record { own = own (eqb k.m 0) k; vertices = λ x i. refl; edges = λ x i. refl })) refl f m,
    ))
  where
    own : (b : Bool) (k : Task)
        → PlainFrame (some (pick b (1 ∷ length k.vertices ∷ length k.edges ∷ []) (4 ∷ length k.vertices ∷ length k.edges ∷ in_two k.m)))
    own true k = refl
    own false k = refl

-- ---- a sound table's numbers fit their bytes

own_framed : (m v e : ℕ) → m ≤ largest_m → v ≤ most_vertices → e ≤ most_edges → Framed (frame_of_task m v e)
own_framed m v e a b c = go (eqb m 0)
  where
    go : (x : Bool) → Framed (pick x (1 ∷ v ∷ e ∷ []) (4 ∷ v ∷ e ∷ in_two m))
    go true = (omega arith, (omega arith, (omega arith, (omega arith, tt))))
    go false = (omega arith, (omega arith, (omega arith, (omega arith, (omega arith, (omega arith, tt))))))

vertex-framed : (x : Vertex) → SoundVertex x → Framed (frame_of_vertex x)
vertex-framed x s =
    let e = s.most_e in
    let d = s.most_d in
    (omega arith, (omega arith, (omega arith, (omega arith, (omega arith, (omega arith, tt))))))

edge-framed : (vs : List Vertex) → length vs ≤ most_vertices → (x : Edge) → SoundEdge vs x → Framed (frame_of_edge x)
edge-framed vs h x s =
    let f = s.from_in in
    let t = s.to_in in
    let p = s.most_p in
    (omega arith, (omega arith, (omega arith, (omega arith, (omega arith, (omega arith, tt))))))

pub task-framed : (k : Task) → SoundTask k → (f : List ℕ) → Memᴰ f (frames_of_task k) → Framed f
task-framed k s =
    task_each Framed k
    (record {
      own = own_framed k.m (length k.vertices) (length k.edges) s.most_m s.vertex_count s.edge_count;
      vertices = λ x i. vertex-framed x (s.each_vertex x i);
      edges = λ x i. edge-framed k.vertices s.vertex_count x (s.each_edge x i);
    })

pub all_gathered : {X : Type 0} (frames : X → List (List ℕ)) (xs : List X)
    → ((x : X) → Memᴰ x xs → (f : List ℕ) → Memᴰ f (frames x) → Framed f) → AllFramed (gather frames xs ++ (frame_of_end ∷ []))
all_gathered frames xs h = all-framed (gather frames xs ++ (frame_of_end ∷ [])) (each_frame Framed frames xs h (omega arith, (omega arith, tt)))

sound_framed : (ts : Table) → SoundTable ts → AllFramed (frames_of ts)
sound_framed ts s = all_gathered frames_of_task ts (λ k m. task-framed k (s.each_task k m))

-- ---- what is read of the text

pub sound_read : (ts : Table) → SoundTable ts → read (text_of ts) ≡ ruled ts
unfolding text_of ruled
sound_read ts s = read_lines (frames_of ts) (sound_framed ts s)

pub refused_read : (ts : Table) (k n : ℕ) → 2 ≤ k → read (text_of ts) ≡ unreadable k n → ruled ts ≡ unreadable k n
unfolding text_of ruled
refused_read ts k n l e = read_refused_lines (frames_of ts) (some_bytes ts) k n l e
