-- What each kind of frame keeps of what holds before its line: the rules that a table keeps, and how far the lines have come.
use mathlib.Core.Path.{◌≡◌, refl, sym, subst, ◌∙◌}
use Prim.Native.Nat.{ℕ, suc, ◌+◌, ◌-◌, ◌*◌, ◌≤◌, ◌<◌, min}
use native.Mathlib.Omega.{arith}
use mathlib.Core.Bool.{Bool, true, false, ◌&&◌, ◌||◌}
use mathlib.Core.Logic.{◌⊎◌, inl, inr}
use mathlib.Core.Option.{Option, none, some}
use mathlib.Core.List.Memᴰ
use mathlib.Core.List.{List, [], ◌∷◌, ◌++◌, Memᴰ}
use lib.ListN.{length, get_or, get_or-append}
use lib.Seq.{get_or-append_seam}
use lib.Dec.{T, ltb, leb, eqb, leb→le, ltb→lt, eqb→eq}
use Rattle.meaning.specs.Lists.{pick, Rising}
use Rattle.meaning.specs.Bounds.{most_tasks, most_vertices, most_edges, largest_p, largest_m}
use Rattle.meaning.specs.Table.{Vertex, Edge, Task, Table, vertex, edge, task, no_vertex, largest_e_in}
use Rattle.meaning.specs.Text.{Begun, closed, Step, on, over, wrong, within}
use Rattle.meaning.specs.Text.{task_frame, mask_fits, vertex_frame, after_last, edge_frame, ring_to, gear_to, vendor_frame, link_frame}
use Rattle.meaning.specs.Sound.{SoundVertex, SoundEdge, EdgeBefore, SoundTask, AllSound, SoundTable}
use Rattle.meaning.specs.Texts.{most_lines, last_line}
use Rattle.meaning.specs.Slips.{LineRow}
use borrow.Author.Tests.{le-leb, le-ltb, ltb-true}
use Rattle.meaning.proofs.Lists.{both_left, both_right, length_snoc}
use Rattle.meaning.proofs.Rising.{rising_one, rising_append}
use Rattle.meaning.proofs.FrameSteps.{task_each, vertex_each, edge_each, vendor_each, link_each}

-- ---- one more at the end of a list

each_snoc : {A : Type 0} {Q : A → Type 0} (xs : List A) (x : A) → ((y : A) → Memᴰ y xs → Q y) → Q x → (y : A) → Memᴰ y (xs ++ (x ∷ []))
    → Q y
each_snoc {A} {Q} xs x h q y m = go (Memᴰ.append_cases xs m)
  where
    go : Memᴰ y xs ⊎ Memᴰ y (x ∷ []) → Q y
    go (inl k) = h y k
    go (inr k) = subst Q (sym (Memᴰ.eq_of_singleton k)) q

-- an edge of a task that will have n vertices, of which vs are read: its start is one of them, and its end may be still to come
pub record HeldEdge (vs : List Vertex) (n : ℕ) (x : Edge) : Type 0 where
  pub from_in : x.from < length vs
  pub to_in : x.to < n
  pub some_p : 1 ≤ x.p
  pub most_p : x.p ≤ largest_p
  pub spaced : (get_or vs x.from no_vertex).d ≤ x.p

-- it stays one when its task gets another vertex
edge_snoc : (vs : List Vertex) (y : Vertex) (n k : ℕ) (x : Edge) → HeldEdge vs n x → n ≡ k → HeldEdge (vs ++ (y ∷ [])) k x
edge_snoc vs y n k x s e =
    let more = length_snoc vs y in
    record {
      from_in = omega (arith, s.from_in);
      to_in = omega (arith, s.to_in);
      some_p = s.some_p;
      most_p = s.most_p;
      spaced = rw (get_or-append vs (y ∷ []) no_vertex x.from s.from_in) s.spaced;
    }

-- and is sound behind the last
edge_sound : (vs : List Vertex) (n : ℕ) (x : Edge) → n ≡ length vs → HeldEdge vs n x → SoundEdge vs x
edge_sound vs n x e s = record { from_in = s.from_in; to_in = omega (arith, s.to_in); some_p = s.some_p; most_p = s.most_p; spaced = s.spaced }

-- ---- edges in order

before_trans : (x y z : Edge) → EdgeBefore x y → EdgeBefore y z → EdgeBefore x z
before_trans x y z (inl a) (inl b) = inl (omega arith)
before_trans x y z (inl a) (inr b) = inl (omega (arith, b.0))
before_trans x y z (inr a) (inl b) = inl (omega (arith, a.0))
before_trans x y z (inr a) (inr b) = inr (a.0 ∙ b.0, omega (arith, a.1, b.1))

test_before : (a b c : Bool) (x y : Edge) → (T a → x.from < y.from) → (T b → x.from ≡ y.from) → (T c → x.to < y.to) → T (a || (b && c))
    → EdgeBefore x y
test_before true b c x y f g h t = inl (f tt)
test_before false b c x y f g h t = inr (g (both_left b c t), h (both_right b c t))

after_all : (es : List Edge) (x : Edge) → Rising EdgeBefore es → T (after_last es x) → (y : Edge) → Memᴰ y es → EdgeBefore y x
after_all [] x r t y m = absurd (Memᴰ.not-nil m)
after_all (z ∷ []) x r t y m =
    subst (λ (w : Edge). EdgeBefore w x) (sym (Memᴰ.eq_of_singleton m))
    (test_before (ltb z.from x.from) (eqb z.from x.from) (ltb z.to x.to) z x
    (ltb→lt z.from x.from) (eqb→eq z.from x.from) (ltb→lt z.to x.to) t)
after_all (z ∷ w ∷ es) x r t y m = go (after_all (w ∷ es) x r.1 t) (Memᴰ.cases_cons m)
  where
    go : ((v : Edge) → Memᴰ v (w ∷ es) → EdgeBefore v x) → (y ≡ z) ⊎ Memᴰ y (w ∷ es) → EdgeBefore y x
    go ih (inl q) = subst (λ (v : Edge). EdgeBefore v x) (sym q) (before_trans z w x (r.0 w (Memᴰ.head refl)) (ih w (Memᴰ.head refl)))
    go ih (inr k) = ih y k

rising_snoc : (es : List Edge) (x : Edge) → Rising EdgeBefore es → T (after_last es x) → Rising EdgeBefore (es ++ (x ∷ []))
rising_snoc es x r t =
    rising_append EdgeBefore es (x ∷ []) r (rising_one EdgeBefore x)
    (λ y z m n. subst (λ (w : Edge). EdgeBefore y w) (sym (Memᴰ.eq_of_singleton n)) (after_all es x r t y m))

-- ---- what holds before line n

-- every one of n vertices leads to one of them
abbrev pub Leads : (ℕ → ℕ) → ℕ → Type 0
Leads to n = (i : ℕ) → i < n → to i < n

-- what more a ring or a gear table keeps: as many edges as vertices, each vertex leads to one of the task's, no masked length
abbrev pub Led : Begun → Option (ℕ → ℕ) → Type 0
Led s none = Unit {0}
Led s (some to) = (length s.edges ≡ length s.vertices) × Leads to (length s.vertices + s.want_v) × (s.m ≡ 0)

pub record HeldSoFar (n : ℕ) (s : Begun) : Type 0 where
  pub tasks : AllSound s.tasks
  pub task_count : length s.tasks < most_tasks
  pub vertex_count : length s.vertices + s.want_v ≤ most_vertices
  pub edge_count : length s.edges + s.want_e ≤ most_edges
  pub mask : s.m ≤ largest_m
  pub covered : s.want_v ≡ 0 → s.m ≤ largest_e_in s.vertices
  pub vertices : (x : Vertex) → Memᴰ x s.vertices → SoundVertex x
  pub edges : (x : Edge) → Memᴰ x s.edges → HeldEdge s.vertices (length s.vertices + s.want_v) x
  pub rising : Rising EdgeBefore s.edges
  pub led : Led s s.leads
  pub first : 1 ≤ n
  -- the whole tasks' lines, then the open task's: it has a line of its own as soon as it has or wants a vertex
  pub line : n ≤ most_lines * length s.tasks + length s.vertices + length s.edges + 1 + min 1 (length s.vertices + s.want_v)

-- the rows that refuse a line before the end
abbrev FrameRow : ℕ → Type 0
FrameRow k = LineRow 1 5 k

-- not allowed here, outside its bounds
pub not_here : FrameRow 2
not_here = inl (omega arith, omega arith)

outside : FrameRow 3
outside = inl (omega arith, omega arith)

-- what a step at line n keeps
abbrev pub Ok : ℕ → Step → Type 0
Ok n (on s) = HeldSoFar (suc n) s
Ok n (over ts) = SoundTable ts × (n < last_line)
Ok n (wrong k) = FrameRow k

-- ---- the task that was just read to its end

no_edges_lem : (n : ℕ) (es : List Edge) → ((x : Edge) → Memᴰ x es → HeldEdge [] n x) → length es ≡ 0
no_edges_lem n [] h = refl
no_edges_lem n (x ∷ es) h = absurd (omega (arith, (h x (Memᴰ.head refl)).from_in))

pub record Closed (n : ℕ) (ts : Table) : Type 0 where
  pub sound : AllSound ts
  pub line : n ≤ most_lines * length ts + 1
  pub count : length ts ≤ most_tasks

module _ (n : ℕ) (ts : List Task) (m : ℕ) (es : List Edge) (v e : ℕ) (l : Option (ℕ → ℕ)) where
  abbrev reading : List Vertex → Begun
  reading vs = record { tasks = ts; m = m; vertices = vs; edges = es; want_v = v; want_e = e; leads = l }

  open_sound : (x : Vertex) (vs : List Vertex) → v ≡ 0 → HeldSoFar n (reading (x ∷ vs)) → SoundTask (task m (x ∷ vs) es)
  open_sound x vs w h =
      record {
        some_vertex = omega arith;
        vertex_count = omega (arith, h.vertex_count);
        edge_count = omega (arith, h.edge_count);
        most_m = h.mask;
        covered = h.covered w;
        each_vertex = h.vertices;
        each_edge = λ y i. edge_sound (x ∷ vs) (length (x ∷ vs) + v) y (omega (arith, w)) (h.edges y i);
        rising = h.rising;
      }

  pub closed-held : (vs : List Vertex) → v ≡ 0 → HeldSoFar n (reading vs) → Closed n (closed (reading vs))
  closed-held [] w h = record { sound = h.tasks; line = omega (arith, h.line, no_edges_lem (0 + v) es h.edges); count = omega (arith, h.task_count) }
  closed-held (x ∷ vs) w h =
      let k : Task = task m (x ∷ vs) es in
      let more = length_snoc ts k in
      record {
        sound = each_snoc ts k h.tasks (open_sound x vs w h);
        line = omega (arith, h.line, h.vertex_count, h.edge_count);
        count = omega (arith, h.task_count);
      }

-- ---- each kind of frame

pub task_ok : (n : ℕ) (s : Begun) (v e least m : ℕ) → Closed n (closed s) → length (closed s) < most_tasks → Ok n (task_frame s v e least m)
task_ok n s v e least m c h =
    task_each (Ok n) s v e least m outside
    (λ some v_in e_in low m_in.
    record {
      tasks = c.sound;
      task_count = h;
      vertex_count = omega (arith, v_in);
      edge_count = omega (arith, e_in);
      mask = m_in;
      covered = λ z. absurd (omega (arith, z, some));
      vertices = λ x m. absurd (Memᴰ.not-nil m);
      edges = λ x m. absurd (Memᴰ.not-nil m);
      rising = tt;
      led = tt;
      first = omega arith;
      line = omega (arith, c.line, some);
    })

-- behind the last vertex
fits_last : (s : Begun) (vs : List Vertex) → T (mask_fits s vs) → s.want_v - 1 ≡ 0 → s.m ≤ largest_e_in vs
fits_last s vs t z = leb→le s.m (largest_e_in vs) (subst (λ (b : Bool). T (b || leb s.m (largest_e_in vs))) (le-ltb 1 s.want_v (omega (arith, z))) t)

pub within_true : (low high n : ℕ) → low ≤ n → n ≤ high → within low high n ≡ true
within_true low high n a b = rw (le-leb low n a, le-leb n high b)

pub vertex_ok : (n : ℕ) (s : Begun) (e d : ℕ) → HeldSoFar n s → 1 ≤ s.want_v → Ok n (vertex_frame s e d)
vertex_ok n s e d h w =
    let x : Vertex = vertex e d in
    let vs = s.vertices ++ (x ∷ []) in
    let more = length_snoc s.vertices x in
    vertex_each (Ok n) s e d (λ i. outside) (λ i. inr refl) (λ i. outside)
    (λ sound fits.
    record {
      tasks = h.tasks;
      task_count = h.task_count;
      vertex_count = omega (arith, h.vertex_count);
      edge_count = h.edge_count;
      mask = h.mask;
      covered = fits_last s vs fits;
      vertices = each_snoc s.vertices x h.vertices sound;
      edges = λ y m. edge_snoc s.vertices x (length s.vertices + s.want_v) (length vs + (s.want_v - 1)) y (h.edges y m) (omega arith);
      rising = h.rising;
      led = tt;
      first = omega arith;
      line = omega (arith, h.line);
    })

pub edge_ok : (n : ℕ) (s : Begun) (f t p : ℕ) → HeldSoFar n s → s.want_v ≡ 0 → 1 ≤ s.want_e → Ok n (edge_frame s f t p)
edge_ok n s f t p h w m =
    let x : Edge = edge f t p in
    let more = length_snoc s.edges x in
    let vs = s.vertices in
    let same : length vs + s.want_v ≡ length vs + 0 = omega (arith, w) in
    edge_each (Ok n) s f t p outside (inl (omega arith, omega arith)) (inl (omega arith, omega arith))
    (λ sound after.
    record {
      tasks = h.tasks;
      task_count = h.task_count;
      vertex_count = omega (arith, h.vertex_count);
      edge_count = omega (arith, h.edge_count);
      mask = h.mask;
      covered = λ z. h.covered w;
      vertices = h.vertices;
      edges = each_snoc s.edges x (λ y i. subst (λ (k : ℕ). HeldEdge vs k y) same (h.edges y i)) (record {
        from_in = sound.from_in;
        to_in = omega (arith, sound.to_in);
        some_p = sound.some_p;
        most_p = sound.most_p;
        spaced = sound.spaced;
      });
      rising = rising_snoc s.edges x h.rising after;
      led = tt;
      first = omega arith;
      line = omega (arith, h.line);
    })

-- ---- a ring's and a gear table's

pub ring_leads : (n : ℕ) → Leads (ring_to n) n
ring_leads n i h = go (ltb (suc i) n) refl
  where
    go : (b : Bool) → ltb (suc i) n ≡ b → pick b (suc i) 0 < n
    go true e = ltb-true (suc i) n e
    go false e = omega arith

pub gear_leads : (n : ℕ) → Leads (gear_to n) n
gear_leads n i h = h

pub vendor_ok : (n : ℕ) (s : Begun) (to : ℕ → ℕ → ℕ) (v : ℕ) → Leads (to v) v → Closed n (closed s) → length (closed s) < most_tasks → Ok n (vendor_frame s to v)
vendor_ok n s to v leads c h =
    vendor_each (Ok n) s to v outside
    (λ some v_in.
    let none : 0 + v ≡ v = omega arith in
    record {
      tasks = c.sound;
      task_count = h;
      vertex_count = omega (arith, v_in);
      edge_count = omega arith;
      mask = omega arith;
      covered = λ z. absurd (omega (arith, z, some));
      vertices = λ x m. absurd (Memᴰ.not-nil m);
      edges = λ x m. absurd (Memᴰ.not-nil m);
      rising = tt;
      led = (refl, rw none leads, refl);
      first = omega arith;
      line = omega (arith, c.line, some);
    })

-- the facts of both: wherever its vertices lead, its edges are rising, end in the task, keep d at most p, and are as many as its vertices
pub link_ok : (n : ℕ) (s : Begun) (to : ℕ → ℕ) (e d p : ℕ) → HeldSoFar n s → 1 ≤ s.want_v → Led s (some to) → Ok n (link_frame s to e d p)
link_ok n s to e d p h w led =
    let i = length s.vertices in
    let x : Vertex = vertex e d in
    let y : Edge = edge i (to i) p in
    let vs = s.vertices ++ (x ∷ []) in
    let more = length_snoc s.vertices x in
    let more_edges = length_snoc s.edges y in
    let total : i + s.want_v ≡ length vs + (s.want_v - 1) = omega arith in
    link_each (Ok n) s to e d p (λ o. outside) (λ o q. inr refl) (λ o. inl (omega arith, omega arith))
    (λ sound.
    record {
      tasks = h.tasks;
      task_count = h.task_count;
      vertex_count = omega (arith, h.vertex_count);
      edge_count = omega (arith, h.vertex_count, led.0);
      mask = h.mask;
      covered = λ z. omega (arith, led.2);
      vertices = each_snoc s.vertices x h.vertices sound.vertex;
      edges = each_snoc s.edges y (λ z m. edge_snoc s.vertices x (i + s.want_v) (length vs + (s.want_v - 1)) z (h.edges z m) total) (record {
        from_in = omega arith;
        to_in = omega (arith, total, led.1 i (omega arith));
        some_p = sound.some_p;
        most_p = sound.most_p;
        spaced = rw (get_or-append_seam s.vertices x [] no_vertex) sound.spaced;
      });
      rising = rising_append EdgeBefore s.edges (y ∷ []) h.rising (rising_one EdgeBefore y) (λ a b m k.
          subst (λ (z : Edge). EdgeBefore a z) (sym (Memᴰ.eq_of_singleton k)) (inl (h.edges a m).from_in));
      led = (omega (arith, led.0), rw (← total) led.1, led.2);
      first = omega arith;
      line = omega (arith, h.line);
    })
