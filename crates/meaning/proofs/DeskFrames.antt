-- The desk's frames: none is 11, and of a 12 the two bytes of its length say how many vertices follow. It refuses a vertex by 9 or 10 alone.
use mathlib.Core.Path.{◌≡◌, refl, sym, ap, subst, ◌∙◌}
use Prim.Native.Nat.{ℕ, zero, suc, ◌+◌, ◌≤◌, ◌<◌}
use native.Mathlib.Omega.{arith}
use mathlib.Core.Bool.{Bool, true, false}
use mathlib.Core.Logic.{◌⊎◌, inl, inr}
use mathlib.Core.List.Memᴰ
use mathlib.Core.List.{List, [], ◌∷◌, map, Memᴰ}
use lib.ListN.{length, drop, get_or}
use lib.Dec.{ltb}
use borrow.Author.Tests.{le-ltb}
use Rattle.meaning.specs.Lists.{gather}
use Rattle.meaning.specs.Bounds.{largest_d, longest_input, desk_budget, desk_work, desk_witness}
use Rattle.meaning.specs.Table.{Table}
use Rattle.meaning.specs.Paths.{Path}
use Rattle.meaning.specs.Text.{Reading, readable, unreadable, read, word}
use Rattle.meaning.specs.Verdict.{Verdict, meets, misses, unfinished, refused, miss_paths, plain}
use Rattle.meaning.specs.Whole.{Place, places, counts_of}
use Rattle.meaning.specs.Sound.{SoundTable}
use Rattle.meaning.specs.Desk.{path_frame, path_frames, vertex_frames, counts_frame, refusal_frame, desk_verdict, table_frames, reading_frames, frames}
use Rattle.meaning.proofs.Lists.{mem_gather, gather_mem}
use Rattle.meaning.proofs.Readable.{read_sound}
use Rattle.meaning.proofs.LongestText.{longest_text_lem}
use Rattle.meaning.proofs.MissPaths.{miss_count, miss_short}
use Rattle.meaning.proofs.Whole.{place_in, verdict_at_lem, nine_or_ten, desk_witness_lem}

pub record Right (f : List ℕ) : Type 0 where
  pub old : get_or f 0 0 ≡ 17 → ⊥
  pub said : get_or f 0 0 ≡ 18 → (get_or f 2 0 < 256) × (get_or f 3 0 < 256) × (word f 2 ≡ length (drop 4 f))

-- a frame of another kind
other : {f : List ℕ} (n : ℕ) → get_or f 0 0 ≡ n → (n ≡ 17 → ⊥) → (n ≡ 18 → ⊥) → Right f
other n e a b = record { old = λ h. a (sym e ∙ h); said = λ h. absurd (b (sym e ∙ h)) }

path_right : (i : ℕ) (w : Path) → length w ≤ largest_d → Right (path_frame i w)
path_right i w l = record { old = λ h. absurd (omega (arith, h)); said = λ h. (omega arith, omega arith, omega (arith, l)) }

paths_right : (i : ℕ) (ws : List Path) → ((w : Path) → Memᴰ w ws → length w ≤ largest_d) → (f : List ℕ) → Memᴰ f (path_frames i ws) → Right f
paths_right i [] s f m = absurd (Memᴰ.not-nil m)
paths_right i (w ∷ ws) s f (Memᴰ.head e) = subst Right (sym e) (path_right i w (s w (Memᴰ.head refl)))
paths_right i (w ∷ ws) s f (Memᴰ.tail m) = paths_right (suc i) ws (λ v n. s v (Memᴰ.tail n)) f m

module _ (ts : Table) (s : SoundTable ts) where
  vertex-right : (q : Place) → Memᴰ q (places ts) → (f : List ℕ) → Memᴰ f (vertex_frames q (desk_verdict ts q)) → Right f
  vertex-right q m f n = go (desk_verdict ts q) refl n
    where
      behind : (x : Verdict) → desk_verdict ts q ≡ x → Memᴰ f (path_frames 0 (miss_paths x)) → Right f
      behind (meets c) e k = absurd (Memᴰ.not-nil k)
      behind (misses c ws) e k =
          let p = place_in ts q m in
          paths_right 0 ws (miss_short ts s q.task q.vertex p.0 p.1 plain desk_budget desk_work desk_witness c ws e) f k
      behind (unfinished b) e k = absurd (Memᴰ.not-nil k)
      behind (refused r place) e k = absurd (Memᴰ.not-nil k)

      go : (x : Verdict) → desk_verdict ts q ≡ x → Memᴰ f (vertex_frames q x) → Right f
      go x e (Memᴰ.head h) = subst Right (sym h) (other 16 refl (λ z. omega (arith, z)) (λ z. omega (arith, z)))
      go x e (Memᴰ.tail k) = behind x e k

  table_right : (f : List ℕ) → Memᴰ f (table_frames ts) → Right f
  table_right f m = go (Memᴰ.append_cases (gather (λ (q : Place). vertex_frames q (desk_verdict ts q)) (places ts)) m)
    where
      go : Memᴰ f (gather (λ (q : Place). vertex_frames q (desk_verdict ts q)) (places ts))
          ⊎ Memᴰ f (counts_frame (counts_of (map (desk_verdict ts) (places ts))) ∷ []) → Right f
      go (inl n) = let g = gather_mem (λ (q : Place). vertex_frames q (desk_verdict ts q)) (places ts) n in vertex-right g.0 g.1 f g.2
      go (inr (Memᴰ.head h)) = subst Right (sym h) (other 31 refl (λ z. omega (arith, z)) (λ z. omega (arith, z)))
      go (inr (Memᴰ.tail k)) = absurd (Memᴰ.not-nil k)

  -- 8 isn't given of a vertex that is there, nor 11 with an area that is always long enough
  pub desk_refuses : (q : Place) → Memᴰ q (places ts) → (k n : ℕ) → desk_verdict ts q ≡ refused k n → (k ≡ 9) ⊎ (k ≡ 10)
  desk_refuses q m k n e = nine_or_ten ts desk_budget desk_work q m k n (verdict_at_lem ts desk_budget desk_work desk_witness q (desk_witness_lem ts s q m) ∙ e)

refusal-right : (k n : ℕ) (f : List ℕ) → Memᴰ f (refusal_frame k n ∷ []) → Right f
refusal-right k n f (Memᴰ.head h) = subst Right (sym h) (other 30 refl (λ z. omega (arith, z)) (λ z. omega (arith, z)))
refusal-right k n f (Memᴰ.tail m) = absurd (Memᴰ.not-nil m)

pub frames-right : (text f : List ℕ) → Memᴰ f (frames text) → Right f
frames-right text f m = long (ltb longest_input (length text)) refl m
  where
    reading : (r : Reading) → read text ≡ r → Memᴰ f (reading_frames r) → Right f
    reading (readable ts) e n = table_right ts (read_sound text ts e) f n
    reading (unreadable k n) e z = refusal-right k n f z

    long : (b : Bool) → ltb longest_input (length text) ≡ b
        → Memᴰ f (elim b [ true ↦ refusal_frame 12 0 ∷ [] | false ↦ reading_frames (read text) ]) → Right f
    long true e n = refusal-right 12 0 f n
    long false e n = reading (read text) refl n

-- ---- a miss's frames are among them

path_frame_in : (i : ℕ) (ws : List Path) (j : ℕ) → j < length ws → Memᴰ (path_frame (i + j) (get_or ws j [])) (path_frames i ws)
path_frame_in i [] j h = absurd (omega arith)
path_frame_in i (w ∷ ws) zero h = let e : i + 0 ≡ i = omega arith in Memᴰ.head (ap (λ (n : ℕ). path_frame n w) e)
path_frame_in i (w ∷ ws) (suc j) h =
    let e : suc i + j ≡ i + suc j = omega arith in
    Memᴰ.tail (subst (λ (n : ℕ). Memᴰ (path_frame n (get_or ws j [])) (path_frames (suc i) ws)) e (path_frame_in (suc i) ws j (omega arith)))

module _ (text : List ℕ) (ts : Table) (e : read text ≡ readable ts) where
  frames-read : frames text ≡ table_frames ts
  frames-read =
      let short : length text ≤ longest_input = omega (arith, longest_text_lem.none_longer text ts e) in
      ap (λ (b : Bool). elim b [ true ↦ refusal_frame 12 0 ∷ [] | false ↦ reading_frames (read text) ]) (le-ltb longest_input (length text) short)
      ∙ ap reading_frames e

  pub miss_shown : (q : Place) → Memᴰ q (places ts) → (c : ℕ) (ws : List Path) → desk_verdict ts q ≡ misses c ws
      → (length ws ≡ q.task) × ((i : ℕ) → i < q.task → Memᴰ (path_frame i (get_or ws i [])) (frames text))
  miss_shown q m c ws v =
      let p = place_in ts q m in
      let many = miss_count ts (read_sound text ts e) q.task q.vertex p.0 p.1 plain desk_budget desk_work desk_witness c ws v in
      (many, λ i h. subst (Memᴰ (path_frame i (get_or ws i []))) (sym frames-read) (among i (omega (arith, many))))
    where
      own : (i : ℕ) → i < length ws → Memᴰ (path_frame i (get_or ws i [])) (vertex_frames q (desk_verdict ts q))
      own i h =
          let z : 0 + i ≡ i = omega arith in
          subst (λ (x : Verdict). Memᴰ (path_frame i (get_or ws i [])) (vertex_frames q x)) (sym v)
          (Memᴰ.tail (subst (λ (n : ℕ). Memᴰ (path_frame n (get_or ws i [])) (path_frames 0 ws)) z (path_frame_in 0 ws i h)))

      among : (i : ℕ) → i < length ws → Memᴰ (path_frame i (get_or ws i [])) (table_frames ts)
      among i h =
          Memᴰ.append_left (counts_frame (counts_of (map (desk_verdict ts) (places ts))) ∷ [])
          (mem_gather (λ (r : Place). vertex_frames r (desk_verdict ts r)) m (own i h))
