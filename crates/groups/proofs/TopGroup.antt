-- The top group is written part by part.
use mathlib.Core.Path.{◌≡◌, refl, sym, ap, ap₂, ◌∙◌}
use Prim.Native.Nat.{ℕ, zero, suc, ◌<◌}
use native.Mathlib.Omega.{arith}
use mathlib.Core.List.{List, [], ◌∷◌}
use lib.ListN.{length, get_or, length-map}
use Rattle.std.proofs.lemmas.List.{ext_get_or}
use Rattle.rows.specs.Ranges.{range, row_start}
use Rattle.groups.specs.declared.Stretch.{Stretch}
use Rattle.groups.specs.declared.Part.{Part}
use Rattle.groups.specs.Groups.{top_group, row_starts}
use Rattle.groups.proofs.LaidOut.{row_asked}
use Rattle.groups.specs.Lent.{roots, counts, range_in, group_in, starts_in, part_at, Startable, LaidOver, Stands}
use Rattle.groups.proofs.Arrays.{no_range, no_part, no_stretch, root_at, count_at, starts_get, starts_length, group_length, group_get, starts_many, start_get}

top_length : (ns : List ℕ) → length (top_group ns) ≡ length ns
top_length [] = refl
top_length (n ∷ ns) = ap suc (top_length ns)

top_get : (ns : List ℕ) (j : ℕ) → get_or (top_group ns) j no_range ≡ range 0 (get_or ns j 0)
top_get [] j = refl
top_get (n ∷ ns) zero = refl
top_get (n ∷ ns) (suc j) = top_get ns j

-- the whole of the stretch of task j
abbrev pub whole_part : ℕ → List Stretch → ℕ → Part
whole_part d ss j = let s = get_or ss j no_stretch in part_at d s.root (range 0 s.count)

pub top_asks : {d : ℕ} (ss : List Stretch) → LaidOver d ss → (j : ℕ) → j < length ss
    → Startable d (get_or ss j no_stretch).root (range 0 (get_or ss j no_stretch).count)
top_asks ss s j l = row_asked ss s j l (range 0 (get_or ss j no_stretch).count) (omega arith) (omega (arith, count_at ss j, s.paths j l))

-- each part is the whole of its stretch
pub top_all : {d : ℕ} {ss : List Stretch} {b : List Part} → length b ≡ length ss → ((j : ℕ) → j < length b → get_or b j no_part ≡ whole_part d ss j)
    → Stands d ss b (top_group (counts ss))
top_all {d} {ss} {b} e p =
    let xs = top_group (counts ss) in
    let n : length xs ≡ length ss = top_length (counts ss) ∙ length-map ss (λ (s : Stretch). s.count) in
    let m : length (roots ss) ≡ length ss = length-map ss (λ (s : Stretch). s.root) in
    record {
      group = ext_get_or no_range (group_in b) xs (group_length b ∙ e ∙ sym n) (λ j l.
          group_get b j ∙ ap range_in (p j (omega (arith, group_length b)))
          ∙ ap (range 0) (sym (count_at ss j)) ∙ sym (top_get (counts ss) j));
      starts = ext_get_or 0 (starts_in b) (row_starts d (roots ss) xs)
          (starts_many b ∙ e ∙ sym (starts_length d (roots ss) xs (m ∙ sym n) ∙ n)) (λ j l.
          let k : j < length b = omega (arith, starts_many b) in
          start_get b j ∙ ap (λ (x : Part). x.base) (p j k)
          ∙ sym (starts_get d (roots ss) xs j (omega arith) (omega arith)
          ∙ ap₂ (row_start d) (root_at ss j) (top_get (counts ss) j ∙ ap (range 0) (count_at ss j))));
    }
