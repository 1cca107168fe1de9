-- The places of a group's first paths, one after the other.
use mathlib.Core.Path.{◌≡◌, refl, sym, ap, ap₂, ◌∙◌}
use Prim.Native.Nat.{ℕ, suc, ◌+◌, ◌<◌}
use native.Mathlib.Omega.{arith}
use native.Mathlib.Numerals.{add-one}
use mathlib.Core.List.{List, [], ◌∷◌, ◌++◌, append_assoc}
use lib.ListN.{length, take, drop, get_or, set, replicate, length-append, length-map, get_or-map}
use lib.Seq.{take-suc, take_all, set_at, drop-cons, length-take-le}
use Rattle.meaning.specs.Bounds.{most_higher}
use Rattle.rows.specs.Ranges.{Range}
use Rattle.groups.specs.declared.Part.{Part}
use Rattle.groups.specs.Groups.{firsts}
use Rattle.groups.specs.Lent.{group_in}
use Rattle.groups.proofs.Arrays.{no_range, no_part, group_length, group_get}
use Rattle.walk.specs.Steps.{in_places}

-- one more place, behind those that are set
place_more : (ps : List ℕ) (v : ℕ) → length ps < most_higher → set (in_places ps) (length ps) v ≡ in_places (ps ++ (v ∷ []))
place_more ps v l =
    let zeros : List ℕ = replicate most_higher 0 in
    let n = length ps in
    let one : suc n ≡ length (ps ++ (v ∷ [])) = sym (length-append ps (v ∷ []) ∙ add-one n) in
    ap (λ (z : List ℕ). set (ps ++ z) n v) (drop-cons zeros n 0 l)
    ∙ set_at ps (get_or zeros n 0) (drop (suc n) zeros) v n refl
    ∙ sym (append_assoc ps (v ∷ []) (drop (suc n) zeros))
    ∙ ap (λ (m : ℕ). (ps ++ (v ∷ [])) ++ drop m zeros) one

module _ (a : List Part) where
  abbrev pub places : List ℕ
  places = firsts (group_in a)

  many : length places ≡ length a
  many = length-map (group_in a) (λ (x : Range). x.first) ∙ group_length a

  pub places_more : (j : ℕ) → j < length a → length a < suc most_higher → {ps : List ℕ} → ps ≡ in_places (take j places)
      → set ps j (get_or a j no_part).first ≡ in_places (take (j + 1) places)
  places_more j l few {ps} e =
      let v = (get_or a j no_part).first in
      let front : length (take j places) ≡ j = length-take-le j places (omega (arith, many)) in
      let at : get_or places j 0 ≡ v = get_or-map (λ (x : Range). x.first) (group_in a) j no_range ∙ ap (λ (x : Range). x.first) (group_get a j) in
      ap₂ (λ (z : List ℕ) (i : ℕ). set z i v) e (sym front)
      ∙ place_more (take j places) v (omega arith)
      ∙ ap in_places (ap (λ (n : ℕ). take j places ++ (n ∷ [])) (sym at) ∙ sym (take-suc places j 0 (omega (arith, many))))
      ∙ ap (λ (n : ℕ). in_places (take n places)) (sym (add-one j))

  pub places_all : (j : ℕ) → length a ≡ j → {ps : List ℕ} → ps ≡ in_places (take j places) → ps ≡ in_places places
  places_all j q e = e ∙ ap in_places (take_all j places (omega (arith, many)))
