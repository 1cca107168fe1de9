-- There is only one way for parts to stand at a group.
use mathlib.Core.Path.{◌≡◌, sym, ap, ap₂, ◌∙◌}
use Prim.Native.Nat.{ℕ}
use mathlib.Core.List.{List}
use lib.ListN.{length, get_or}
use Rattle.std.proofs.lemmas.List.{ext_get_or}
use Rattle.rows.specs.Ranges.{Range}
use Rattle.groups.specs.declared.Stretch.{Stretch}
use Rattle.groups.specs.declared.Part.{Part}
use Rattle.groups.specs.Lent.{group_in, starts_in, Stands}
use Rattle.groups.proofs.Arrays.{no_range, no_part, group_length, group_get, start_get}

-- parts with the same ranges and the same starts
same_parts : (b c : List Part) → group_in b ≡ group_in c → starts_in b ≡ starts_in c → b ≡ c
same_parts b c p q = ext_get_or no_part b c (sym (group_length b) ∙ ap length p ∙ group_length c) (λ j l. same j)
  where
    same : (j : ℕ) → get_or b j no_part ≡ get_or c j no_part
    same j =
        let r = sym (group_get b j) ∙ ap (λ (z : List Range). get_or z j no_range) p ∙ group_get c j in
        let s = sym (start_get b j) ∙ ap (λ (z : List ℕ). get_or z j 0) q ∙ start_get c j in
        ap₂ {C = Part} (λ (n : ℕ) (x : Range). record { base = n; first = x.first; len = x.len }) s r

pub stands_settled : {d : ℕ} {ss : List Stretch} {b c : List Part} {xs : List Range} → Stands d ss b xs → Stands d ss c xs → b ≡ c
stands_settled {b = b} {c = c} v w = same_parts b c (v.group ∙ sym w.group) (v.starts ∙ sym w.starts)
