-- Two tables that are written alike: the same line of both is found to break a rule, or they are the same table.
use mathlib.Core.Path.{◌≡◌, refl, sym, ap, ap₂, ◌∙◌}
use Prim.Native.Nat.{ℕ}
use mathlib.Core.List.{List, ◌∷◌}
use lib.ListN.{length}
use Rattle.meaning.specs.Table.{Table}
use Rattle.meaning.specs.Text.{Reading, readable}
use Rattle.meaning.specs.Writing.{text_of, Writing, writing, writing_by, writing_numbers, area_after}
use Rattle.kinds.specs.declared.RefusedAt.{RefusedAt}
use Rattle.table.specs.declared.Table as Record
use Rattle.std.specs.Prelude.{Ok, Err}
use Rattle.checks.specs.Checks.{Check, kept as no_fault, table_check}
use Rattle.checks.proofs.InOrder.{Order, broken_apart}
use Rattle.checks.proofs.Ruled.{unless, ruled_is}
use Rattle.writer.specs.Written.{Written, Writes}
use Rattle.cells.specs.Inner.{WrittenAlike, CellsWritten}

-- the same is found in both, and where that is nothing they are one thing
pub record Alike {X : Type 0} (check : X → Check) (a b : X) : Type 0 where
  pub same : check a ≡ check b
  pub kept : check b ≡ no_fault → a ≡ b

pub alike_self : {X : Type 0} (check : X → Check) (a : X) → Alike check a a
alike_self check a = record { same = refl; kept = λ k. refl }

-- ---- parts in order

module _ {S X : Type 0} (o : Order S X) (s : S) where
  stopped : {at : RefusedAt} (x : X) (xs : List X) → o.one s x ≡ Err at → o.all s (x ∷ xs) ≡ Err at
  stopped x xs q = o.turn s x xs ∙ rw q

  passed : (x : X) (xs : List X) → o.one s x ≡ no_fault → o.all s (x ∷ xs) ≡ o.all (o.next s x) xs
  passed x xs q = o.turn s x xs ∙ rw q

  -- what lies behind a part that breaks a rule plays no part
  pub alike_cut : {at : RefusedAt} {x y : X} {xs ys : List X} → o.one s x ≡ Err at → o.one s y ≡ Err at
      → Alike (o.all s) (x ∷ xs) (y ∷ ys)
  alike_cut {at} {x} {y} {xs} {ys} p q =
      record { same = stopped x xs p ∙ sym (stopped y ys q); kept = λ k. broken_apart (sym (stopped y ys q) ∙ k) }

  pub alike_more : {x y : X} {xs ys : List X} → Alike (o.one s) x y → Alike (o.all (o.next s y)) xs ys → Alike (o.all s) (x ∷ xs) (y ∷ ys)
  alike_more {x} {y} {xs} {ys} a r = go (o.one s y) refl
    where
      go : (c : Check) → o.one s y ≡ c → Alike (o.all s) (x ∷ xs) (y ∷ ys)
      go (Err at) q = alike_cut (a.same ∙ q) q
      go (Ok u) q =
          let front : o.all s (x ∷ xs) ≡ o.all s (y ∷ xs) = ap (λ (z : X). o.all s (z ∷ xs)) (a.kept q) in
          record {
            same = front ∙ passed y xs q ∙ r.same ∙ sym (passed y ys q);
            kept = λ k. ap₂ {C = List X} (λ (z : X) (zs : List X). z ∷ zs) (a.kept q) (r.kept (sym (passed y ys q) ∙ k));
          }

-- ---- what is written of them

pub alike_written : {us ts : Table} → Alike (table_check 0 1) us ts → (room : ℕ) → writing us room ≡ writing ts room
unfolding writing
alike_written {us} {ts} a room =
    ap (λ (r : Reading). writing_by r (text_of us) room) (ruled_is us ∙ ap (λ (c : Check). unless c (readable us)) a.same)
    ∙ go (table_check 0 1 ts) refl
    ∙ ap (λ (r : Reading). writing_by r (text_of ts) room) (sym (ruled_is ts))
  where
    go : (c : Check) → table_check 0 1 ts ≡ c
        → writing_by (unless (table_check 0 1 ts) (readable us)) (text_of us) room ≡ writing_by (unless (table_check 0 1 ts) (readable ts)) (text_of ts) room
    go (Ok u) q = ap (λ (vs : Table). writing_by (unless (table_check 0 1 ts) (readable vs)) (text_of vs) room) (a.kept q)
    go (Err at) q = rw q

pub cells_written : (cs : List ℕ) {t : Record.Table} {before after : List ℕ} {r : Written} → WrittenAlike cs t → Writes t before r after
    → CellsWritten cs before r after
cells_written cs {t} {before} a w =
    record {
      answer = w.answer ∙ ap writing_numbers (a (length before));
      area = w.area ∙ ap (λ (x : Writing). area_after x before) (a (length before));
    }
