-- Where a cursor stands after several reads.
use mathlib.Core.Path.{subst, ◌∙◌}
use Prim.Native.Nat.{ℕ, ◌+◌}
use native.Mathlib.Omega.{arith}
use mathlib.Core.List.{List}
use Rattle.cells.specs.declared.cursor.Cursor.{Cursor}
use Rattle.cells.specs.Parts.{Passed}

pub passed_then : {m n : ℕ} {p q r : Cursor} → Passed m p q → Passed n q r → Passed (m + n) p r
passed_then a b = record { same_list = b.same_list ∙ a.same_list; place = omega (arith, a.place, b.place) }

-- what holds of the list and the place behind, said of those before
pub moved : {n : ℕ} {p q : Cursor} → Passed n p q → (P : List ℕ → ℕ → Type 0) → P q.list.now q.at → P p.list.now (p.at + n)
moved {n} {p} {q} a P h = subst (P p.list.now) a.place (subst (λ (l : List ℕ). P l q.at) a.same_list h)
