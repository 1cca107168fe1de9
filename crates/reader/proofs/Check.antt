-- The text check's number, and that the refusal's number and its line can be taken out of it again.
use mathlib.Core.Path.{◌≡◌, refl, sym, ap, subst}
use Prim.Native.Nat.{ℕ, ◌+◌, ◌*◌}
use native.Mathlib.Omega.{arith}
use mathlib.Core.List.{List}
use Rattle.meaning.specs.Text.{Reading, readable, unreadable, read, packed}
use Rattle.meaning.proofs.Readable.{row_least}
use Rattle.meaning.proofs.Demands.{text_refused}
use Rattle.kinds.specs.declared.RefusedAt.{RefusedAt}
use Rattle.kinds.specs.Numbers.{refusal_number}
use Rattle.table.specs.declared.Table.{Table}
use Rattle.reader.specs.Settled.{NumberAndLine, CheckUnpacked}
use Rattle.reader.proofs.Result.{TableRead, LineRefused}

pub check_readable : {text : List ℕ} {t : Table} → TableRead text t → 0 ≡ packed (read text)
check_readable r = sym (ap packed r.means)

pub check_refused : {text : List ℕ} {at : RefusedAt} → LineRefused text at → (n : ℕ) → n ≡ refusal_number at.refusal
    → n * 65536 + at.place ≡ packed (read text)
check_refused r n e = rw e (sym (ap packed r.means))

pub check_unpacked : CheckUnpacked
check_unpacked text r p = subst (NumberAndLine (read text)) (sym p) (go (read text) refl)
  where
    go : (m : Reading) → read text ≡ m → NumberAndLine m (packed m)
    go (readable ts) e = (refl, refl)
    go (unreadable k n) e = let b = text_refused text k n e in (row_least (omega arith) b.0, omega (arith, b.2), omega (arith, b.2))
