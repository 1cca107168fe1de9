-- What a C host is told settles the answer, and a whole table's answer and a writing's can be taken out of its number: the sentences of `specs/Settled`.
use mathlib.Core.Path.{◌≡◌, refl, sym, ap, subst, ◌∙◌}
use Prim.Native.Nat.{ℕ, ◌+◌, ◌*◌, ◌/◌, ◌%◌, ◌≤◌}
use native.Mathlib.Omega.{arith}
use mathlib.Core.List.{List}
use lib.ListN.{length, get_or}
use Rattle.meaning.specs.Bounds.{most_tasks, most_vertices}
use Rattle.meaning.specs.Text.{Reading, readable, unreadable, read}
use Rattle.meaning.specs.Writing.{Writing, writable, unwritable, writing}
use Rattle.meaning.specs.Whole.{Counts, counted, counts_of, verdicts, table_answer}
use Rattle.meaning.proofs.Readable.{row_least}
use Rattle.meaning.proofs.Demands.{readable_sound, text_refused}
use Rattle.meaning.proofs.Counts.{counts_all, vertices_few}
use Rattle.kinds.specs.Numbers.{verdict_numbers, lateness_numbers}
use Rattle.counts.specs.Counts.{total_of}
use Rattle.writer.proofs.Outcomes.{Bounded, writing_bounded}
use Rattle.cells.specs.Cells.{cells_table}
use Rattle.judge.proofs.Demands.{settled, settled_latest}
use Rattle.host.specs.Told.{counts_number, table_number, writing_number}
use Rattle.host.specs.Settled.{VertexToldSettled, LatestToldSettled, TableToldSettled, TakenApart, TableNumberUnpacked}
use Rattle.host.specs.Settled.{WriteToldSettled, WritingTakenApart, WriteNumberUnpacked}

same_number : {X : Type 0} (numbers : X → List ℕ) {r s : X} (j : ℕ) → r ≡ s → get_or (numbers r) j 0 ≡ get_or (numbers s) j 0
same_number {X} numbers j e = ap (λ (r : X). get_or (numbers r) j 0) e

pub vertex-settled : VertexToldSettled
vertex-settled text i v b work wit n value place m value₂ place₂ work₁ wit₁ work₂ wit₂ p q =
    let one = settled text i v b work wit p.verdict q.verdict work₁ wit₁ work₂ wit₂ p.judged q.judged in (
      p.number_is ∙ same_number verdict_numbers 0 one.0 ∙ sym q.number_is,
      p.value_is ∙ same_number verdict_numbers 1 one.0 ∙ sym q.value_is,
      p.place_is ∙ same_number verdict_numbers 2 one.0 ∙ sym q.place_is,
      one.1,
      one.2,
    )

pub latest_settled : LatestToldSettled
latest_settled text i v b work wit n value place finish m value₂ place₂ finish₂ work₁ wit₁ work₂ wit₂ p q =
    let one = settled_latest text i v b work wit p.late q.late work₁ wit₁ work₂ wit₂ p.judged q.judged in (
      p.number_is ∙ same_number lateness_numbers 0 one.0 ∙ sym q.number_is,
      p.value_is ∙ same_number lateness_numbers 1 one.0 ∙ sym q.value_is,
      p.place_is ∙ same_number lateness_numbers 2 one.0 ∙ sym q.place_is,
      p.finish_is ∙ same_number lateness_numbers 3 one.0 ∙ sym q.finish_is,
      one.1,
      one.2,
    )

pub table_settled : TableToldSettled
table_settled text b work r s work₁ work₂ p q = (p.number ∙ sym q.number, p.cells ∙ sym q.cells)

counts_unpacked : (c : Counts) → total_of c ≤ most_tasks * most_vertices → TakenApart (counted c) (counts_number c)
counts_unpacked c f =
    let second : counts_number c / 65536 ≡ c.meeting * 256 + c.missing = omega (arith, f) in
    let third : counts_number c / 256 ≡ (c.meeting * 256 + c.missing) * 256 + c.unfinishing = omega (arith, f) in
    let byte : ℕ → ℕ = λ n. n % 256 in
    (omega (arith, f), omega (arith, f), ap byte second ∙ omega (arith, f), ap byte third ∙ omega (arith, f), omega (arith, f))

pub table_unpacked : TableNumberUnpacked
table_unpacked text b work r work' p =
    subst (TakenApart (table_answer (read text) b (length work))) (sym p.number) (go (read text) refl)
  where
    go : (m : Reading) → read text ≡ m → TakenApart (table_answer m b (length work)) (table_number (table_answer m b (length work)))
    go (readable ts) e =
        let a = counts_all ts b (length work) in
        let f = vertices_few ts (readable_sound text ts e) in
        counts_unpacked (counts_of (verdicts ts b (length work))) (omega (arith, a, f))
    go (unreadable k n) e = let t = text_refused text k n e in (row_least (omega arith) t.0, omega (arith, t.2), omega (arith, t.2))

pub write-settled : WriteToldSettled
write-settled cells before r s after other p q = (p.number ∙ sym q.number, p.area ∙ sym q.area)

pub write_unpacked : WriteNumberUnpacked
write_unpacked cells before r after p =
    let w = writing (cells_table cells) (length before) in
    subst (WritingTakenApart w) (sym p.number) (go w (writing_bounded (cells_table cells) (length before)))
  where
    go : (w : Writing) → Bounded w → WritingTakenApart w (writing_number w)
    go (writable text) b = (omega (arith, b), omega (arith, b))
    go (unwritable k n) b = (b.0, omega (arith, b.1), omega (arith, b.1))
