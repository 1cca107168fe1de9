use mathlib.Core.Path.{◌≡◌, ap₂, ◌∙◌}
use Prim.Native.Nat.{ℕ, ◌+◌, ◌*◌}
use native.Mathlib.Nat.{mul-suc}
use native.Mathlib.Numerals.{add-one}
use native.Mathlib.Omega.{arith}
use mathlib.Core.List.{List}
use Rattle.cells.proofs.Filled.{front_more}
use Rattle.cells.proofs.cursor.Cursor.fill.Goals as goal

pub loop-i-preserved : goal.loop-i-preserved
loop-i-preserved g c =
    let w = g.T.Part.width in
    let s = c.args.self.now in
    let h = c.loop-i.invariant in
    let made = λ (cs : List ℕ) (i : ℕ). g.T.Part.made cs i in
    let more : w * (c.loop-i.i + 1) ≡ w * c.loop-i.i + w = rw (add-one, mul-suc) (omega arith) in
    record {
      front =
          front_more (λ j. made s.list.now (s.at + w * j)) c.loop-i.parts c.loop-i.i c.read.result h.front
          (omega (arith, c.loop-i-test.true, c.min-i-end.ensures, c.loop-i.auto.parts))
          (c.read.ensures.made ∙ ap₂ made h.passed.same_list h.passed.place);
      passed =
          record {
            same_list = c.read.ensures.passed.same_list ∙ h.passed.same_list;
            place = omega (arith, c.read.ensures.passed.place, h.passed.place, more);
          };
    }
