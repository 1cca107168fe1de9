use Prim.Native.Nat.{◌+◌, ◌*◌}
use Rattle.cells.specs.Parts.{Passed}
use Rattle.cells.proofs.Filled.{FrontMade}
use Rattle.cells.proofs.cursor.Cursor.fill.Given as goal

abbrev pub invariant-loop-i : goal.invariant-loop-i
invariant-loop-i g l =
    record {
      front : FrontMade (λ j. g.T.Part.made l.initial.self.list.now (l.initial.self.at + g.T.Part.width * j)) l.parts l.i;
      passed : Passed (g.T.Part.width * l.i) l.initial.self l.self;
    }
