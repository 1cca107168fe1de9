use mathlib.Core.Path.{refl, sym}
use Prim.Native.Nat.{ℕ}
use lib.ListN.{length-replicate}
use Rattle.meaning.specs.Bounds.{longest_output}
use Rattle.judge.specs.Desk.{no_output}
use Rattle.judge.proofs.output_room.Goals as goal

pub returns : goal.returns
unfolding no_output
returns c = record { value = refl; longest_output_value = sym (length-replicate {A = ℕ} longest_output 0) }
