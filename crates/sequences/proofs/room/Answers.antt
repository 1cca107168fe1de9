use mathlib.Core.Path.{refl, sym}
use Prim.Native.Nat.{ℕ}
use lib.ListN.{length-replicate}
use Rattle.sequences.specs.Sequence.{room_bytes, zeros}
use Rattle.sequences.proofs.room.Goals as goal

pub returns : goal.returns
unfolding zeros
returns c = record { value = refl; room_bytes_value = sym (length-replicate {A = ℕ} room_bytes 0) }
