use Rattle.judge.proofs.Rooms.{Summing}
use Rattle.judge.proofs.room.table_room.Given as goal

abbrev pub invariant-loop-at : goal.invariant-loop-at
invariant-loop-at l =
    (goal.iterator-loop-at).can_next l.at-iterator × (goal.iterator-loop-at).is_finite l.at-iterator × Summing l.t l.at-iterator l.room
