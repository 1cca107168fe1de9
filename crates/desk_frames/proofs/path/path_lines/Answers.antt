use native.Mathlib.Omega.{arith}
use Prim.Native.Nat.{◌-◌}
use lib.ListN.{length, take, drop, length-drop}
use lib.Seq.{take_all}
use Rattle.desk_frames.proofs.PathLines.{pathing_none, inside, path_asks, pathing_more, pathing_all}
use Rattle.desk_frames.proofs.path.path_lines.Goals as goal

pub loop-task-init : goal.loop-task-init
loop-task-init c = pathing_none _ _ _ c.requires.0 c.requires.1

pub bounds-rest-0 : goal.bounds-rest-0
bounds-rest-0 c = inside c.loop-task.invariant c.loop-task-test.true

pub path_line-requires : goal.path_line-requires
path_line-requires c =
    let rest = c.loop-task.rest.now in
    let tail = take_all (length rest - 1) (drop 1 rest) (omega (arith, length-drop 1 rest)) in
    path_asks c.loop-task.invariant c.loop-task-test.true c.from-n.result c.from-n.ensures _ tail

pub loop-task-preserved : goal.loop-task-preserved
loop-task-preserved c =
    let rest = c.loop-task.rest.now in
    let tail = take_all (length rest - 1) (drop 1 rest) (omega (arith, length-drop 1 rest)) in
    let after = drop c.from-n.result (take (length rest - 1) (drop 1 rest)) in
    pathing_more c.loop-task.invariant c.loop-task-test.true c.from-n.result c.from-n.ensures _ tail _
    (take_all (length (take (length rest - 1) (drop 1 rest)) - c.from-n.result) after
    (omega (arith, length-drop c.from-n.result (take (length rest - 1) (drop 1 rest)))))
    c.path_line.ensures

pub returns : goal.returns
returns c = pathing_all c.loop-task.invariant c.loop-task-test.false
