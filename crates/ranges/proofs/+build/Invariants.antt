use Rattle.ranges.proofs.+build.Given as goal

abbrev pub decreases-build : goal.decreases-build
decreases-build l = l.len
