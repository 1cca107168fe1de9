use Rattle.std.proofs.Common.{length}
use Rattle.telling.proofs.releases.PathDisplay.fmt.Given as goal

abbrev pub decreases-loop-vertex : goal.decreases-loop-vertex
decreases-loop-vertex g l = length l.rest
