use Rattle.std.proofs.Common.{length}
use Rattle.path_select.proofs.paths.+path_to.Given as goal

abbrev pub decreases-path_to : goal.decreases-path_to
decreases-path_to l = length l.trail.now
