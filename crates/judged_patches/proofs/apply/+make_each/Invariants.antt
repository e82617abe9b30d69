use Rattle.std.proofs.Common.{length}
use Rattle.judged_patches.proofs.apply.+make_each.Given as goal

abbrev pub decreases-make_each : goal.decreases-make_each
decreases-make_each l = length l.operations.now
