use Rattle.std.proofs.Common.{length}
use Rattle.patched_places.proofs.steps.+with_steps.Given as goal

abbrev pub decreases-with_steps : goal.decreases-with_steps
decreases-with_steps l = length l.tokens.now
