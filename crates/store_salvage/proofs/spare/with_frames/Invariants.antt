use Rattle.std.proofs.Common.{◌-◌, length}
use Rattle.store_salvage.proofs.spare.with_frames.Given as goal

abbrev pub decreases-loop-from : goal.decreases-loop-from
decreases-loop-from l = length l.bytes - l.from
