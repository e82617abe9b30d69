use Rattle.std.proofs.Common.{◌≤◌, length}
use Rattle.store_salvage.proofs.spare.with_frame.Given as goal

abbrev pub invariant-loop-place : goal.invariant-loop-place
invariant-loop-place l = l.place ≤ length l.frames.items

abbrev pub decreases-loop-place : goal.decreases-loop-place
decreases-loop-place l = l.place
