use Rattle.std.proofs.Common.{◌≡◌, List, length}
use Rattle.log_frames.specs.Kinds.{Logged, frames_as}
use Rattle.protocol.specs.Frames.{CanBeRead}
use Rattle.protocol.proofs.Told.{GoesOn}
use Rattle.protocol.proofs.changes.with_changes.Given as goal

abbrev pub invariant-frames : goal.invariant-frames
invariant-frames l = (logged : List Logged) → CanBeRead logged → l.fn.frames ≡ frames_as logged → GoesOn logged l.fn.line.items l.longer.items l.later l.rest

abbrev pub decreases-frames : goal.decreases-frames
decreases-frames l = length l.rest
