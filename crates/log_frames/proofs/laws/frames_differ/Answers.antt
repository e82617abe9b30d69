use Rattle.log_frames.proofs.Frames.{frame_as-injective}
use Rattle.log_frames.proofs.laws.frames_differ.Goals as goal

pub returns : goal.returns
returns c = frame_as-injective
