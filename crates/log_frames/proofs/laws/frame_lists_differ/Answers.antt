use Rattle.log_frames.proofs.Frames.{frames_as-injective}
use Rattle.log_frames.proofs.laws.frame_lists_differ.Goals as goal

pub returns : goal.returns
returns c = frames_as-injective
