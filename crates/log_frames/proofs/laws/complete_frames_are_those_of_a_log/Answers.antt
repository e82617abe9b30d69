use Rattle.log_frames.proofs.Places.{complete_frames}
use Rattle.log_frames.proofs.laws.complete_frames_are_those_of_a_log.Goals as goal

pub returns : goal.returns
returns c = complete_frames
