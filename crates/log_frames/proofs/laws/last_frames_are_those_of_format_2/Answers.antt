use Rattle.log_frames.proofs.Frames.{frame_as-last, frames_as-last}
use Rattle.log_frames.proofs.laws.last_frames_are_those_of_format_2.Goals as goal

pub returns-clause-one : goal.returns-clause-one
returns-clause-one c = frame_as-last

pub returns-clause-each : goal.returns-clause-each
returns-clause-each c = frames_as-last
