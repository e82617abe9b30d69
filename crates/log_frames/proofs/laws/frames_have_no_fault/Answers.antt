use Rattle.log_frames.proofs.Frames.{no_fault}
use Rattle.log_frames.proofs.laws.frames_have_no_fault.Goals as goal

pub returns : goal.returns
returns c = no_fault
