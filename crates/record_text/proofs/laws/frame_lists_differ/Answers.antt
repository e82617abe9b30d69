use Rattle.record_text.proofs.Frames.{frames_in-injective}
use Rattle.record_text.proofs.laws.frame_lists_differ.Goals as goal

pub returns : goal.returns
returns c = frames_in-injective
