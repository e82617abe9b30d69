use Rattle.record_text.proofs.Frames.{frame_of-injective, frame_1_of-injective}
use Rattle.record_text.proofs.laws.frames_differ.Goals as goal

pub returns-clause-format_2 : goal.returns-clause-format_2
returns-clause-format_2 c = frame_of-injective

pub returns-clause-format_1 : goal.returns-clause-format_1
returns-clause-format_1 c = frame_1_of-injective
