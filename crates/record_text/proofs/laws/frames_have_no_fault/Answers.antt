use Rattle.record_text.proofs.Frames.{no_fault, no_fault_1}
use Rattle.record_text.proofs.laws.frames_have_no_fault.Goals as goal

pub returns-clause-format_2 : goal.returns-clause-format_2
returns-clause-format_2 c = no_fault

pub returns-clause-format_1 : goal.returns-clause-format_1
returns-clause-format_1 c = no_fault_1
