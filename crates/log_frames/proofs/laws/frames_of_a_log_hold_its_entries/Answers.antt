use Rattle.log_frames.proofs.Logs.{entries-log, notes-log}
use Rattle.log_frames.proofs.laws.frames_of_a_log_hold_its_entries.Goals as goal

pub returns-clause-entries : goal.returns-clause-entries
returns-clause-entries c = entries-log

pub returns-clause-notes : goal.returns-clause-notes
returns-clause-notes c = notes-log
