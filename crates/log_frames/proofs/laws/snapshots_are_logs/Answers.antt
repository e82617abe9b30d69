use Rattle.log_frames.proofs.Logs.{IsLog-snapshot, bytes-snapshot, entries-snapshot, notes-snapshot}
use Rattle.log_frames.proofs.laws.snapshots_are_logs.Goals as goal

pub returns-clause-bytes : goal.returns-clause-bytes
returns-clause-bytes c = bytes-snapshot

pub returns-clause-entries : goal.returns-clause-entries
returns-clause-entries c = entries-snapshot

pub returns-clause-notes : goal.returns-clause-notes
returns-clause-notes c = notes-snapshot

pub returns-clause-still : goal.returns-clause-still
returns-clause-still c = IsLog-snapshot
