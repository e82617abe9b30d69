use Rattle.log_frames.proofs.Logs.{IsLog-more, bytes-more, entries-more, notes-more}
use Rattle.log_frames.proofs.laws.logs_grow_by_transactions.Goals as goal

pub returns-clause-bytes : goal.returns-clause-bytes
returns-clause-bytes c = bytes-more

pub returns-clause-entries : goal.returns-clause-entries
returns-clause-entries c = entries-more

pub returns-clause-notes : goal.returns-clause-notes
returns-clause-notes c = notes-more

pub returns-clause-still : goal.returns-clause-still
returns-clause-still c = IsLog-more
