use Rattle.log_frames.proofs.Logs.{together-last}
use Rattle.log_frames.proofs.laws.transactions_end_with_their_last_change.Goals as goal

pub returns : goal.returns
returns c = together-last
