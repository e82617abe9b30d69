use Rattle.log_frames.proofs.Logs.{log_bytes-injective}
use Rattle.log_frames.proofs.laws.logs_differ.Goals as goal

pub returns : goal.returns
returns c = log_bytes-injective
