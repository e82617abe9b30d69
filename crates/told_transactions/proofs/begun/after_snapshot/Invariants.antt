use Rattle.std.proofs.Common.{◌≡◌, length}
use Rattle.log_frames.specs.Log.{IsLog, Log, log_bytes}
use Rattle.told_transactions.proofs.Filling.{IsAmong}
use Rattle.told_transactions.proofs.begun.after_snapshot.Given as goal

abbrev pub invariant-frames : goal.invariant-frames
invariant-frames l = (log : Log) → IsLog log → log_bytes log ≡ l.fn.bytes → IsAmong log l.rest

abbrev pub decreases-frames : goal.decreases-frames
decreases-frames l = length l.rest
