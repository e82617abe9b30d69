use Rattle.std.proofs.Common.{◌≡◌, length}
use Rattle.doc_changes.specs.State.{Good}
use Rattle.store_commits.specs.Replay.{ReplayedLog}
use Rattle.store_commits.proofs.log_replay.replay_log.Given as goal

abbrev pub invariant-loop-rest : goal.invariant-loop-rest
invariant-loop-rest l = ReplayedLog l.fn.profile l.seq l.bytes l.rest l.place l.machine × (l.machine.seq ≡ l.seq) × (l.machine.profile ≡ l.fn.profile) × Good l.machine

abbrev pub decreases-loop-rest : goal.decreases-loop-rest
decreases-loop-rest l = length l.rest
