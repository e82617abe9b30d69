use Rattle.std.proofs.Common.{◌≡◌, length}
use Rattle.doc_changes.specs.State.{Good}
use Rattle.store_commits.specs.Replay.{Replayed}
use Rattle.store_commits.proofs.frame_replay.replay_frames.Given as goal

abbrev pub invariant-loop-rest : goal.invariant-loop-rest
invariant-loop-rest l = Replayed l.fn.profile l.version l.seq l.bytes l.rest l.machine × (l.machine.seq ≡ l.seq) × (l.machine.profile ≡ l.fn.profile) × Good l.machine

abbrev pub decreases-loop-rest : goal.decreases-loop-rest
decreases-loop-rest l = length l.rest
