use Rattle.std.proofs.Common.{◌≡◌, List, length}
use Rattle.log_frames.specs.Kinds.{frames_as}
use Rattle.log_frames.specs.Log.{Transacted, logged_each}
use Rattle.told_transactions.specs.Begun.{AreLogged}
use Rattle.told_transactions.proofs.Filling.{IsFilledSo}
use Rattle.told_transactions.proofs.begun.filled.Given as goal

abbrev pub invariant-transactions : goal.invariant-transactions
invariant-transactions l = (ts : List Transacted) → AreLogged ts → frames_as (logged_each ts) ≡ l.fn.bytes → IsFilledSo l.limit l.floor ts l.history.history l.rest

abbrev pub decreases-transactions : goal.decreases-transactions
decreases-transactions l = length l.rest
