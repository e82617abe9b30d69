use Rattle.std.proofs.Common.{◌≡◌, ◌≤◌, ◌++◌, [], ◌∷◌, ℕ, List, length}
use Rattle.log_frames.specs.Kinds.{frames_as}
use Rattle.log_frames.specs.Log.{Transacted, logged_transacted}
use Rattle.told_transactions.specs.Begun.{AreLogged}
use Rattle.told_transactions.proofs.Transactions.{HasRead}
use Rattle.told_transactions.proofs.begun.transaction_at.Given as goal

abbrev pub invariant-frames : goal.invariant-frames
invariant-frames l = record {
  read : (t : Transacted) (more : List ℕ) → AreLogged (t ∷ []) → l.fn.bytes ≡ frames_as (logged_transacted t) ++ more → HasRead l.before t more l.last l.rest;
  within : length l.rest ≤ length l.fn.bytes;
}

abbrev pub decreases-frames : goal.decreases-frames
decreases-frames l = length l.rest
