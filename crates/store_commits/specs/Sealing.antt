-- Seals: the answer to one, and its commit.
use Rattle.std.specs.Prelude.{◌≡◌, ◌⊎◌, [], false, Result, Ok, Err}
use Rattle.store_journal.specs.Sealing.{seal_calls}
use Rattle.doc_changes.specs.Refusals.{plain}
use Rattle.doc_changes.specs.declared.refusal.Refusal.{Refusal}
use Rattle.refusals.specs.declared.numbers.TheConstants.{DEVICE}
use Rattle.store_commits.specs.Account.{Account, account_broken}
use Rattle.store_commits.specs.Batch.{Intent}
use Rattle.store_commits.specs.Snapshot.{StopsBefore}

-- a fault of the device hit the seal: the store is broken, no copy runs, and nothing else has changed
pub record IsSealInDoubt (old new : Account) : Type 0 where
  pub works : old.broken ≡ false
  pub new_is : new ≡ account_broken old

-- the store works, and nothing has changed
pub record IsSealed (old new : Account) : Type 0 where
  pub works : old.broken ≡ false
  pub new_is : new ≡ old

-- the answer to a seal; if it is refused before it does anything, nothing has changed
abbrev pub SealAnswers : Account → Result (Unit {0}) Refusal → Account → Type 0
SealAnswers old (Ok done) new = IsSealed old new
SealAnswers old (Err r) new = ((r ≡ plain DEVICE) × IsSealInDoubt old new) ⊎ (StopsBefore old r × (new ≡ old))

-- its commit: the same again
abbrev pub to_seal : Account → Intent
to_seal a = record { calls = seal_calls a.rides a.used; made = a; ending = [] }
