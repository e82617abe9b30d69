-- Runs: the events of a store, its answers and commits, what becomes of it, and what a crash may leave of its device.
use Rattle.std.specs.Prelude.{◌≡◌, ◌↔◌, ◌⊎◌, List, [], ◌∷◌, ◌++◌, true, false, ℕ, Result, Ok, Err, if◌then◌else◌, nat_eq}
use Rattle.sector_device.specs.Disk.{Disk, Image, LeavesOnly}
use Rattle.store_journal.specs.Models.{model}
use Rattle.refusals.specs.declared.numbers.TheConstants.{DEVICE, MEMORY}
use Rattle.doc_changes.specs.Refusals.{plain}
use Rattle.doc_changes.specs.declared.refusal.Refusal.{Refusal}
use Rattle.doc_machine.specs.Transaction.{Transaction}
use Rattle.store_commits.specs.Folds.{after_each, StandsAfter}
use Rattle.store_commits.specs.Account.{Account, StoreView}
use Rattle.store_commits.specs.Batch.{AreMade, BatchIsMade, Commit, Intent, IsBatch, failed, passed, to_snapshot, changes}
use Rattle.store_commits.specs.Copying.{PumpAnswers, account_stepped, calls_of_pump}
use Rattle.store_commits.specs.Snapshot.{SnapshotAnswers}
use Rattle.store_commits.specs.declared.pump.Pump.{Pump}
pub use Rattle.store_commits.specs.Events.{Event, change, snapshot, pump, seal, Reply, Done, Snapped, Pumped, Sealed, Refused, dones_of, hits_of, reply_of}
use Rattle.store_commits.specs.Sealing.{SealAnswers, to_seal}

-- a step of a copy
abbrev pub to_step : Account → ℕ → Intent
to_step a most = record { calls = calls_of_pump a most; made = account_stepped a most; ending = [] }

-- The commit of a snapshot, a step or a seal, by its answer and what became of the account: it passed, or the device failed in it, or there was none.
abbrev pub commits_of : {A : Type 0} → Result A Refusal → Intent → Account → List Commit
commits_of (Ok answer) k new = passed k ∷ []
commits_of (Err r) k new = if nat_eq r.number DEVICE then failed k new ∷ [] else []

-- What is done at once: a batch; a snapshot; a step of a copy; a seal; or a transaction is refused, since memory ran out.
pub data IsDone : Account → List Event → List Reply → List Commit → Account → Type 0 where
  a_batch : (a b : Account) (ts : List Transaction) (replies : List Reply) (commits : List Commit) → IsBatch a ts replies commits b → IsDone a (changes ts) replies commits b
  a_snapshot : (a b : Account) (r : Result ℕ Refusal) → SnapshotAnswers a r b → IsDone a (snapshot ∷ []) (reply_of Snapped r ∷ []) (commits_of r (to_snapshot a) b) b
  a_step : (a b : Account) (most : ℕ) (r : Result Pump Refusal) → PumpAnswers a most r b → IsDone a (pump most ∷ []) (reply_of Pumped r ∷ []) (commits_of r (to_step a most) b) b
  a_seal : (a b : Account) (r : Result (Unit {0}) Refusal) → SealAnswers a r b → IsDone a (seal ∷ []) (reply_of (λ done. Sealed) r ∷ []) (commits_of r (to_seal a) b) b
  no_memory : (a : Account) (t : Transaction) → IsDone a (change t ∷ []) (Refused (plain MEMORY) ∷ []) [] a

-- the same, one after another
pub data IsRun : Account → List Event → List Reply → List Commit → Account → Type 0 where
  nothing : (a : Account) → IsRun a [] [] [] a
  one_more : (a b d : Account) (events more_events : List Event) (replies more_replies : List Reply) (commits more_commits : List Commit)
      → IsRun a events replies commits b → IsDone b more_events more_replies more_commits d
      → IsRun a (events ++ more_events) (replies ++ more_replies) (commits ++ more_commits) d

-- Transactions were done, and others were accepted, but a fault hit them: this is what a crash may leave meanwhile, and at the end, in the disk model of the store's format.
pub record Lasts {D : Type 0} (disk : D → Disk) (old new : StoreView D) (dones in_doubt : List Transaction) : Type 0 where
  -- the state is the one after those that were done, and while the store works no other was accepted
  pub state_is : new.account.state ≡ after_each old.account.state dones
  pub none_in_doubt : new.account.broken ≡ false → in_doubt ≡ []
  -- the format stays
  pub rides_is : new.account.rides ≡ old.account.rides
  pub honest : (disk old.device).honest ↔ (disk new.device).honest
  -- at each moment each image holds the state after some of the accepted transactions, each whole, the first of them first
  pub any_moment : (disk old.device).honest → old.account.broken ≡ false → LeavesOnly (model old.account.rides (disk old.device)) (model old.account.rides (disk new.device)) (StandsAfter old.account.state (dones ++ in_doubt))
  -- at the end for the one after all that were done, with or without those that were hit
  pub at_end : (disk old.device).honest → old.account.broken ≡ false → (image : Image) → (model old.account.rides (disk new.device)).left image → StandsAfter new.account.state in_doubt image
  -- of a broken store nothing changes
  pub still : old.account.broken ≡ true → (new ≡ old) × (dones ++ in_doubt ≡ [])

-- A call made such a run of the store, its commits asked this of the device, and that is what a crash may leave.
pub record Ran {D : Type 0} (disk : D → Disk) (old new : StoreView D) (events : List Event) (replies : List Reply) : Type 0 where
  pub commits : List Commit
  pub run : IsRun old.account events replies commits new.account
  pub made : AreMade disk old.device commits new.device
  pub lasts : Lasts disk old new (dones_of events replies) (hits_of events replies)

-- A call answered a whole batch so, and that is a run of its transactions.
pub record Batched {D : Type 0} (disk : D → Disk) (old new : StoreView D) (ts : List Transaction) (replies : List Reply) : Type 0 where
  pub is : BatchIsMade disk old ts replies new
  pub ran : Ran disk old new (changes ts) replies

-- A transaction by itself is a batch of one; or memory ran out, and nothing was done.
abbrev pub Transacts : {D : Type 0} → (D → Disk) → StoreView D → Transaction → Result ℕ Refusal → StoreView D → Type 0
Transacts disk old t r new = BatchIsMade disk old (t ∷ []) (reply_of Done r ∷ []) new ⊎ ((r ≡ Err (plain MEMORY)) × (new ≡ old))
