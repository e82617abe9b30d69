-- A store with its newest transactions: the frames of each, as it was accepted.
use Rattle.std.specs.Prelude.{◌≡◌, List}
use Rattle.change_history.specs.History.{History, Told, newest, with_each}
use Rattle.doc_machine.specs.Transaction.{Transaction}
use Rattle.told_transactions.specs.Told.{AreReadable, told_each}
use Rattle.store_commits.specs.Account.{Account, StoreView}
use Rattle.store_commits.specs.Events.{Event, dones_of}
use Rattle.store_commits.specs.declared.event.Reply.{Reply}

-- an account, and the newest of the transactions that led to it
pub record Recorded : Type 0 where
  pub account : Account
  pub open account use *
  pub history : History

-- a store, and its newest transactions
pub record RecordedView (D : Type 0) : Type 0 where
  pub store : StoreView D
  pub open store use *
  pub history : History

-- the same without the device
abbrev pub recorded_of : {D : Type 0} → RecordedView D → Recorded
recorded_of v = record { account = v.account; history = v.history }

-- of events with their replies, from an account on: the transactions that were answered as done
abbrev pub told_of : Account → List Event → List Reply → List Told
told_of old events said = told_each old.rides old.state.seq (dones_of events said)

-- these events with their replies were recorded: the transactions that were answered as done, and no others
abbrev pub Records : Recorded → List Event → List Reply → Recorded → Type 0
Records old events said new = new.history ≡ with_each old.history (told_of old.account events said)

-- The history of an account: it ends with the account's last change, and what it keeps are transactions, whose frames can be read.
pub record IsRecord (r : Recorded) : Type 0 where
  pub ends : newest r.history.floor r.history.told ≡ r.state.seq
  pub transactions : List Transaction
  pub told : r.history.told ≡ told_each r.rides r.history.floor transactions
  pub readable : AreReadable r.history.floor transactions
