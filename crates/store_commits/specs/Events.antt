-- The events of a store, and its answers.
use Rattle.std.specs.Prelude.{Bool, true, false, ℕ, List, [], ◌∷◌, ◌++◌, Result, Ok, Err, if◌then◌else◌, nat_eq}
use Rattle.refusals.specs.declared.numbers.TheConstants.{DEVICE}
use Rattle.doc_machine.specs.Transaction.{Transaction, transaction_of}
use Rattle.doc_changes.specs.declared.refusal.Refusal.{Refusal}
use Rattle.store_commits.specs.declared.event.Event.{Event as ProgramEvent}
use Rattle.store_commits.specs.declared.event.Event.TheVariants.{Run, Snapshot, Pump, Seal}
pub use Rattle.store_commits.specs.declared.event.Reply.{Reply}
pub use Rattle.store_commits.specs.declared.event.Reply.TheVariants.{Done, Snapped, Pumped, Sealed, Refused}

-- an event: to make a transaction, or a snapshot, or to copy at most a number of sectors of one, or to seal what is committed
pub data Event : Type 0 where
  change : Transaction → Event
  snapshot : Event
  pump : (most : ℕ) → Event
  seal : Event

-- an event of the program as one of these
abbrev pub event_of : ProgramEvent → Event
event_of (Run transaction) = change (transaction_of transaction)
event_of Snapshot = snapshot
event_of (Pump most) = pump most
event_of Seal = seal

-- an answer as a reply: one that says what was done, or why not
abbrev pub reply_of : {A : Type 0} → (A → Reply) → Result A Refusal → Reply
reply_of says (Ok answer) = says answer
reply_of says (Err r) = Refused r

-- a transaction was done
abbrev pub is_done : Reply → Bool
is_done (Done seq) = true
is_done _ = false

-- the transaction that such a reply says was done, if any
abbrev pub done_by : Event → Reply → List Transaction
done_by (change t) (Done seq) = t ∷ []
done_by _ _ = []

-- and the one that it says a fault of the device hit
abbrev pub hit_by : Event → Reply → List Transaction
hit_by (change t) (Refused r) = if nat_eq r.number DEVICE then t ∷ [] else []
hit_by _ _ = []

-- of events with their replies, the transactions that were answered as done
abbrev pub dones_of : List Event → List Reply → List Transaction
dones_of [] rs = []
dones_of (e ∷ es) [] = []
dones_of (e ∷ es) (r ∷ rs) = done_by e r ++ dones_of es rs

-- and those that a fault of the device left in doubt
abbrev pub hits_of : List Event → List Reply → List Transaction
hits_of [] rs = []
hits_of (e ∷ es) [] = []
hits_of (e ∷ es) (r ∷ rs) = hit_by e r ++ hits_of es rs
