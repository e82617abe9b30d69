-- The promise, as a state machine: the transactions that count, and how many of them no crash can lose.
use Rattle.std.specs.Prelude.{◌≡◌, ◌≤◌, ℕ, List, [], ◌∷◌, ◌++◌, length, map, take, false, None}
use Rattle.sector_device.specs.Disk.{Disk, Image, LeavesOnly}
use Rattle.store_journal.specs.Models.{model}
use Rattle.doc_changes.specs.State.{State}
use Rattle.doc_machine.specs.Transaction.{Transaction, refusal_in}
use Rattle.store_commits.specs.Images.{Stands}
use Rattle.store_commits.specs.Account.{StoreView}
use Rattle.store_commits.specs.Events.{Event, dones_of, hits_of}
use Rattle.store_commits.specs.declared.event.Reply.{Reply}
use Rattle.store_commits.specs.Folds.{after_each}
use Rattle.doc_store.specs.Lives.{events_of, replies_of}
use Rattle.doc_store.specs.declared.life.Life.{Life}
use Rattle.doc_store.specs.declared.life.Part.{Part}

-- The accepted transactions that count, the oldest first, and the state before them. The first `lasting` of them last: no crash loses these.
pub record Ledger : Type 0 where
  pub begins : State
  pub counted : List Transaction
  pub lasting : ℕ

-- no transaction yet
abbrev pub begun : State → Ledger
begun s = record { begins = s; counted = []; lasting = 0 }

-- the state that a ledger makes: that after all that count
abbrev pub state_of : Ledger → State
state_of l = after_each l.begins l.counted

-- What happens: a transaction is accepted; all that count are answered as done; a crash, after which the store is opened again.
pub data Happening : Type 0 where
  accepts : Transaction → Happening
  answers : Happening
  crashes : Happening

-- A crash keeps the first of those that count, each whole, with all that last. What it kept lasts.
pub record Crashed (l m : Ledger) : Type 0 where
  pub kept : List Transaction
  pub lost : List Transaction
  pub parts : kept ++ lost ≡ l.counted
  pub all_lasting : l.lasting ≤ length kept
  pub left : m ≡ record l { counted = kept; lasting = length kept }

-- what each of these makes of a ledger; a transaction is accepted only if the state doesn't refuse it
abbrev pub Becomes : Ledger → Happening → Ledger → Type 0
Becomes l (accepts t) m = (refusal_in (state_of l) t ≡ None) × (m ≡ record l { counted = l.counted ++ t ∷ [] })
Becomes l answers m = m ≡ record l { lasting = length l.counted }
Becomes l crashes m = Crashed l m

-- one after another
abbrev pub History : Ledger → List Happening → Ledger → Type 0
History l [] m = m ≡ l
History l (h ∷ hs) m = (mid : Ledger) × Becomes l h mid × History mid hs m

-- The events by their replies: some were accepted and answered as done, and then some were accepted that stay in doubt.
abbrev pub happened : List Event → List Reply → List Happening
happened events replies = map accepts (dones_of events replies) ++ answers ∷ map accepts (hits_of events replies)

-- the events of lives one after another, with their parts: a crash follows the replies of each
abbrev pub all_happened : List Life → List Part → List Happening
all_happened (life ∷ lives) (part ∷ parts) = happened (events_of life) (replies_of part) ++ crashes ∷ all_happened lives parts
all_happened lives parts = []

-- Lives that begin with a state and leave another keep the promise: what happened is a history from the one to a ledger
-- that makes the other.
pub record LivesKeep (s : State) (lives : List Life) (parts : List Part) (t : State) : Type 0 where
  pub ledger : Ledger
  pub history : History (begun s) (all_happened lives parts) ledger
  pub state : t ≡ state_of ledger

-- an image that a crash may leave of a ledger
abbrev pub IsLeftOf : Ledger → Image → Type 0
IsLeftOf l image = (m : Ledger) × Crashed l m × Stands (state_of m) image

-- What a call keeps that accepted transactions and answered them as done, and then accepted others, which a fault of its device hit. That is a history, and the store's state is that after those that were answered as done. At each moment of the call every image that a crash may leave, in the disk model of the store's format, is one of a ledger of which nothing lasts yet, and at its end one of which all that were answered as done last.
pub record KeepsPromise {D : Type 0} (disk : D → Disk) (old new : StoreView D) (done hit : List Transaction) : Type 0 where
  pub ledger : Ledger
  pub history : History (begun old.account.state) (map accepts done ++ answers ∷ map accepts hit) ledger
  pub state : new.account.state ≡ after_each ledger.begins (take ledger.lasting ledger.counted)
  pub any_moment : (disk old.device).honest → old.account.broken ≡ false → LeavesOnly (model old.account.rides (disk old.device)) (model old.account.rides (disk new.device)) (IsLeftOf (record ledger { lasting = 0 }))
  pub at_end : (disk old.device).honest → old.account.broken ≡ false → (image : Image) → (model old.account.rides (disk new.device)).left image → IsLeftOf ledger image
