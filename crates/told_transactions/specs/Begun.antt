-- The history of a store that was opened: the transactions of its log.
use Rattle.std.specs.Prelude.{◌≡◌, ◌≢◌, ◌⊎◌, ℕ, ◌+◌, List, [], ◌∷◌, length, Bool, true, false, Option, None, Some, ⊤}
use Rattle.change_history.specs.History.{History, Told, with_each}
use Rattle.record_text.specs.Frame.{AreEntries, Entry}
use Rattle.log_frames.specs.Kinds.{frames_as}
use Rattle.log_frames.specs.Log.{HaveChanges, IsLog, Log, Transacted, entries_in, log_bytes, logged_transacted, notes_in}
use Rattle.store_commits.specs.Account.{Account}
use Rattle.store_commits.specs.Images.{Holds}
use Rattle.told_transactions.specs.Told.{none_from}

-- changes are numbered one after another, from over that number on
abbrev pub AreNumbered : ℕ → List Entry → Type 0
AreNumbered seq [] = ⊤
AreNumbered seq (e ∷ es) = (e.seq ≡ seq + 1) × AreNumbered (seq + 1) es

-- so are those of a transaction, and its mark, if it sets one, has the number of its last change
pub record IsNumbered (seq : ℕ) (t : Transacted) : Type 0 where
  pub changes : AreNumbered seq t.changes
  pub mark : (m : Entry) → t.mark ≡ Some m → m.seq ≡ seq + length t.changes

-- transactions of a log whose changes are numbered one after another, from over the first number on to the second one, as a history keeps them
abbrev pub AreTold : ℕ → List Transacted → List Told → ℕ → Type 0
AreTold seq [] [] last = seq ≡ last
AreTold seq (t ∷ ts) (x ∷ xs) last =
    IsNumbered seq t × (x ≡ record { last = seq + length t.changes; frames = frames_as (logged_transacted t) }) × AreTold (seq + length t.changes) ts xs last
AreTold seq _ _ last = ⊥

-- The history of a log that ends with the change of number `last`: all its transactions, if their changes are numbered one after another, and else none.
abbrev pub BeginsWithLog : ℕ → ℕ → Log → History → Type 0
BeginsWithLog limit last log h =
    ((floor : ℕ) × (told : List Told) × AreTold floor log.transactions told last × (h ≡ with_each (none_from limit floor) told))
    ⊎ (((floor : ℕ) (told : List Told) → AreTold floor log.transactions told last → ⊥) × (h ≡ none_from limit last))

-- that of the bytes of a log
abbrev pub BeginsWithBytes : ℕ → ℕ → List ℕ → History → Type 0
BeginsWithBytes limit last bytes h = (log : Log) → IsLog log → log_bytes log ≡ bytes → BeginsWithLog limit last log h

-- The history of a store that was opened, by the bytes that were read: only in format 3 these are a log, whose transactions it has.
abbrev pub Begins : Bool → ℕ → ℕ → List ℕ → History → Type 0
Begins true limit last bytes h = BeginsWithBytes limit last bytes h
Begins false limit last bytes h = h ≡ none_from limit last

-- In format 3 the bytes hold the documents and the marks of the account, as those do that an opening read; in format 2 nothing is asked of them.
abbrev pub HoldsLog : Account → List ℕ → Type 0
HoldsLog a bytes = a.rides ≡ true → Holds a.state.profile 3 a.state.seq bytes a.state.documents a.state.marks

-- ---- for the clauses within the crate

-- transactions of a log, whose frames can be read
pub record AreLogged (ts : List Transacted) : Type 0 where
  pub changed : HaveChanges ts
  pub framed : AreEntries 2 (entries_in ts)
  pub noted : AreEntries 2 (notes_in ts)

-- a history that was filled with these; there is none if there are no transactions, or their changes aren't numbered one after another
abbrev pub IsFilled : ℕ → List Transacted → Option History → Type 0
IsFilled limit ts None = (ts ≡ []) ⊎ ((floor last : ℕ) (told : List Told) → AreTold floor ts told last → ⊥)
IsFilled limit ts (Some h) = (ts ≢ []) × (floor : ℕ) × (last : ℕ) × (told : List Told) × AreTold floor ts told last × (h ≡ with_each (none_from limit floor) told)
