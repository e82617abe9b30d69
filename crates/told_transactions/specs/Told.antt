-- Transactions as a history keeps them: the frames of each, as it was accepted.
use Rattle.std.specs.Prelude.{◌≡◌, ℕ, ◌+◌, Bool, List, [], ◌∷◌, length}
use Rattle.change_history.specs.History.{History, Told}
use Rattle.doc_machine.specs.Transaction.{Transaction, changes_of}
use Rattle.store_commits.specs.Folds.{AreFramedEach, frames_of}

-- no transaction yet, after the change of that number
abbrev pub none_from : ℕ → ℕ → History
none_from limit floor = record { limit = limit; floor = floor; told = [] }

-- transactions that were accepted one after another from this number on, as a history keeps them: of each the number of its last change, and its frames
abbrev pub told_each : Bool → ℕ → List Transaction → List Told
told_each rides seq [] = []
told_each rides seq (t ∷ ts) = record { last = seq + length (changes_of t); frames = frames_of rides seq t } ∷ told_each rides (seq + length (changes_of t)) ts

-- a journal can hold the changes of each of them, which are accepted one after another from this number on, and its mark: so its frames can be read
abbrev pub AreReadable : ℕ → List Transaction → Type 0
AreReadable = AreFramedEach

-- these are transactions that were accepted one after another from this number on, and their frames can be read
abbrev pub AreFrom : Bool → ℕ → List Told → Type 0
AreFrom rides from told = (ts : List Transaction) × (told ≡ told_each rides from ts) × AreReadable from ts
