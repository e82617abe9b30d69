-- For the clauses within the crate: the numbers and frames that a batch gives back, as a history takes them.
use Rattle.std.specs.Prelude.{ℕ, ◌+◌, ◌<◌, List, [], ◌∷◌, ◌++◌, length, ⊤}
use Rattle.change_history.specs.History.{Told}
use Rattle.doc_machine.specs.Transaction.{Transaction, changes_of}
use Rattle.store_commits.specs.declared.event.Reply.{Reply}
use Rattle.store_commits.specs.declared.event.Reply.TheVariants.{Done}

-- the number of the last change of a transaction that the reply says was done
abbrev pub number_in : Reply → List ℕ
number_in (Done n) = n ∷ []
number_in _ = []

abbrev pub numbers_in : List Reply → List ℕ
numbers_in [] = []
numbers_in (r ∷ rs) = number_in r ++ numbers_in rs

-- those of transactions that are accepted one after another from this number on
abbrev pub numbers_each : ℕ → List Transaction → List ℕ
numbers_each seq [] = []
numbers_each seq (t ∷ ts) = (seq + length (changes_of t)) ∷ numbers_each (seq + length (changes_of t)) ts

-- each is larger than the one before it, and the first larger than this
abbrev pub Rise : ℕ → List ℕ → Type 0
Rise from [] = ⊤
Rise from (n ∷ ns) = (from < n) × Rise n ns

-- transactions of these numbers and frames
abbrev pub told_with : List ℕ → List (List ℕ) → List Told
told_with [] frames = []
told_with (n ∷ ns) [] = []
told_with (n ∷ ns) (bytes ∷ frames) = record { last = n; frames = bytes } ∷ told_with ns frames
