-- Transactions whose frames fit nowhere, but after which the documents' snapshot fits into a half: in format 3 that snapshot is committed in place of the frames.
use Rattle.std.specs.Prelude.{◌≡◌, ◌≤◌, ◌<◌, true}
use Rattle.store_journal.specs.Layout.{capacity_of}
use Rattle.doc_machine.specs.Transaction.{Transaction, after_in}
use Rattle.store_commits.specs.Account.{Account}
use Rattle.store_commits.specs.Snapshot.{snapshot_size}

-- the account with the state after the transaction in place of its own
abbrev pub account_after : Account → Transaction → Account
account_after a t = record a { state = after_in a.state t }

-- in format 3 alone: a half has room for the snapshot of the documents after the transaction
abbrev pub FitsAfter : Account → Transaction → Type 0
FitsAfter a t = (a.rides ≡ true) × (snapshot_size (account_after a t) ≤ capacity_of a.rides a.sectors)

-- in formats 1 and 2; or a half has none
abbrev pub IsOverAfter : Account → Transaction → Type 0
IsOverAfter a t = a.rides ≡ true → capacity_of a.rides a.sectors < snapshot_size (account_after a t)
