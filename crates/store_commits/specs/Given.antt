-- The frames that a batch gives back beside its replies.
use Rattle.std.specs.Prelude.{◌≡◌, ℕ, List, map, Vec}
use Rattle.std.specs.Global.{Global}
use Rattle.doc_machine.specs.Transaction.{Transaction}
use Rattle.store_commits.specs.Account.{Account}
use Rattle.store_commits.specs.Batch.{changes}
use Rattle.store_commits.specs.Events.{dones_of}
use Rattle.store_commits.specs.Folds.{AreFramedEach, frames_each}
use Rattle.store_commits.specs.declared.batch.Committed.{Committed}

-- the bytes of each
abbrev pub bytes_each : List (Vec ℕ Global) → List (List ℕ)
bytes_each vs = map (λ v. v.items) vs

-- of these transactions, each that was done: its frames, in order; and a journal can hold each of their changes and marks
pub record GivesBack (old : Account) (ts : List Transaction) (c : Committed) : Type 0 where
  pub given : bytes_each c.frames.items ≡ frames_each old.rides old.state.seq (dones_of (changes ts) c.replies.items)
  pub framed : AreFramedEach old.state.seq (dones_of (changes ts) c.replies.items)
