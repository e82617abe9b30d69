-- The history of a store in a file, when it is opened to be served.
use Rattle.std.specs.Prelude.{◌≡◌, ◌⊎◌, ℕ, List}
use Rattle.std.specs.declared.snapshot.Snapshot.{Snapshot}
use Rattle.change_history.specs.History.{History}
use Rattle.sector_device.specs.declared.history.Held.{Held}
use Rattle.file_device.specs.declared.file.FileDevice.{FileDevice}
use Rattle.store_commits.specs.Account.{StoreView}
use Rattle.file_programs.specs.Files.{WasReadIn}
use Rattle.told_transactions.specs.Begun.{Begins}
use Rattle.told_transactions.specs.Told.{none_from}

-- It begins with this history, of at most `limit` bytes: that of these bytes, or, if memory was refused for it, none before the store's last change.
pub record BeginsIn (held : Snapshot Held) (limit : ℕ) (opened : StoreView FileDevice) (history : History) : Type 0 where
  pub bytes : List ℕ
  pub read : WasReadIn held opened bytes
  pub begins : Begins opened.account.rides limit opened.account.state.seq bytes history ⊎ (history ≡ none_from limit opened.account.state.seq)
