-- The promise to a client of a store in a file, from the bytes that come in to the bytes that go out.
use Rattle.std.specs.Prelude.{◌≡◌, ◌⊎◌, ℕ, List, [], Option, Result, Err}
use Rattle.std.specs.declared.snapshot.Snapshot.{Snapshot}
use Rattle.std.specs.Io.KnownBytes.{Appends, IsAtEnd}
use Rattle.sector_device.specs.Disk.{Image}
use Rattle.sector_device.specs.declared.history.Held.{Held}
use Rattle.sector_device.specs.declared.history.History.{Opened}
use Rattle.sector_device.specs.History.{disk_after}
use Rattle.file_device.specs.declared.file.FileDevice.{FileDevice}
use Rattle.file_device.specs.File.{file_disk}
use Rattle.store_journal.specs.Models.{model}
use Rattle.store_commits.specs.Account.{StoreView}
use Rattle.doc_store.specs.Opening.{OldOrStands}
use Rattle.doc_store.specs.Promise.{IsLeftOf}
use Rattle.protocol.specs.Reply.{reply_lines}
use Rattle.serve_lines.specs.Kept.{IsKept}
use Rattle.protocol.specs.declared.serve_fault.ServeFault.TheVariants.{Writer}
use Rattle.file_programs.specs.declared.fault.Fault.{Fault}
use Rattle.file_programs.specs.declared.fault.Fault.TheVariants.{Session}
use Rattle.change_history.specs.History.{History}
use Rattle.file_programs.specs.Files.{IsOpenedIn, WentToTheEnd}
use Rattle.jpstore.specs.Histories.{BeginsIn}

-- A store that was opened in a file that held this was served so, however that ended.
pub record IsKeptIn (held : Snapshot Held) (limit : ℕ) (ended : Result (Unit {0}) Fault) (left left_new before after : Option (List ℕ)) (closed : StoreView FileDevice) : Type 0 where
  pub opened : StoreView FileDevice
  pub is_opened : IsOpenedIn held opened
  pub honest : (file_disk closed.device).honest → (file_disk opened.device).honest
  -- the history that it begins with, and the one that it ends with, of which nothing more is said here
  pub first : History
  pub last : History
  pub begins : BeginsIn held limit opened first
  pub kept : IsKept file_disk (record { store = opened; history = first }) (record { store = closed; history = last }) left left_new
  -- At the end of the input no line is without a reply; and unless the writer failed the lines of the replies are all that was written.
  pub whole : WentToTheEnd ended → (kept.later ≡ []) × IsAtEnd left_new
  pub wrote : (ended ≡ Err (Session Writer) → ⊥) → Appends before after (reply_lines kept.replies)
  -- If all that was read was there: what a crash might have left at any moment, in the disk model of the store's format, is an image from before, or holds the state that was opened, or one of the ledger; and at the end all that were answered as done last.
  pub any_moment : (file_disk closed.device).honest → (image : Image) → (model opened.account.rides (file_disk closed.device)).left_since 0 image
      → OldOrStands (disk_after 0 (Opened held) 0) image ⊎ IsLeftOf (record kept.promise.ledger { lasting = 0 }) image
  pub at_end : (file_disk closed.device).honest → (image : Image) → (model opened.account.rides (file_disk closed.device)).left image → IsLeftOf kept.promise.ledger image
