-- The programs over a store in a file that serve it.
use Rattle.std.specs.Prelude.{ℕ, List, ◌++◌, Option}
use Rattle.std.specs.declared.snapshot.Snapshot.{Snapshot}
use Rattle.std.specs.Io.KnownBytes.{Consumes, IsAtEnd}
use Rattle.sector_device.specs.declared.history.Held.{Held}
use Rattle.file_device.specs.declared.file.FileDevice.{FileDevice}
use Rattle.file_device.specs.File.{file_disk}
use Rattle.store_commits.specs.Account.{StoreView}
use Rattle.change_history.specs.History.{History}
use Rattle.recorded_store.specs.Recorded.{RecordedView}
use Rattle.jpstore.specs.Histories.{BeginsIn}
use Rattle.jpstore.specs.Seals.{IsSealedAtEnd}
use Rattle.protocol.specs.Lines.{lines_of}
use Rattle.serve_lines.specs.Serve.{Serves}
use Rattle.serve_lines.specs.declared.limits.TheConstants.{TURNS}
use Rattle.serve_lines.specs.declared.options.Options.{Options}
use Rattle.file_programs.specs.Files.{RanIn}

-- the options of a session that ends by its input alone, with batches of at most `batch` changes and steps of at most
-- `pump` sectors after them
abbrev pub options_of : ℕ → ℕ → Options
options_of batch pump = record { batch = batch; pump = pump; turns = TURNS }

-- It was served to the end: all that was read is all there was, and what was written is the reply lines of a session over its lines, after which a store
-- that works and has accepted changes was sealed. The session's events, and the seal, were that run.
pub record IsServedIn (held : Snapshot Held) (batch pump limit : ℕ) (left left_new : Option (List ℕ)) (before after : Option (List ℕ)) (closed : StoreView FileDevice) : Type 0 where
  pub opened : StoreView FileDevice
  pub read : List ℕ
  pub consumed : Consumes left left_new read
  pub at_end : IsAtEnd left_new
  pub count : ℕ
  pub history : History
  pub begins : BeginsIn held limit opened history
  pub mid : RecordedView FileDevice
  pub served : Serves file_disk (options_of batch pump) (record { store = opened; history = history }) (lines_of read) before mid after count
  pub sealed : IsSealedAtEnd file_disk opened mid.store closed
  pub went : RanIn held opened closed (served.told.session.events ++ sealed.events) (served.told.session.said ++ sealed.said)
