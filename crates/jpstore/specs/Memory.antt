-- The program `mem`: a session over an empty store on a disk in memory.
use Rattle.std.specs.Prelude.{◌≡◌, ℕ, List, Bool, Option, None, false, nat_eq}
use Rattle.std.specs.Io.KnownBytes.{Consumes, IsAtEnd}
use Rattle.sector_device.specs.Memory.{mem_disk}
use Rattle.sector_device.specs.declared.memory.MemDisk.{MemDisk}
use Rattle.doc_changes.specs.State.{empty_in}
use Rattle.store_commits.specs.Account.{Account, StoreView}
use Rattle.store_commits.specs.Images.{profile_in}
use Rattle.recorded_store.specs.Recorded.{RecordedView}
use Rattle.told_transactions.specs.Told.{none_from}
use Rattle.protocol.specs.Lines.{lines_of}
use Rattle.serve_lines.specs.Serve.{Serves}
use Rattle.jpstore.specs.Files.{options_of}
use Rattle.jpstore.specs.Seals.{IsSealedAtEnd}

-- the account of a store of `sectors` sectors in which nothing was ever made, in format 3 if its last bytes ride in slots, with the identity 0, opened once
abbrev pub new_account : Bool → ℕ → Account
new_account rides sectors = record { state = empty_in (profile_in rides) 0; used = 0; half = 0; rides = rides; opens = 1; identity = 0; sectors = sectors; broken = false; copy = None }

-- An empty store of `sectors` sectors, in format 3 or, for any other number, 2, was served to the end, and works: all that was read is all there was, and what
-- was written is the reply lines of a session over its lines, in which each change is made by itself, and no step of a
-- copy unasked. It is sealed at its end, which has nothing to do in format 2.
pub record IsServedInMemory (sectors version limit : ℕ) (left left_new : Option (List ℕ)) (before after : Option (List ℕ)) (closed : StoreView MemDisk) : Type 0 where
  pub opened : StoreView MemDisk
  pub is_new : opened.account ≡ new_account (nat_eq version 3) sectors
  pub works : closed.account.broken ≡ false
  pub read : List ℕ
  pub consumed : Consumes left left_new read
  pub at_end : IsAtEnd left_new
  pub count : ℕ
  pub mid : RecordedView MemDisk
  pub served : Serves mem_disk (options_of 1 0) (record { store = opened; history = none_from limit 0 }) (lines_of read) before mid after count
  pub sealed : IsSealedAtEnd mem_disk opened mid.store closed
