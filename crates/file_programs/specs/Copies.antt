-- The result of `copy`: a new file with a copy of a store.
use Rattle.std.specs.Prelude.{◌≡◌, ◌⊎◌, ℕ, List, length, false, Option, None, Some, Result}
use Rattle.sector_device.specs.Disk.{Disk, Image, LeavesOnly}
use Rattle.file_device.specs.declared.file.FileDevice.{FileDevice}
use Rattle.file_device.specs.File.{file_disk}
use Rattle.store_journal.specs.Carries.{identity_in}
use Rattle.store_journal.specs.Filling.{IsNone, NoneOrAll}
use Rattle.store_journal.specs.Models.{model}
use Rattle.doc_changes.specs.State.{in_profile}
use Rattle.store_commits.specs.Account.{Account}
use Rattle.store_commits.specs.Images.{profile_in}
use Rattle.doc_store.specs.Formats.{format_of, rides_in, status_of}
use Rattle.doc_store.specs.Opening.{IsCopyOf}
use Rattle.doc_store.specs.declared.format.Format.{Format}
use Rattle.store_commits.specs.Snapshot.{snapshot_bytes}
use Rattle.protocol.specs.Reply.{line_of}
use Rattle.status_lines.specs.Status.{status_reply}
use Rattle.file_programs.specs.Identity.{IsChosen}
use Rattle.file_programs.specs.Shown.{Shows}
use Rattle.file_programs.specs.Upgrades.{format_numbered}
use Rattle.file_programs.specs.declared.fault.Fault.{Fault}

-- the format of a copy: that which the words ask for, or, if they ask for none, the store's
abbrev pub format_copied : Option ℕ → Account → Format
format_copied None a = format_of a
format_copied (Some number) a = format_numbered number

-- A file was created with `sectors` sectors, and the store copied into it, in a format: if all reads gave what the file
-- held, each image that a crash may leave, in that format's disk model, holds the same state, opened as often, in format 3 with the identity that was asked for, or any; and what a
-- crash might have left at any moment until now is that, or no store.
pub record IsCopiedFile (sectors : ℕ) (format : Format) (asked : Option ℕ) (a : Account) (device : FileDevice) : Type 0 where
  pub identity : ℕ
  pub chosen : IsChosen asked identity
  pub size : (file_disk device).sectors ≡ sectors
  pub copies : (file_disk device).honest → (image : Image) → (model (rides_in format) (file_disk device)).left image → IsCopyOf format identity a image
  pub any_moment : (file_disk device).honest → (image : Image) → (model (rides_in format) (file_disk device)).left_since 0 image → IsNone (rides_in format) image ⊎ IsCopyOf format identity a image

-- a store was copied to a device: what a crash may leave at its end, and what it might have left meanwhile
pub record IsFilled (format : Format) (identity : ℕ) (old new : Disk) (a : Account) : Type 0 where
  pub size : new.sectors ≡ old.sectors
  pub honest : new.honest → old.honest
  pub copies : new.honest → (image : Image) → (model (rides_in format) new).left image → IsCopyOf format identity a image
  pub any_moment : new.honest → LeavesOnly (model (rides_in format) old) (model (rides_in format) new) (NoneOrAll (rides_in format) old (IsCopyOf format identity a))

-- the account of the copy, in that format, in format 3 with this identity, before it is opened
abbrev pub account_copied : Format → ℕ → Account → ℕ → Account
account_copied format identity a sectors =
    record {
      state = in_profile (profile_in (rides_in format)) a.state;
      used = length (snapshot_bytes (rides_in format) a.state.documents a.state.marks);
      half = 0;
      opens = a.opens;
      identity = identity_in (rides_in format) identity;
      sectors = sectors;
      rides = rides_in format;
      broken = false;
      copy = None;
    }

-- what was shown of a copy: its status, with the identity that was asked for, or any
pub record ShowsCopy {T : Type 0} (sectors : ℕ) (format : Format) (asked : Option ℕ) (a : Account) (copied : Result T Fault) (before after : Option (List ℕ)) : Type 0 where
  pub identity : ℕ
  pub chosen : IsChosen asked identity
  pub shown : Shows copied (line_of (status_reply (status_of (account_copied format identity a sectors)))) before after
