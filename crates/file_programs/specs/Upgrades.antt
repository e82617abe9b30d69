-- The result of `upgrade`: the store in a file, in another format.
use Rattle.std.specs.Prelude.{◌≡◌, ◌⊎◌, ℕ, Option, nat_eq, pos, codes, true, if◌then◌else◌}
use Rattle.std.specs.declared.snapshot.Snapshot.{Snapshot}
use Rattle.sector_device.specs.Disk.{Image}
use Rattle.sector_device.specs.declared.history.Held.{Held}
use Rattle.sector_device.specs.declared.history.History.{Opened}
use Rattle.sector_device.specs.History.{disk_after}
use Rattle.file_device.specs.declared.file.FileDevice.{FileDevice}
use Rattle.file_device.specs.File.{file_disk}
use Rattle.doc_tree.specs.Doc.{Doc, boolean, int, object, member, no_members}
use Rattle.store_journal.specs.Models.{model}
use Rattle.store_commits.specs.Account.{Account, IsStanding, StoreView}
use Rattle.doc_store.specs.Formats.{InEither, IsImageOf, account_in}
use Rattle.doc_store.specs.Opening.{OldOrStands}
use Rattle.doc_store.specs.declared.format.Format.{Format}
use Rattle.doc_store.specs.declared.format.Format.TheVariants.{Two, Three}
use Rattle.file_programs.specs.Files.{IsOpenedIn}
use Rattle.file_programs.specs.Identity.{IsChosen}

-- the format of a number of the words: 3, or else 2
abbrev pub format_numbered : ℕ → Format
format_numbered number = if nat_eq number 3 then Three else Two

-- the image holds the account in its format, or on the way, or in the other, with the identity that was asked for, or any
abbrev pub MayTurn : Account → Format → Option ℕ → Image → Type 0
MayTurn a format asked image = (identity : ℕ) × IsChosen asked identity × InEither a format identity image

-- A store was opened in a file that held this, and went as far to a format as its device let it. If all reads gave what
-- the file held, what a crash might have left at any moment, in its format's disk model, is an image from before, or holds what was opened, in its
-- format or in that one.
pub record WentTo (held : Snapshot Held) (format : Format) (asked : Option ℕ) (opened closed : StoreView FileDevice) : Type 0 where
  pub is_opened : IsOpenedIn held opened
  pub honest : (file_disk closed.device).honest → (file_disk opened.device).honest
  pub any_moment : (file_disk closed.device).honest → (image : Image) → (model opened.account.rides (file_disk closed.device)).left_since 0 image
      → OldOrStands (disk_after 0 (Opened held) 0) image ⊎ MayTurn opened.account format asked image
  pub standing : IsStanding (file_disk closed.device) closed.account

-- It is in that format, and if it was in another and that is format 3, it has the identity that was asked for, or any: nothing else has changed since it was opened, and each image that a crash may leave is in that
-- format.
pub record IsUpgraded (format : Format) (asked : Option ℕ) (opened closed : StoreView FileDevice) : Type 0 where
  pub identity : ℕ
  pub chosen : IsChosen asked identity
  pub account_is : closed.account ≡ account_in format identity opened.account
  pub images : (file_disk closed.device).honest → (image : Image) → (model closed.account.rides (file_disk closed.device)).left image → IsImageOf closed.account image

-- the reply: the format it is in, and the one it was in when it was opened
abbrev pub upgrade_reply : ℕ → ℕ → Doc
upgrade_reply now before =
    object (member (codes "format") (int (pos now)) (member (codes "from") (int (pos before)) (member (codes "ok") (boolean true) no_members)))
