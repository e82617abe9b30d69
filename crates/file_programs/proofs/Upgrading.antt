-- A store in a file that is brought to another format.
use Rattle.std.proofs.Common.{inl, inr, ⊎_elim, arith, ℕ, Option}
use Rattle.std.specs.declared.snapshot.Snapshot.{Snapshot}
use Rattle.sector_device.specs.Disk.{LeavesOnly}
use Rattle.sector_device.specs.declared.history.Held.{Held}
use Rattle.file_device.specs.File.{file_disk}
use Rattle.file_device.specs.declared.file.FileDevice.{FileDevice}
use Rattle.store_journal.specs.Models.{model}
use Rattle.store_commits.specs.Account.{IsStanding, StoreView}
use Rattle.doc_store.specs.declared.format.Format.{Format}
use Rattle.file_programs.specs.Files.{IsOpenedIn}
use Rattle.file_programs.specs.Upgrades.{MayTurn, WentTo}

-- what a crash might have left since the file was opened is from the opening, or from the way to the format
pub went_to : (held : Snapshot Held) (format : Format) (asked : Option ℕ) (opened closed : StoreView FileDevice) → IsOpenedIn held opened
    → ((file_disk closed.device).honest → LeavesOnly (model opened.account.rides (file_disk opened.device)) (model opened.account.rides (file_disk closed.device)) (MayTurn opened.account format asked))
    → ((file_disk closed.device).honest → (file_disk opened.device).honest) → IsStanding (file_disk closed.device) closed.account
    → WentTo held format asked opened closed
went_to held format asked opened closed is_opened leaves honest standing = record {
  is_opened = is_opened;
  honest = honest;
  any_moment = λ h image since. ⊎_elim (λ before. inl (is_opened.any_moment (honest h) image before)) (λ new. inr new)
      ((leaves h).before 0 image (omega arith) since);
  standing = standing;
}
