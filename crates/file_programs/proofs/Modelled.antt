-- What a file held, in the disk models of both formats: it is what it held, since nothing was written yet.
use Rattle.std.proofs.Common.{◌≡◌, ◌∙◌, ◌⊎◌, ◌≤◌, inl, inr, ⊎_elim, ℕ, Bool, true, false, subst, arith}
use Rattle.std.specs.declared.snapshot.Snapshot.{Snapshot}
use Rattle.sector_device.specs.Disk.{Disk, Image, LeavesOnly}
use Rattle.sector_device.specs.Sectors.{KeepsImages}
use Rattle.sector_device.specs.History.{disk_after, left_after, moment_of}
use Rattle.sector_device.specs.declared.history.Held.{Held}
use Rattle.sector_device.specs.declared.history.History.{History, Opened}
use Rattle.file_device.specs.File.{file_disk}
use Rattle.file_device.specs.declared.file.FileDevice.{FileDevice}
use Rattle.store_journal.specs.Models.{model}
use Rattle.store_commits.specs.Images.{Stands}
use Rattle.doc_changes.specs.State.{State}
use Rattle.doc_store.specs.Opening.{OldOrStands, carried_after}

-- an image of a file that was opened
held_left : (rides : Bool) (sectors failures : ℕ) (held : Snapshot Held) (image : Image) → (model rides (disk_after sectors (Opened held) failures)).left image → left_after (Opened held) image
held_left false sectors failures held image left = left
held_left true sectors failures held image left = left.2

-- an image from before, or one that holds the same state
held_or_stands : (rides : Bool) (sectors failures : ℕ) (held : Snapshot Held) (image : Image) → OldOrStands (model rides (disk_after sectors (Opened held) failures)) image → OldOrStands (disk_after 0 (Opened held) 0) image
held_or_stands false sectors failures held image h = h
held_or_stands true sectors failures held image h = ⊎_elim (λ left. inl (held_left true sectors failures held image left)) inr h

-- what an opening leaves of the file
pub from_opening : (rides : Bool) (old new : FileDevice) (held : Snapshot Held) → old.history ≡ Opened held → LeavesOnly (model rides (file_disk old)) (model rides (file_disk new)) (OldOrStands (model rides (file_disk old)))
    → (image : Image) → (model rides (file_disk new)).left_since 0 image → OldOrStands (disk_after 0 (Opened held) 0) image
from_opening false old new held was leaves image since =
    held_or_stands false old.sectors old.failures held image
    (subst (λ (p : History). (i : Image) → (model false (file_disk new)).left_since (moment_of p) i → OldOrStands (model false (disk_after old.sectors p old.failures)) i) was leaves.each image since)
from_opening true old new held was leaves image since =
    held_or_stands true old.sectors old.failures held image
    (subst (λ (p : History). (i : Image) → (model true (file_disk new)).left_since (moment_of p) i → OldOrStands (model true (disk_after old.sectors p old.failures)) i) was leaves.each image since)

-- and what calls that changed nothing do
pub from_reading : (rides : Bool) (old new : FileDevice) (held : Snapshot Held) → old.history ≡ Opened held → KeepsImages (model rides (file_disk old)) (model rides (file_disk new))
    → (image : Image) → (model rides (file_disk new)).left_since 0 image → left_after (Opened held) image
from_reading false old new held was keeps image since =
    held_left false old.sectors old.failures held image
    (subst (λ (p : History). (i : Image) → (model false (file_disk new)).left_since (moment_of p) i → (model false (disk_after old.sectors p old.failures)).left i) was keeps.any_moment.each image since)
from_reading true old new held was keeps image since =
    held_left true old.sectors old.failures held image
    (subst (λ (p : History). (i : Image) → (model true (file_disk new)).left_since (moment_of p) i → (model true (disk_after old.sectors p old.failures)).left i) was keeps.any_moment.each image since)

-- ---- a device that was only looked at before

-- what follows calls that added no image
leaves_through : (old looked new : Disk) (P Q : Image → Type 0) → KeepsImages old looked → LeavesOnly looked new P → ((image : Image) → old.left image → Q image) → ((image : Image) → P image → Q image) → LeavesOnly old new Q
leaves_through old looked new P Q keeps leaves before after = record {
  later = omega (arith, keeps.any_moment.later, leaves.later);
  each = λ image since. ⊎_elim (λ was. before image (keeps.any_moment.each image was)) (after image) (leaves.before old.moment image keeps.any_moment.later since);
  before = λ moment image le since.
      ⊎_elim (λ was. ⊎_elim (λ earlier. inl earlier) (λ left. inr (before image left)) (keeps.any_moment.before moment image le was)) (λ p. inr (after image p))
      (leaves.before moment image (omega (arith, le, keeps.any_moment.later)) since);
}

pub keeps_through : (old looked new : Disk) → KeepsImages old looked → KeepsImages looked new → KeepsImages old new
keeps_through old looked new first second = record {
  seen = second.seen ∙ first.seen;
  left = λ image left. first.left image (second.left image left);
  any_moment = leaves_through old looked new looked.left old.left first second.any_moment (λ image left. left) first.left;
}

-- the same state as the device reads
abbrev StandsAsRead : Image → Image → Type 0
StandsAsRead seen image = (state : State) × (read : Stands state seen) × (now : Stands state image) × ((now.carried ≡ read.carried) ⊎ (now.carried ≡ carried_after read.carried state))

pub stands_through : (old looked new : Disk) → KeepsImages old looked → LeavesOnly looked new (OldOrStands looked) → LeavesOnly old new (OldOrStands old)
stands_through old looked new keeps leaves =
    leaves_through old looked new (OldOrStands looked) (OldOrStands old) keeps leaves (λ image left. inl left)
    (λ image p. ⊎_elim (λ left. inl (keeps.left image left)) (λ stands. inr (subst (λ (seen : Image). StandsAsRead seen image) keeps.seen stands)) p)
