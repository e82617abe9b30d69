-- What formatting with a snapshot makes of a device.
use Rattle.std.proofs.Common.{◌≡◌, inl, inr, ⊎_elim, ℕ, List, Bool, true, false, length, refl, ap, subst, ◌∙◌}
use Rattle.sector_device.specs.Disk.{Disk, Image, LeavesOnly}
use Rattle.sector_device.proofs.Moments.{leaves_weaker}
use Rattle.half_journal.specs.States.{one_more}
use Rattle.store_journal.specs.Carries.{Carried, Carries, identity_in}
use Rattle.store_journal.specs.Filling.{Filled, NoneOrAll, filled}
use Rattle.store_journal.specs.Models.{model}
use Rattle.store_journal.proofs.Unique.{carries_one}
use Rattle.doc_changes.specs.State.{Document, Good, State, in_profile}
use Rattle.doc_changes.specs.Within.{AreWithin}
use Rattle.doc_changes.proofs.Framed.{framed_storable}
use Rattle.doc_changes.proofs.Marked.{good_within}
use Rattle.doc_changes.specs.Marks.{Mark, marks_in}
use Rattle.store_commits.specs.Account.{Account}
use Rattle.store_commits.specs.Images.{Holds, profile_in, version_of_frames}
use Rattle.store_commits.specs.Snapshot.{snapshot_bytes}
use Rattle.store_commits.proofs.Migrating.{snapshot_holds}
use Rattle.store_commits.proofs.Snapshots.{remakes_all}
use Rattle.doc_store.specs.Opening.{IsCopied, IsCopyOf, copied_of, IsOpenedFrom}
use Rattle.doc_store.specs.Formats.{rides_in, status_of}
use Rattle.doc_store.specs.declared.format.Format.{Format}
use Rattle.doc_store.specs.declared.status.Status.{Status}
use Rattle.doc_store.proofs.Opened.{one_state}

-- the snapshot has the marks that its format keeps
pub bytes_same : (rides : Bool) (ds : List Document) (ms : List Mark) → snapshot_bytes rides ds (marks_in (profile_in rides) ms) ≡ snapshot_bytes rides ds ms
bytes_same false ds ms = refl
bytes_same true ds ms = refl

module _ (format : Format) (identity : ℕ) (a : Account) (good : Good a.state) (within : AreWithin (profile_in (rides_in format)) a.state.documents) where
  abbrev S : State
  S = in_profile (profile_in (rides_in format)) a.state

  abbrev R : Bool
  R = rides_in format

  copy_of : (image : Image) → Carries (copied_of format identity a) image → IsCopyOf format identity a image
  copy_of image carries = record {
    stands = record {
      carried = copied_of format identity a;
      carries = carries;
      seq_is = refl;
      profile_is = refl;
      holds = subst (λ (l : List ℕ). Holds S.profile (version_of_frames R 2) S.seq l S.documents S.marks) (bytes_same R a.state.documents a.state.marks)
          (snapshot_holds R S a.state.seq refl refl (remakes_all framed_storable S (good_within (profile_in (rides_in format)) a.state good within)));
    };
    carried_is = refl;
  }

  -- with the bytes of its snapshot, and its numbers as it tells them
  module _ (bytes : List ℕ) (status : Status) (rides : Bool) (bytes_are : bytes ≡ snapshot_bytes (rides_in format) a.state.documents a.state.marks) (status_is : status ≡ status_of a) (rides_is : rides ≡ rides_in format) (old new : Disk) where
    carried_is : filled rides bytes status.seq status.opens identity ≡ copied_of format identity a
    carried_is = λ i. filled (rides_is i) (bytes_are i) (status_is i).seq (status_is i).opens identity

    pub copied : (used : ℕ) → used ≡ length bytes → Filled old new (filled rides bytes status.seq status.opens identity) → IsCopied format identity old new a used
    copied used is all =
        let whole = subst (Filled old new) carried_is all in
        record { filled_so = whole; used_is = is ∙ ap length bytes_are; copies = λ honest image left. copy_of image (whole.carries honest image left) }

    pub none_or_copy : LeavesOnly (model rides old) (model rides new) (NoneOrAll rides old (Carries (filled rides bytes status.seq status.opens identity))) → LeavesOnly (model R old) (model R new) (NoneOrAll R old (IsCopyOf format identity a))
    none_or_copy leaves =
        leaves_weaker (model R old) (model R new) (NoneOrAll R old (Carries (copied_of format identity a))) (NoneOrAll R old (IsCopyOf format identity a))
        (λ image. ⊎_elim inl (λ h. inr (h.0, ⊎_elim inl (λ carries. inr (copy_of image carries)) h.1)))
        (subst (λ (c : Carried). LeavesOnly (model R old) (model R new) (NoneOrAll R old (Carries c))) carried_is
        (subst (λ (b : Bool). LeavesOnly (model b old) (model b new) (NoneOrAll b old (Carries (filled rides bytes status.seq status.opens identity)))) rides_is leaves))

pub opens_alike : (format : Format) (identity : ℕ) (a opened : Account) (image : Image) → IsCopyOf format identity a image → IsOpenedFrom image opened
    → (opened.state ≡ in_profile (profile_in (rides_in format)) a.state) × (opened.rides ≡ rides_in format) × (opened.opens ≡ one_more a.opens) × (opened.identity ≡ identity_in (rides_in format) identity)
opens_alike format identity a opened image copy from =
    let same : from.stands.carried ≡ copied_of format identity a = carries_one image from.stands.carried (copied_of format identity a) from.stands.carries (subst (λ (c : Carried). Carries c image) copy.carried_is copy.stands.carries) in (
      one_state image opened.state (in_profile (profile_in (rides_in format)) a.state) from.stands copy.stands,
      from.opened_as.rides_is ∙ ap (λ (c : Carried). c.rides) same,
      from.opened_as.opens_is ∙ ap (λ (c : Carried). one_more c.opens) same,
      from.opened_as.identity_is ∙ ap (λ (c : Carried). c.identity) same,
    )
