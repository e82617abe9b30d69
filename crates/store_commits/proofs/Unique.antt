-- What an image stands for is determined.
use Rattle.std.proofs.Common.{◌≡◌, ◌≢◌, ℕ, Bool, true, false, nat_eq, List, [], refl, sym, ◌∙◌, ap, subst}
use Rattle.std.proofs.lemmas.Bool.{eqb-true, eqb-false}
use Rattle.sector_device.specs.Disk.{Image}
use Rattle.store_journal.specs.Carries.{Carried, Carries}
use Rattle.record_text.specs.Frame.{Entry, AreEntries, AreDated, frames_in}
use Rattle.doc_machine.specs.Entries.{with_all}
use Rattle.schema_rules.specs.declared.profile.Profile.{Profile}
use Rattle.doc_changes.specs.Marks.{Mark}
use Rattle.doc_changes.specs.State.{empty_in}
use Rattle.log_frames.specs.Log.{IsLog, Log, entries_of, log_bytes, notes_of}
use Rattle.store_commits.specs.Images.{AreSpelled, Holds, HoldsOne, StandsForOne, profile_in, version_of_frames}
use Rattle.store_commits.specs.Notes.{with_marks}
use Rattle.store_commits.proofs.Notes.{same_marks}

-- entries whose frames of one format stand back to back are told by the bytes, in format 1 those of one seq
abbrev pub FramesDiffer : Type 0
FramesDiffer = (version seq : ℕ) (es fs : List Entry) → AreEntries version es → AreEntries version fs → (version ≡ 1 → AreDated seq es) → (version ≡ 1 → AreDated seq fs) → frames_in version es ≡ frames_in version fs → es ≡ fs

-- what an image carries is determined
abbrev pub CarriesOne : Type 0
CarriesOne = (image : Image) (one other : Carried) → Carries one image → Carries other image → one ≡ other

-- the bytes of a log determine it
abbrev pub LogsDiffer : Type 0
LogsDiffer = (log other : Log) → IsLog log → IsLog other → log_bytes log ≡ log_bytes other → log ≡ other

-- entries and marks that the same bytes spell are the same
spelled_one : FramesDiffer → LogsDiffer → (version seq : ℕ) (bytes : List ℕ) (es fs : List Entry) (ms ns : List Mark) → AreEntries version es → AreEntries version fs → (version ≡ 1 → AreDated seq es) → (version ≡ 1 → AreDated seq fs)
    → AreSpelled version es ms bytes → AreSpelled version fs ns bytes → (es ≡ fs) × (ms ≡ ns)
spelled_one differ logs version seq bytes es fs ms ns framed others dated dates one other = by (nat_eq version 3) refl
  where
    by : (b : Bool) → nat_eq version 3 ≡ b → (es ≡ fs) × (ms ≡ ns)
    by true is =
        let three : version ≡ 3 = eqb-true version 3 is in
        let this = one.logged three in
        let that = other.logged three in
        let same = logs this.log that.log this.is_log that.is_log (this.bytes_are ∙ sym that.bytes_are) in
        (sym this.entries_are ∙ ap entries_of same ∙ that.entries_are, same_marks ms ns (sym this.notes_are ∙ ap notes_of same ∙ that.notes_are))
    by false not =
        let plain : version ≢ 3 = eqb-false version 3 not in
        let this = one.framed plain in
        let that = other.framed plain in
        (differ version seq es fs framed others dated dates (this.0 ∙ sym that.0), this.1 ∙ sym that.1)

pub holds_one : FramesDiffer → LogsDiffer → HoldsOne
holds_one differ logs profile version seq bytes ds es ms ns one other =
    let same = spelled_one differ logs version seq bytes one.entries other.entries one.notes other.notes one.framed other.framed one.dated other.dated one.spelled other.spelled in (
      sym one.documents_are ∙ ap (λ (l : List Entry). (with_all (empty_in profile seq) l).documents) same.0 ∙ other.documents_are,
      sym one.marks_are ∙ ap (with_marks []) same.1 ∙ other.marks_are,
    )

pub stands_for_one : CarriesOne → FramesDiffer → LogsDiffer → StandsForOne
stands_for_one carries_one differ logs image s t one other =
    let same : other.carried ≡ one.carried = carries_one image other.carried one.carried other.carries one.carries in
    let profile : s.profile ≡ t.profile = sym one.profile_is ∙ sym (ap (λ (c : Carried). profile_in c.rides) same) ∙ other.profile_is in
    let there = subst (λ (c : Carried). Holds t.profile (version_of_frames c.rides c.version) c.seq c.bytes t.documents t.marks) same other.holds in
    let both =
    holds_one differ logs s.profile (version_of_frames one.carried.rides one.carried.version) one.carried.seq one.carried.bytes s.documents t.documents s.marks t.marks one.holds
    (subst (λ (p : Profile). Holds p (version_of_frames one.carried.rides one.carried.version) one.carried.seq one.carried.bytes t.documents t.marks) (sym profile) there) in
    let seq : s.seq ≡ t.seq = sym one.seq_is ∙ sym (ap (λ (c : Carried). c.seq) same) ∙ other.seq_is in
    λ i. record { documents = both.0 i; marks = both.1 i; seq = seq i; profile = profile i }
