-- A file that is only read.
use Rattle.std.proofs.Common.{◌≡◌, ◌≢◌, ◌⊎◌, ◌<◌, ◌≤◌, ◌-◌, ◌^◌, ◌∙◌, false, inl, inr, ⊎_elim, ℕ, List, length, ap, arith, Option, IfOk, MatchResult, Result, Ok, Err, refl, sym, subst}
use Rattle.std.specs.Io.KnownBytes.{Appends}
use Rattle.std.specs.declared.snapshot.Snapshot.{Snapshot}
use Rattle.sector_device.specs.declared.history.Held.{Held}
use Rattle.sector_device.specs.declared.history.History.{History}
use Rattle.sector_device.specs.declared.history.History.TheVariants.{Opened}
use Rattle.sector_device.specs.Charges.{IsSameRead}
use Rattle.sector_device.specs.Disk.{Disk}
use Rattle.sector_device.specs.History.{disk_after, seen_after}
use Rattle.sector_device.specs.Charges.{Failed}
use Rattle.file_device.specs.File.{file_coherent, file_disk}
use Rattle.file_device.specs.declared.file.FileDevice.{FileDevice}
use Rattle.slot_commits.specs.declared.found.Notice.{Notice}
use Rattle.store_commits.specs.Images.{Stands, StandsForNothing}
use Rattle.store_journal.specs.Layout.{IsSized}
use Rattle.store_journal.specs.Opening.{IsLikeStore}
use Rattle.store_journal.specs.Outdated.{IsNotNewest}
use Rattle.doc_changes.specs.State.{State}
use Rattle.doc_store.specs.Opening.{LacksRoom, NotOpened}
use Rattle.doc_store.specs.Strict.{IsSaidOf, IsTaken}
use Rattle.doc_store.specs.declared.opening.Strictness.{Strictness}
use Rattle.doc_store.specs.declared.opening.Strictness.TheVariants.{AnyState, RefusesCutOff}
use Rattle.doc_store.proofs.Strict.{untaken}
use Rattle.refusals.specs.declared.numbers.TheConstants.{CUT_OFF, MEMORY}
use Rattle.damaged_files.specs.Damages.{IsExaminedOn, condition_of, damages_of, report_on}
use Rattle.damaged_files.specs.declared.report.Told.{Told}
use Rattle.damaged_files.specs.declared.showing.ShowFault.{ShowFault}
use Rattle.damaged_files.specs.declared.showing.ShowFault.TheVariants.{Writer}
use Rattle.file_programs.specs.Files.{IsNotTaken}
use Rattle.file_programs.specs.Reads.{HasFailed, IsFoundIn, IsNotLooked, IsReadIn, IsRefusedFor, IsUnlookedIn, IsUnlookedOn}
use Rattle.file_programs.specs.declared.opening.Unopened.{Unopened}
use Rattle.file_programs.specs.declared.opening.Unopened.TheVariants.{NoFile, NoStore}

-- what is on the device of a file of which nothing was read yet is in what it held
pub read_in : (held : Snapshot Held) (first device : FileDevice) (s : State) → first.history ≡ Opened held → ((file_disk device).honest → Stands s (file_disk first).seen) → IsReadIn held device s
read_in held first device s was stands = λ honest. subst (λ (p : History). Stands s (seen_after p)) was (stands honest)

-- why nothing is
pub refused_in : (strictness : Strictness) (held : Snapshot Held) (first device : FileDevice) (number : ℕ) → first.history ≡ Opened held → IsNotLooked strictness (file_disk first) (file_disk device) number
    → IsNotLooked strictness (disk_after first.sectors (Opened held) first.failures) (file_disk device) number
refused_in strictness held first device number was refused = subst (λ (p : History). IsNotLooked strictness (disk_after first.sectors p first.failures) (file_disk device) number) was refused

-- what isn't opened in any state isn't looked at
pub not_looked : (strictness : Strictness) (old new : Disk) (number : ℕ) → IsNotTaken AnyState old new number → IsNotLooked strictness old new number
not_looked AnyState old new number why = why
not_looked RefusesCutOff old new number why = inl why

-- nor is one in which a commit was cut off, if that is refused
pub cut_off : (strictness : Strictness) (notice : Notice) (old new : Disk) (state : State) → (IsTaken strictness notice → ⊥) → (new.honest → Stands state old.seen) → (new.honest → IsSaidOf old.seen notice) → IsNotLooked strictness old new CUT_OFF
cut_off strictness notice old new state none stands said =
    let is = untaken strictness notice none in
    subst (λ (s : Strictness). IsNotLooked s old new CUT_OFF) (sym is.0) (inr (refl, λ honest. record { state = state; stands = stands honest; said = subst (IsSaidOf old.seen) is.1 (said honest) }))

-- what reads alike has as many sectors
pub same_size : (one other : FileDevice) → (file_disk one).honest → (file_disk other).honest → (file_disk other).seen ≡ (file_disk one).seen → (file_disk other).sectors ≡ (file_disk one).sectors
same_size one other first second seen =
    let before = file_coherent one first in
    let after = file_coherent other second in
    sym (after.shape (file_disk other).seen after.seen).count ∙ ap length seen ∙ (before.shape (file_disk one).seen before.seen).count

-- a call failed
abbrev pub Raised : Disk → Disk → Type 0
Raised old new = (old.failures < new.failures) ⊎ old.failures_saturated

-- why an opening of a device is refused, in the words of a program with memory, if no more was read of it before
refused_of : (old looked new : Disk) (number : ℕ) → (number ≡ MEMORY → ⊥) → looked.sectors ≡ old.sectors → (new.honest → looked.seen ≡ old.seen) → (Raised looked new → Raised old new) → NotOpened looked new number → IsRefusedFor new.honest (Raised old new) old.seen old.sectors number
refused_of old looked new number other size seen raised (inl (e, inl sized)) = inl (e, λ honest. inl (λ has. sized.0 (subst (IsSized false) (sym size) has)))
refused_of old looked new number other size seen raised (inl (e, inr read)) = inl (e, λ honest. inr (λ like. read.1 honest (subst IsLikeStore (sym (seen honest)) like)))
refused_of old looked new number other size seen raised (inr (inl (e, damaged))) =
    inr (inl (e, λ honest. inl (subst IsLikeStore (seen honest) (damaged.there honest), subst StandsForNothing (seen honest) (damaged.nothing honest))))
refused_of old looked new number other size seen raised (inr (inr (inl (e, finds)))) = inr (inr (inl (e, λ honest. subst LacksRoom (seen honest) (finds.no_room honest))))
refused_of old looked new number other size seen raised (inr (inr (inr (inl (e, failed))))) = inr (inr (inr (e, raised failed.any.failures)))
refused_of old looked new number other size seen raised (inr (inr (inr (inr (e, read))))) = absurd (other e)

not_newest_of : (old new : Disk) (number : ℕ) → (number ≡ MEMORY → ⊥) → IsNotNewest old new number → IsRefusedFor new.honest (Raised old new) old.seen old.sectors number
not_newest_of old new number other is =
    ⊎_elim (λ outdated. inr (inl (outdated.0, λ honest. inr (outdated.1 honest)))) (λ rest. ⊎_elim (λ device. inr (inr (inr (device.0, device.1.failures)))) (λ memory. absurd (other memory.0)) rest) is.why

not_taken_of : (old new : Disk) (number : ℕ) → (number ≡ MEMORY → ⊥) → IsNotTaken AnyState old new number → IsRefusedFor new.honest (Raised old new) old.seen old.sectors number
not_taken_of old new number other (inl is) = not_newest_of old new number other is
not_taken_of old new number other (inr (looked, newest, honest, refused)) = refused_of old (file_disk looked) new number other newest.same.size (λ now. (newest.keeps (honest now) false).seen)
    (λ raised. let made = newest.looked.made in ⊎_elim (λ rose. inl (omega (arith, made.failures, rose))) (λ full. inr (made.failures_saturated.1 full)) raised) refused

-- the same of as many sectors
sized_as : (honest failed : Type 0) (image : List (List ℕ)) (sectors same number : ℕ) → (honest → same ≡ sectors) → IsRefusedFor honest failed image sectors number → IsRefusedFor honest failed image same number
sized_as honest failed image sectors same number is (inl (e, why)) = inl (e, λ h. ⊎_elim (λ none. inl (λ sized. none (subst (IsSized false) (is h) sized))) (λ like. inr like) (why h))
sized_as honest failed image sectors same number is (inr rest) = inr rest

-- the same in the words of a program, with memory
pub refused_for : (held : Snapshot Held) (first device : FileDevice) (number : ℕ) → first.history ≡ Opened held → (number ≡ MEMORY → ⊥) → IsNotTaken AnyState (file_disk first) (file_disk device) number
    → ((file_disk device).honest → (file_disk device).sectors ≡ (file_disk first).sectors) → IsRefusedFor ((file_disk device).honest) (HasFailed first.failures device) held.value.seen.items (file_disk device).sectors number
refused_for held first device number was other refused size =
    sized_as ((file_disk device).honest) (HasFailed first.failures device) held.value.seen.items (file_disk first).sectors (file_disk device).sectors number size
    (subst (λ (p : History). IsRefusedFor ((file_disk device).honest) (HasFailed first.failures device) (seen_after p) first.sectors number) was (not_taken_of (file_disk first) (file_disk device) number other refused))

failed_on : (failures : ℕ) (device later : FileDevice) → (file_disk device).failures ≤ (file_disk later).failures → HasFailed failures device → HasFailed failures later
failed_on failures device later rose (inl more) = inl (omega (arith, rose, more))
failed_on failures device later rose (inr full) = inr full

read_on : (held : Snapshot Held) (failures sectors : ℕ) (device later : FileDevice) (number : ℕ) → ((file_disk later).honest → (file_disk device).honest) → (file_disk device).failures ≤ (file_disk later).failures
    → IsRefusedFor ((file_disk device).honest) (HasFailed failures device) held.value.seen.items sectors number → IsRefusedFor ((file_disk later).honest) (HasFailed failures later) held.value.seen.items sectors number
read_on held failures sectors device later number before rose (inl is) = inl (is.0, λ honest. is.1 (before honest))
read_on held failures sectors device later number before rose (inr (inl is)) = inr (inl (is.0, λ honest. is.1 (before honest)))
read_on held failures sectors device later number before rose (inr (inr (inl is))) = inr (inr (inl (is.0, λ honest. is.1 (before honest))))
read_on held failures sectors device later number before rose (inr (inr (inr is))) = inr (inr (inr (is.0, failed_on failures device later rose is.1)))

-- the same, if the device is read further
pub found_on : (held : Snapshot Held) (failures : ℕ) (device later : FileDevice) (found : Result State ℕ) → IsSameRead (file_disk device) (file_disk later) → (file_disk device).failures ≤ (file_disk later).failures
    → IsFoundIn held failures device found → IsFoundIn held failures later found
found_on held failures device later (Ok s) same rose is = (λ honest. is.0 (same.honest honest), is.1)
found_on held failures device later (Err number) same rose is =
    sized_as ((file_disk later).honest) (HasFailed failures later) held.value.seen.items (file_disk device).sectors (file_disk later).sectors number (λ honest. same.size)
    (read_on held failures (file_disk device).sectors device later number same.honest rose is)

-- the report of a device of that size on which an opening is refused by that number
pub told_of : (result : Result Told ShowFault) (sectors later : ℕ) (refused wanted : Option ℕ) (before after : Option (List ℕ)) → later ≡ sectors → refused ≡ wanted
    → IfOk result (λ told. IsExaminedOn sectors told.examined) → IfOk result (λ told. told.condition ≡ condition_of (damages_of refused told.examined))
    → MatchResult result (λ told. Appends before after (report_on refused told.examined)) (λ fault. fault ≢ Writer → after ≡ before)
    → MatchResult result (λ told. IsExaminedOn later told.examined × (told.condition ≡ condition_of (damages_of wanted told.examined)) × Appends before after (report_on wanted told.examined))
    (λ fault. fault ≢ Writer → after ≡ before)
told_of (Ok told) sectors later refused wanted before after size same examined condition shown = (
  subst (λ n. IsExaminedOn n told.examined) (sym size) examined,
  subst (λ (number : Option ℕ). told.condition ≡ condition_of (damages_of number told.examined)) same condition,
  subst (λ (number : Option ℕ). Appends before after (report_on number told.examined)) same shown,
)
told_of (Err fault) sectors later refused wanted before after size same examined condition shown = shown

-- why no documents were found in a file that held this
pub unlooked_in : (strictness : Strictness) (held : Snapshot Held) (sectors : ℕ) (fault : Unopened) → IsUnlookedOn strictness held sectors 0 fault → IsUnlookedIn strictness held fault
unlooked_in strictness held sectors (NoFile fault) is = is
unlooked_in strictness held sectors (NoStore fault) is = (sectors, is)
