-- The work of a program for a call, by what it kept.
use Rattle.std.specs.Prelude.{◌≡◌, ℕ, List, [], Bool, Option, Result, Ok, Err, IfOk, MatchResult, false, true, nat_eq}
use Rattle.std.specs.declared.snapshot.Snapshot.{Snapshot}
use Rattle.command_line.specs.Call.{Asked, format, fresh, serve, check, repair, copy, upgrade, mem, deep, salvage, dump}
use Rattle.store_journal.specs.Layout.{capacity_of}
use Rattle.doc_store.specs.declared.opening.Strictness.{Strictness}
use Rattle.doc_store.specs.declared.opening.Strictness.TheVariants.{AnyState}
use Rattle.sector_device.specs.declared.history.Held.{Held}
use Rattle.refusals.specs.declared.numbers.TheConstants.{DEVICE}
use Rattle.protocol.specs.Reply.{line_of}
use Rattle.file_programs.specs.Calls.{format_reply, IsShown, IsUpgrading}
use Rattle.file_programs.specs.Copies.{IsCopiedFile, ShowsCopy, format_copied}
use Rattle.file_programs.specs.Faults.{told_of_file, told_of_unopened}
use Rattle.file_programs.specs.Files.{IsClosedIn, IsFormattedFile, IsOpenedIn, IsNoticedIn, IsUnopenedBy, WentToTheEnd, fault_of}
use Rattle.jpstore.specs.Files.{IsServedIn}
use Rattle.jpstore.specs.Kept.{IsKeptIn}
use Rattle.jpstore.specs.Memory.{IsServedInMemory}
use Rattle.file_programs.specs.Notices.{note_of, strictness_of}
use Rattle.file_programs.specs.Reads.{IsDumpedIn, IsExaminedIn, IsSalvagedIn, IsUnlookedIn, end_of_left, end_of_shown, end_of_told}
use Rattle.file_programs.specs.Shown.{Shows}
use Rattle.file_programs.specs.declared.fault.Fault.{Fault}
use Rattle.jpstore.specs.declared.kept.Kept.{Kept}
use Rattle.jpstore.specs.declared.kept.Kept.TheVariants.{Formatted, Served, Checked, Repaired, Copied, Upgraded, InMemory, Examined, Salvaged, Dumped}
use Rattle.file_programs.specs.declared.opening.Closed.{Closed}
use Rattle.file_programs.specs.declared.opening.Unopened.{Unopened}

-- how a program ended that made something, or opened a store
abbrev pub end_of_made : {T : Type 0} → Result T Fault → Result (Unit {0}) Fault
end_of_made (Ok made) = Ok tt
end_of_made (Err fault) = Err fault

abbrev pub end_of_opened : Result Closed Unopened → Result (Unit {0}) Fault
end_of_opened (Ok closed) = closed.ended
end_of_opened (Err unopened) = Err (told_of_unopened unopened)

-- how a program ended that kept this
abbrev pub end_of : Kept → Result (Unit {0}) Fault
end_of (Formatted made) = end_of_made made
end_of (Served served) = end_of_opened served
end_of (Checked checked) = end_of_opened checked
end_of (Repaired repaired) = end_of_opened repaired
end_of (Copied (Ok ended)) = end_of_made ended.copied
end_of (Copied (Err unopened)) = Err (told_of_unopened unopened)
end_of (Upgraded upgraded) = end_of_opened upgraded
end_of (InMemory (Ok closed)) = closed.ended
end_of (InMemory (Err fault)) = Err fault
end_of (Examined (Ok examined)) = end_of_told examined.told
end_of (Examined (Err unopened)) = Err (told_of_unopened unopened)
end_of (Salvaged (Ok salvaged)) = end_of_left salvaged.left
end_of (Salvaged (Err fault)) = Err (told_of_file fault)
end_of (Dumped (Ok dumped)) = end_of_shown dumped.shown
end_of (Dumped (Err unopened)) = Err (told_of_unopened unopened)

-- what it said of the slots when it had opened the store, and whether that could be written
abbrev pub note_in : Kept → List ℕ
note_in (Served (Ok closed)) = note_of closed.notice
note_in (Copied (Ok ended)) = note_of ended.notice
note_in (Upgraded (Ok closed)) = note_of closed.notice
note_in (Dumped (Ok dumped)) = note_of dumped.looked.notice
note_in kept = []

abbrev pub is_noted : Kept → Bool
is_noted (Served (Ok closed)) = closed.noted
is_noted (Copied (Ok ended)) = ended.noted
is_noted (Upgraded (Ok closed)) = closed.noted
is_noted (Dumped (Ok dumped)) = dumped.noted
is_noted kept = true

-- The store in a file that held this was served. If all that there was to read was served, it was served so; the end says whether the device failed; and
-- however it ended, the store went by one run from what was opened.
pub record IsServing (held : Snapshot Held) (batch pump limit : ℕ) (strict : Bool) (closed : Closed) (left left_new before after : Option (List ℕ)) : Type 0 where
  pub served : WentToTheEnd closed.ended → IsServedIn held batch pump limit left left_new before after closed.store
  pub works : closed.ended ≡ Ok tt → closed.store.account.broken ≡ false
  pub broke : closed.ended ≡ Err (fault_of DEVICE) → closed.store.account.broken ≡ true
  pub closed_in : IsClosedIn held closed.store
  pub kept : IsKeptIn held limit closed.ended left left_new before after closed.store
  pub noticed : IsNoticedIn (strictness_of strict) held closed.store closed.notice

-- no store was opened in a file that held this, and nothing was written
abbrev pub IsRefused : Strictness → Snapshot Held → Unopened → Option (List ℕ) → Option (List ℕ) → Type 0
IsRefused strictness held unopened before after = IsUnopenedBy strictness held unopened × (after ≡ before)

-- What a program did that was asked for this, to a file that held that, if it kept this: from what there was to read to what is left of it, and from what
-- was written before to what was written then.
abbrev pub Does : Snapshot Held → Asked → Kept → Option (List ℕ) → Option (List ℕ) → Option (List ℕ) → Option (List ℕ) → Type 0
Does held (format file sectors version mode sparse identity) (Formatted made) left left_new before after =
    IfOk made (IsFormattedFile sectors version identity) × Shows made (line_of (format_reply (capacity_of (nat_eq version 3) sectors) sectors)) before after × (left_new ≡ left)
Does held (fresh file sectors identity) (Formatted made) left left_new before after =
    IfOk made (IsFormattedFile sectors 3 identity) × Shows made (line_of (format_reply (capacity_of true sectors) sectors)) before after × (left_new ≡ left)
Does held (serve file batch pump limit strict) (Served served) left left_new before after =
    MatchResult served (λ closed. IsServing held batch pump limit strict closed left left_new before after) (λ unopened. IsRefused (strictness_of strict) held unopened before after × (left_new ≡ left))
Does held (check file strict) (Checked checked) left left_new before after =
    MatchResult checked (λ closed. IsShown (strictness_of strict) held closed before after) (λ unopened. IsRefused (strictness_of strict) held unopened before after) × (left_new ≡ left)
Does held (repair file) (Repaired repaired) left left_new before after =
    MatchResult repaired (λ closed. IsShown AnyState held closed before after) (λ unopened. IsRefused AnyState held unopened before after) × (left_new ≡ left)
Does held (copy file new sectors version identity strict) (Copied copied) left left_new before after =
    MatchResult copied
    (λ ended. IsOpenedIn held ended.store × IsNoticedIn (strictness_of strict) held ended.store ended.notice × IfOk ended.copied (IsCopiedFile sectors (format_copied version ended.store.account) identity ended.store.account)
    × ShowsCopy sectors (format_copied version ended.store.account) identity ended.store.account ended.copied before after)
    (λ unopened. IsRefused (strictness_of strict) held unopened before after)
    × (left_new ≡ left)
Does held (upgrade file version identity strict) (Upgraded upgraded) left left_new before after =
    MatchResult upgraded (λ closed. IsUpgrading held version identity closed before after × IsNoticedIn (strictness_of strict) held closed.store closed.notice)
    (λ unopened. IsRefused (strictness_of strict) held unopened before after)
    × (left_new ≡ left)
Does held (mem sectors version limit) (InMemory memory) left left_new before after =
    MatchResult memory (λ closed. closed.ended ≡ Ok tt → IsServedInMemory sectors version limit left left_new before after closed.store) (λ fault. (left_new ≡ left) × (after ≡ before))
Does held (deep file) (Examined examined) left left_new before after =
    MatchResult examined (λ e. IsExaminedIn held e before after) (λ unopened. IsUnlookedIn AnyState held unopened × (after ≡ before)) × (left_new ≡ left)
Does held (salvage file frames) (Salvaged salvaged) left left_new before after =
    MatchResult salvaged (λ s. IsSalvagedIn held frames s before after) (λ fault. after ≡ before) × (left_new ≡ left)
Does held (dump file strict) (Dumped dumped) left left_new before after =
    MatchResult dumped (λ d. IsDumpedIn (strictness_of strict) held d before after) (λ unopened. IsUnlookedIn (strictness_of strict) held unopened × (after ≡ before)) × (left_new ≡ left)
Does held asked kept left left_new before after = ⊥
