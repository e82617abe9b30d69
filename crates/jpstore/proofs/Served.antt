-- From what `serve FILE` ensures to what was done.
use Rattle.std.proofs.Common.{◌≡◌, ℕ, Bool, List, Option, Result, Ok, Err, IfOk, IfErr, OnErr, MatchResult, true, false}
use Rattle.std.specs.declared.snapshot.Snapshot.{Snapshot}
use Rattle.sector_device.specs.declared.history.Held.{Held}
use Rattle.refusals.specs.declared.numbers.TheConstants.{DEVICE}
use Rattle.jpstore.specs.Calls.{IsRefused, IsServing}
use Rattle.file_programs.specs.Calls.{IsUpgrading}
use Rattle.file_programs.specs.Copies.{IsCopiedFile, ShowsCopy, format_copied}
use Rattle.file_programs.specs.Files.{IsClosedIn, IsNoticedIn, IsOpenedIn, IsUnopenedBy, WentToTheEnd, fault_of}
use Rattle.file_programs.specs.Reads.{IsDumpedIn, IsUnlookedIn}
use Rattle.file_programs.specs.declared.programs.copy.Ended.{Ended}
use Rattle.file_programs.specs.declared.programs.dump.Dumped.{Dumped}
use Rattle.jpstore.specs.Files.{IsServedIn}
use Rattle.jpstore.specs.Kept.{IsKeptIn}
use Rattle.jpstore.specs.Memory.{IsServedInMemory}
use Rattle.file_programs.specs.Notices.{strictness_of}
use Rattle.file_programs.specs.declared.fault.Fault.{Fault}
use Rattle.file_programs.specs.declared.opening.Closed.{Closed}
use Rattle.file_programs.specs.declared.opening.Unopened.{Unopened}
use Rattle.jpstore.specs.declared.programs.mem.ClosedInMemory.{ClosedInMemory}

pub serving : (held : Snapshot Held) (batch pump limit : ℕ) (strict : Bool) (r : Result Closed Unopened) (left left_new before after : Option (List ℕ))
    → IfOk r (λ closed. WentToTheEnd closed.ended → IsServedIn held batch pump limit left left_new before after closed.store)
    → IfOk r (λ closed. closed.ended ≡ Ok tt → closed.store.account.broken ≡ false)
    → IfOk r (λ closed. closed.ended ≡ Err (fault_of DEVICE) → closed.store.account.broken ≡ true)
    → IfOk r (λ closed. IsClosedIn held closed.store) → IfOk r (λ closed. IsKeptIn held limit closed.ended left left_new before after closed.store) → IfOk r (λ closed. IsNoticedIn (strictness_of strict) held closed.store closed.notice) → IfErr r (IsUnopenedBy (strictness_of strict) held) → OnErr r (left_new ≡ left) → OnErr r (after ≡ before)
    → MatchResult r (λ closed. IsServing held batch pump limit strict closed left left_new before after) (λ unopened. IsRefused (strictness_of strict) held unopened before after × (left_new ≡ left))
serving held batch pump limit strict (Ok closed) left left_new before after served works broke closed_in kept noticed refused unread unwritten =
    record { served = served; works = works; broke = broke; closed_in = closed_in; kept = kept; noticed = noticed }
serving held batch pump limit strict (Err unopened) left left_new before after served works broke closed_in kept noticed refused unread unwritten = ((refused, unwritten), unread)

-- the same of what `copy FILE` ensures
pub copied : (held : Snapshot Held) (sectors : ℕ) (version identity : Option ℕ) (strict : Bool) (r : Result Ended Unopened) (before after : Option (List ℕ))
    → IfOk r (λ ended. IsOpenedIn held ended.store) → IfOk r (λ ended. IsNoticedIn (strictness_of strict) held ended.store ended.notice)
    → IfOk r (λ ended. IfOk ended.copied (IsCopiedFile sectors (format_copied version ended.store.account) identity ended.store.account))
    → IfOk r (λ ended. ShowsCopy sectors (format_copied version ended.store.account) identity ended.store.account ended.copied before after)
    → IfErr r (IsUnopenedBy (strictness_of strict) held) → OnErr r (after ≡ before)
    → MatchResult r
    (λ ended. IsOpenedIn held ended.store × IsNoticedIn (strictness_of strict) held ended.store ended.notice × IfOk ended.copied (IsCopiedFile sectors (format_copied version ended.store.account) identity ended.store.account)
    × ShowsCopy sectors (format_copied version ended.store.account) identity ended.store.account ended.copied before after)
    (λ unopened. IsRefused (strictness_of strict) held unopened before after)
copied held sectors version identity strict (Ok ended) before after opened noticed made shown refused unwritten = (opened, noticed, made, shown)
copied held sectors version identity strict (Err unopened) before after opened noticed made shown refused unwritten = (refused, unwritten)

-- the same of what `upgrade FILE` ensures
pub upgraded : (held : Snapshot Held) (version : ℕ) (identity : Option ℕ) (strict : Bool) (r : Result Closed Unopened) (before after : Option (List ℕ))
    → IfOk r (λ closed. IsUpgrading held version identity closed before after) → IfOk r (λ closed. IsNoticedIn (strictness_of strict) held closed.store closed.notice)
    → IfErr r (IsUnopenedBy (strictness_of strict) held) → OnErr r (after ≡ before)
    → MatchResult r (λ closed. IsUpgrading held version identity closed before after × IsNoticedIn (strictness_of strict) held closed.store closed.notice)
    (λ unopened. IsRefused (strictness_of strict) held unopened before after)
upgraded held version identity strict (Ok closed) before after went noticed refused unwritten = (went, noticed)
upgraded held version identity strict (Err unopened) before after went noticed refused unwritten = (refused, unwritten)

-- the same of what `dump FILE` ensures
pub dumped : (held : Snapshot Held) (strict : Bool) (r : Result Dumped Unopened) (before after : Option (List ℕ))
    → IfOk r (λ d. IsDumpedIn (strictness_of strict) held d before after) → IfErr r (IsUnlookedIn (strictness_of strict) held) → OnErr r (after ≡ before)
    → MatchResult r (λ d. IsDumpedIn (strictness_of strict) held d before after) (λ unopened. IsUnlookedIn (strictness_of strict) held unopened × (after ≡ before))
dumped held strict (Ok d) before after shown refused unwritten = shown
dumped held strict (Err unopened) before after shown refused unwritten = (refused, unwritten)

-- the same of what `mem` ensures
pub in_memory : (sectors version limit : ℕ) (r : Result ClosedInMemory Fault) (left left_new before after : Option (List ℕ))
    → IfOk r (λ closed. closed.ended ≡ Ok tt → IsServedInMemory sectors version limit left left_new before after closed.store) → OnErr r (left_new ≡ left) → OnErr r (after ≡ before)
    → MatchResult r (λ closed. closed.ended ≡ Ok tt → IsServedInMemory sectors version limit left left_new before after closed.store) (λ fault. (left_new ≡ left) × (after ≡ before))
in_memory sectors version limit (Ok closed) left left_new before after served unread unwritten = served
in_memory sectors version limit (Err fault) left left_new before after served unread unwritten = (unread, unwritten)

-- what follows where it is an `Err`
pub on_err : {T E P Q : Type 0} (r : Result T E) → (P → Q) → OnErr r P → OnErr r Q
on_err (Ok value) f h = tt
on_err (Err fault) f h = f h
