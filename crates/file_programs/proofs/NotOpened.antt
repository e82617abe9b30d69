-- A file in which no store was opened.
use Rattle.std.proofs.Common.{◌≡◌, inl, inr, ⊎_elim, ℕ, Result, Ok, Err, IfErr, subst, arith}
use Rattle.std.specs.declared.snapshot.Snapshot.{Snapshot}
use Rattle.sector_device.specs.Disk.{Disk, Image}
use Rattle.sector_device.specs.declared.history.Held.{Held}
use Rattle.store_journal.specs.Outdated.{IsNotNewest}
use Rattle.doc_store.specs.Strict.{IsRefusedBy}
use Rattle.doc_store.proofs.Strict.{refused_by}
use Rattle.refusals.specs.declared.numbers.TheConstants.{NO_ROOM}
use Rattle.file_programs.specs.Files.{IsRefusedIn, IsRefusedNow, IsUnopenedBy, IsUnopenedOn}
use Rattle.doc_store.specs.declared.opening.Strictness.{Strictness}
use Rattle.file_programs.specs.declared.opening.Unopened.{Unopened}
use Rattle.file_programs.specs.declared.opening.Unopened.TheVariants.{NoFile, NoStore}

unopened : (strictness : Strictness) (held : Snapshot Held) (sectors failures : ℕ) (u : Unopened) → failures ≡ 0 → IsUnopenedOn strictness held sectors failures u → IsUnopenedBy strictness held u
unopened strictness held sectors failures (NoFile fault) zero h = tt
unopened strictness held sectors failures (NoStore fault) zero h = (sectors, subst (λ (n : ℕ). IsRefusedIn strictness held sectors n fault) zero h)

-- its device, when it was opened, had no failures yet
pub unopened_in : {T : Type 0} (r : Result T Unopened) (strictness : Strictness) (held : Snapshot Held) (sectors failures : ℕ) → failures ≡ 0 → IfErr r (IsUnopenedOn strictness held sectors failures) → IfErr r (IsUnopenedBy strictness held)
unopened_in (Ok value) strictness held sectors failures zero h = tt
unopened_in (Err fault) strictness held sectors failures zero h = unopened strictness held sectors failures fault zero h

-- why one is refused whose first sector was looked at
pub refused_now : (strictness : Strictness) (old new : Disk) (number : ℕ) → IsNotNewest old new number → new.honest → IsRefusedNow strictness old.seen number
refused_now strictness old new number is honest =
    ⊎_elim (λ outdated. inr (outdated.0, outdated.1 honest))
    (λ rest. ⊎_elim (λ device. inl (refused_by strictness old.seen number (inl device.0))) (λ memory. inl (refused_by strictness old.seen number (inr (inl memory.0)))) rest) is.why

-- it isn't for want of room
pub has_room : (old new : Disk) (number : ℕ) → IsNotNewest old new number → number ≡ NO_ROOM → ⊥
has_room old new number is lacks =
    ⊎_elim (λ outdated. let same = outdated.0 in absurd (omega (arith, same, lacks)))
    (λ rest. ⊎_elim (λ device. let same = device.0 in absurd (omega (arith, same, lacks))) (λ memory. let same = memory.0 in absurd (omega (arith, same, lacks))) rest) is.why
