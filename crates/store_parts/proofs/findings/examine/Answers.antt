use Rattle.std.proofs.Common.{List, ℕ, inl, inr, subst}
use Rattle.sector_device.specs.Disk.{Image}
use Rattle.store_parts.specs.Copies.{AreTold, IsSeqOf}
use Rattle.store_parts.specs.Parts.{AreSlotsOf, HaveTails}
use Rattle.store_parts.proofs.Tails.{tails_on}
use Rattle.store_parts.proofs.findings.examine.Goals as goal

pub returns-then-begins_any-clause-tails : goal.returns-then-begins_any-clause-tails
returns-then-begins_any-clause-tails g c = λ h.
    let seen = (g.D.SectorDevice.disk c.args.device.now).seen in
    let slots = c.in_ok-slots.slots.items in
    let parts = c.in_ok-found-2.found.parts.items in
    let are = subst (λ (image : Image). AreSlotsOf image slots) (c.sector_or_zeros-first.ensures.unwritten (c.read_slots.ensures.same.honest h)).seen (c.in_ok-slots.ensures.slots h) in
    tails_on seen slots are parts (subst (λ (l : List (List ℕ)). HaveTails l parts) c.deref-then-begins_any.ensures.value c.in_ok-found-2.ensures.tails)

pub returns-then-is_some-clause-tails : goal.returns-then-is_some-clause-tails
returns-then-is_some-clause-tails g c = λ h. c.in_ok-found.ensures.tails (g.D.SectorDevice.disk c.args.device.now).seen

pub returns-clause-tails : goal.returns-clause-tails
returns-clause-tails g c = λ h. c.in_ok-found-3.ensures.tails (g.D.SectorDevice.disk c.args.device.now).seen

pub returns-then-begins_any-clause-copies : goal.returns-then-begins_any-clause-copies
returns-then-begins_any-clause-copies g c = λ h.
    let slots = c.in_ok-slots.slots.items in
    let found = c.in_ok-found-2.found in
    let value = c.deref-then-begins_any.ensures.value in
    let e = c.in_ok-found-2.ensures in
    let are = subst (λ (image : Image). AreSlotsOf image slots) (c.sector_or_zeros-first.ensures.unwritten (c.read_slots.ensures.same.honest h)).seen (c.in_ok-slots.ensures.slots h) in
    inr (e.format, slots, are, subst (λ (l : List (List ℕ)). AreTold found.size l found.copies.items) value e.copies, subst (λ (l : List (List ℕ)). IsSeqOf found.size l found.seq) value e.seq)

pub returns-then-is_some-clause-copies : goal.returns-then-is_some-clause-copies
returns-then-is_some-clause-copies g c = λ h. inl c.in_ok-found.ensures.format

pub returns-clause-copies : goal.returns-clause-copies
returns-clause-copies g c = λ h. inl c.in_ok-found-3.ensures.format
