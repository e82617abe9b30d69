use Rattle.std.proofs.Common.{◌<◌, ◌≡◌, true, Some, refl, sym, ap, subst, arith}
use Rattle.commit_slots.specs.declared.slot.Slot.{Slot}
use Rattle.slot_commits.specs.Loads.{number_end}
use Rattle.store_journal.specs.Carries.{appended, half_of, state_of}
use Rattle.store_journal.specs.Held.{IsFormed, IsOf, SparesOther, is_settled, numbers_of}
use Rattle.store_journal.specs.declared.held.Held.{Held}
use Rattle.store_journal.proofs.Halves.{half_spares, half_tried}
use Rattle.store_journal.proofs.Slots.{append_tried, if_settled, next_settled, slots_spares}
use Rattle.store_journal.proofs.committing.append.Goals as goal

pub returns-in-InHalf-clause-tried : goal.returns-in-InHalf-clause-tried
returns-in-InHalf-clause-tried g c = λ state honest is.
    let old = g.D.SectorDevice.disk c.args.device.now in
    let known = c.in-InHalf.known in
    let now = subst (λ (h : Held). IsOf old h state) c.in-InHalf.is is in
    let formed = subst (IsFormed old.sectors) c.in-InHalf.is c.requires.formed in
    half_tried old (g.D.SectorDevice.disk c.commit.new.device) known c.commit.new.known state (appended state c.args.bytes.now c.args.adds) _ c.commit.result formed.size now.knows now.plain now.plain now.identity_is now.identity_is
    (c.commit.ensures.tried (half_of state) honest now.knows now.carried tt) refl (c.commit.ensures.knows (half_of state) now.knows) c.commit.ensures.stays

pub returns-in-InHalf-clause-others : goal.returns-in-InHalf-clause-others
returns-in-InHalf-clause-others g c = λ honest.
    let old = g.D.SectorDevice.disk c.args.device.now in
    let new = g.D.SectorDevice.disk c.commit.new.device in
    subst (λ (h : Held). SparesOther h old.seen new.seen) (sym c.in-InHalf.is)
    (half_spares c.in-InHalf.known old.seen new.seen old.sectors (subst (IsFormed old.sectors) c.in-InHalf.is c.requires.formed) (c.commit.ensures.others honest tt))

pub returns-in-InHalf-clause-zeros : goal.returns-in-InHalf-clause-zeros
returns-in-InHalf-clause-zeros g c = λ state honest is plain.
    let old = g.D.SectorDevice.disk c.args.device.now in
    let now = subst (λ (h : Held). IsOf old h state) c.in-InHalf.is is in
    (c.commit.ensures.tried (half_of state) honest now.knows now.carried tt).zeros

pub returns-in-InSlots-clause-tried : goal.returns-in-InSlots-clause-tried
returns-in-InSlots-clause-tried g c = λ state honest is.
    let old = g.D.SectorDevice.disk c.args.device.now in
    let new = g.D.SectorDevice.disk c.append.new.device in
    let known = c.in-InSlots.known in
    let same = c.append.ensures.same in
    let new_honest = same.honest.0 honest in
    let settled : is_settled c.in-InSlots.awaits ≡ true = subst (λ (h : Held). (numbers_of h).settled ≡ true) c.in-InSlots.is c.requires.settled in
    let left = subst (λ (h : Held). (numbers_of h).next < number_end) c.in-InSlots.is c.requires.number in
    let formed = subst (IsFormed old.sectors) c.in-InSlots.is c.requires.formed in
    if_settled c.in-InSlots.awaits settled (subst (λ (h : Held). IsOf old h state) c.in-InSlots.is is)
    (λ now.
    append_tried known c.append.new.known state c.args.bytes.now c.args.adds known.slot.opens state.opens (appended state c.args.bytes.now c.args.adds) now.knows (ap (λ (s : Slot). s.opens) now.knows.slot_is) refl old new c.append.new.known.slot.check
    (g.met.D.SectorDevice.torn_coherent c.args.device.now honest) (g.met.D.SectorDevice.coherent c.append.new.device new_honest) (g.met.D.SectorDevice.torn_coherent c.append.new.device new_honest) same.size formed.formed
    (omega (arith, left, next_settled c.in-InSlots.awaits known.slot settled)) now
    (λ torn told. c.append.ensures.put (Some torn) (state_of state known.slot.blocks) told.noticed honest now.knows (λ image stays. now.stands image (torn, told, stays)))
    (λ torn. c.append.ensures.sector_0 (Some torn) honest) c.append.ensures.slot c.append.ensures.slot_stays (c.append.ensures.knows (state_of state known.slot.blocks) now.knows) (c.append.ensures.knows_still (state_of state known.slot.blocks) now.knows))

pub returns-in-InSlots-clause-others : goal.returns-in-InSlots-clause-others
returns-in-InSlots-clause-others g c = λ honest.
    let old = g.D.SectorDevice.disk c.args.device.now in
    let new = g.D.SectorDevice.disk c.append.new.device in
    subst (λ (h : Held). SparesOther h old.seen new.seen) (sym c.in-InSlots.is) (slots_spares c.in-InSlots.known c.in-InSlots.awaits old.seen new.seen (c.append.ensures.others honest))
