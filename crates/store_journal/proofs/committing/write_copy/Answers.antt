use Rattle.std.proofs.Common.{◌≡◌, true, Some, sym, subst}
use Rattle.store_journal.specs.Carries.{half_of, state_of}
use Rattle.store_journal.specs.Held.{IsFormed, IsOf, is_settled, numbers_of}
use Rattle.store_journal.specs.declared.held.Held.{Held}
use Rattle.store_journal.proofs.Halves.{half_copy}
use Rattle.store_journal.proofs.Slots.{in_slots, none_settled, slots_copy, still_slots}
use Rattle.store_journal.proofs.committing.write_copy.Goals as goal

pub returns-in-InHalf-clause-carries : goal.returns-in-InHalf-clause-carries
returns-in-InHalf-clause-carries g c = λ state honest is.
    let old = g.D.SectorDevice.disk c.args.device.now in
    let now = subst (λ (h : Held). IsOf old h state) c.in-InHalf.is is in
    (half_copy old (g.D.SectorDevice.disk c.write_copy.new.device) c.in-InHalf.known state (g.met.D.SectorDevice.coherent c.write_copy.new.device (c.write_copy.ensures.same.honest.0 honest)) now (c.write_copy.ensures.carries (half_of state) honest now.knows now.carried)).0

pub returns-in-InHalf-clause-still : goal.returns-in-InHalf-clause-still
returns-in-InHalf-clause-still g c = λ state honest is.
    let old = g.D.SectorDevice.disk c.args.device.now in
    let new = g.D.SectorDevice.disk c.write_copy.new.device in
    let now = subst (λ (h : Held). IsOf old h state) c.in-InHalf.is is in
    subst (λ (h : Held). IsOf new h state) (sym c.in-InHalf.is)
    (half_copy old new c.in-InHalf.known state (g.met.D.SectorDevice.coherent c.write_copy.new.device (c.write_copy.ensures.same.honest.0 honest)) now (c.write_copy.ensures.carries (half_of state) honest now.knows now.carried)).1

pub returns-in-InSlots-clause-carries : goal.returns-in-InSlots-clause-carries
returns-in-InSlots-clause-carries g c = λ state honest is.
    let old = g.D.SectorDevice.disk c.args.device.now in
    let known = c.in-InSlots.known in
    let same = c.write_copy-in-InSlots.ensures.same in
    let settled : is_settled c.in-InSlots.awaits ≡ true = subst (λ (h : Held). (numbers_of h).settled ≡ true) c.in-InSlots.is c.requires.settled in
    let formed = subst (IsFormed old.sectors) c.in-InSlots.is c.requires.formed in
    let now = in_slots c.in-InSlots.awaits settled (subst (λ (h : Held). IsOf old h state) c.in-InSlots.is is) in
    (slots_copy old (g.D.SectorDevice.disk c.write_copy-in-InSlots.new.device) known state (g.met.D.SectorDevice.torn_coherent c.args.device.now honest) (g.met.D.SectorDevice.torn_coherent c.write_copy-in-InSlots.new.device (same.honest.0 honest)) same.size formed.formed (formed.number_fits (none_settled c.in-InSlots.awaits settled)) now
    (λ torn told. c.write_copy-in-InSlots.ensures.stands (Some torn) (state_of state known.slot.blocks) honest now.knows (λ image left. now.stands image (torn, told, left))) (λ torn. c.write_copy-in-InSlots.ensures.sector_0 (Some torn) honest)).0

pub returns-in-InSlots-clause-still : goal.returns-in-InSlots-clause-still
returns-in-InSlots-clause-still g c = λ state honest is.
    let old = g.D.SectorDevice.disk c.args.device.now in
    let new = g.D.SectorDevice.disk c.write_copy-in-InSlots.new.device in
    let known = c.in-InSlots.known in
    let same = c.write_copy-in-InSlots.ensures.same in
    let settled : is_settled c.in-InSlots.awaits ≡ true = subst (λ (h : Held). (numbers_of h).settled ≡ true) c.in-InSlots.is c.requires.settled in
    let formed = subst (IsFormed old.sectors) c.in-InSlots.is c.requires.formed in
    let now = in_slots c.in-InSlots.awaits settled (subst (λ (h : Held). IsOf old h state) c.in-InSlots.is is) in
    subst (λ (h : Held). IsOf new h state) (sym c.in-InSlots.is) (still_slots c.in-InSlots.awaits settled
    (slots_copy old new known state (g.met.D.SectorDevice.torn_coherent c.args.device.now honest) (g.met.D.SectorDevice.torn_coherent c.write_copy-in-InSlots.new.device (same.honest.0 honest)) same.size formed.formed (formed.number_fits (none_settled c.in-InSlots.awaits settled)) now
    (λ torn told. c.write_copy-in-InSlots.ensures.stands (Some torn) (state_of state known.slot.blocks) honest now.knows (λ image left. now.stands image (torn, told, left))) (λ torn. c.write_copy-in-InSlots.ensures.sector_0 (Some torn) honest)).1)
