use Rattle.std.proofs.Common.{◌≡◌, ◌+◌, ◌-◌, ◌/◌, ◌<◌, [], ◌++◌, true, Some, length, take, refl, sym, subst, ap, arith}
use Rattle.std.proofs.lemmas.List.{append-nil}
use Rattle.std.proofs.lemmas.Result.{on_ok_weaker, on_err_weaker}
use Rattle.commit_slots.specs.declared.slot.Slot.{Slot}
use Rattle.half_journal.specs.declared.commit_sector.Commit.{Commit}
use Rattle.slot_commits.specs.Loads.{number_end}
use Rattle.slot_journal.specs.Known.{Knows as SlotKnows}
use Rattle.slot_journal.specs.declared.known.Known.{Known}
use Rattle.store_journal.specs.Carries.{half_of, replaced, state_of}
use Rattle.store_journal.specs.Held.{IsFormed, IsOf, SparesOther, is_settled, numbers_of, other_bytes}
use Rattle.store_journal.specs.declared.held.Held.{Held}
use Rattle.store_journal.proofs.Halves.{half_copied, half_spares, half_tried, knows_by}
use Rattle.store_journal.proofs.Renewals.{always_err}
use Rattle.store_journal.proofs.Slots.{if_settled, next_settled, slots_spares, slots_tried, switch_holds}
use Rattle.store_journal.proofs.committing.switch.Goals as goal

pub returns-in-InHalf-clause-tried : goal.returns-in-InHalf-clause-tried
returns-in-InHalf-clause-tried g c = λ state n honest is copied.
    let old = g.D.SectorDevice.disk c.args.device.now in
    let known = c.in-InHalf.known in
    let target = c.args.target.now in
    let now = subst (λ (h : Held). IsOf old h state) c.in-InHalf.is is in
    let formed = subst (IsFormed old.sectors) c.in-InHalf.is c.requires.formed in
    let there = subst (λ (h : Held). take (length target) (other_bytes old.seen h n) ≡ target) c.in-InHalf.is copied in
    let version : known.commit.format ≡ state.version = ap (λ (m : Commit). m.format) now.knows.commit_is in
    let next_is : half_of (replaced state target c.args.adds) ≡ record { version = known.commit.format; half = 1 - state.half; bytes = target ++ []; seq = state.seq + c.args.adds; opens = state.opens } =
    λ i. record { version = sym version i; half = 1 - state.half; bytes = sym (append-nil target) i; seq = state.seq + c.args.adds; opens = state.opens } in
    half_tried old (g.D.SectorDevice.disk c.commit.new.device) known c.commit.new.known state (replaced state target c.args.adds) _ c.commit.result formed.size now.knows now.plain now.plain now.identity_is now.identity_is
    (c.commit.ensures.tried (half_of state) honest now.knows now.carried (half_copied old.seen known state n target now.knows there)) next_is (knows_by c.commit.new.known c.commit.result next_is (c.commit.ensures.knows (half_of state) now.knows)) c.commit.ensures.stays

pub returns-in-InHalf-clause-others : goal.returns-in-InHalf-clause-others
returns-in-InHalf-clause-others g c = λ honest.
    let old = g.D.SectorDevice.disk c.args.device.now in
    let new = g.D.SectorDevice.disk c.commit.new.device in
    always_err c.commit.result (subst (λ (h : Held). SparesOther h old.seen new.seen) (sym c.in-InHalf.is)
    (half_spares c.in-InHalf.known old.seen new.seen old.sectors (subst (IsFormed old.sectors) c.in-InHalf.is c.requires.formed) (c.commit.ensures.others honest refl)))

pub returns-in-InSlots-clause-tried : goal.returns-in-InSlots-clause-tried
returns-in-InSlots-clause-tried g c = λ state n honest is copied.
    let old = g.D.SectorDevice.disk c.args.device.now in
    let new = g.D.SectorDevice.disk c.switch.new.device in
    let known = c.in-InSlots.known in
    let target = c.args.target.now in
    let same = c.switch.ensures.same in
    let new_honest = same.honest.0 honest in
    let settled : is_settled c.in-InSlots.awaits ≡ true = subst (λ (h : Held). (numbers_of h).settled ≡ true) c.in-InSlots.is c.requires.settled in
    let left = subst (λ (h : Held). (numbers_of h).next < number_end) c.in-InSlots.is c.requires.number in
    let formed = subst (IsFormed old.sectors) c.in-InSlots.is c.requires.formed in
    let there = subst (λ (h : Held). take (length target) (other_bytes old.seen h n) ≡ target) c.in-InSlots.is copied in
    if_settled c.in-InSlots.awaits settled (subst (λ (h : Held). IsOf old h state) c.in-InSlots.is is)
    (λ now.
    let whole = switch_holds old known c.in-InSlots.awaits state n target c.args.adds (g.met.D.SectorDevice.coherent c.args.device.now honest) formed.formed.size now.knows there in
    slots_tried old new known c.switch.new.known state (replaced state target c.args.adds) (length target / 4096) c.switch.result
    (g.met.D.SectorDevice.torn_coherent c.args.device.now honest) (g.met.D.SectorDevice.coherent c.switch.new.device new_honest) (g.met.D.SectorDevice.torn_coherent c.switch.new.device new_honest) same.size formed.formed
    (omega (arith, left, next_settled c.in-InSlots.awaits known.slot settled)) now now.rides_is now.version_is
    (λ torn told. c.switch.ensures.put (Some torn) (state_of state known.slot.blocks) told.noticed honest now.knows (λ image stays. now.stands image (torn, told, stays)) whole)
    (λ torn. c.switch.ensures.sector_0 (Some torn) honest)
    (on_ok_weaker c.switch.result (λ slot_is. ap (λ (s : Slot). s.number) slot_is) c.switch.ensures.slot) (on_ok_weaker c.switch.result (λ slot_is. ap (λ (s : Slot). s.blocks) slot_is) c.switch.ensures.slot)
    (c.switch.ensures.knows (state_of state known.slot.blocks) now.knows) (on_err_weaker c.switch.result (λ kept. ap (λ (k : Known). k.slot) kept) c.switch.ensures.slot_stays)
    (on_err_weaker c.switch.result (λ kept. subst (λ (k : Known). SlotKnows k (state_of state known.slot.blocks)) (sym kept) now.knows) c.switch.ensures.slot_stays))

pub returns-in-InSlots-clause-others : goal.returns-in-InSlots-clause-others
returns-in-InSlots-clause-others g c = λ honest.
    let old = g.D.SectorDevice.disk c.args.device.now in
    let new = g.D.SectorDevice.disk c.switch.new.device in
    always_err c.switch.result (subst (λ (h : Held). SparesOther h old.seen new.seen) (sym c.in-InSlots.is)
    (slots_spares c.in-InSlots.known c.in-InSlots.awaits old.seen new.seen (λ k other. c.switch.ensures.others honest k (omega (arith, other.from)))))
