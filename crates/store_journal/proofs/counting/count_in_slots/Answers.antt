use Rattle.std.proofs.Common.{◌≡◌, ◌+◌, ◌<◌, ℕ, [], ◌++◌, Option, Some, sym, ap, subst, ◌∙◌, arith}
use Rattle.std.proofs.lemmas.List.{append-nil}
use Rattle.commit_slots.specs.declared.slot.Slot.{Slot}
use Rattle.half_journal.specs.States.{one_more}
use Rattle.slot_commits.specs.Loads.{number_end}
use Rattle.slot_journal.specs.declared.known.Known.{Known}
use Rattle.store_journal.specs.Carries.{counted, state_of}
use Rattle.store_journal.specs.Held.{IsOf, IsRidingFormed, Tried, next_of}
use Rattle.store_journal.specs.declared.held.Awaiting.{Awaiting}
use Rattle.store_journal.specs.declared.held.Held.TheVariants.{InSlots}
use Rattle.store_journal.proofs.Renewals.{renewal_done, renewal_failed}
use Rattle.store_journal.proofs.Slots.{append_tried, slots_spares}
use Rattle.store_journal.proofs.counting.count_in_slots.Goals as goal

pub returns-in-None-clause-tried : goal.returns-in-None-clause-tried
returns-in-None-clause-tried g c = λ state honest is.
    let old = g.D.SectorDevice.disk c.args.device.now in
    let new = g.D.SectorDevice.disk c.append.new.device in
    let known = c.args.known.now in
    let same = c.append.ensures.same in
    let new_honest = same.honest.0 honest in
    let now = subst (λ (a : Option Awaiting). IsOf old (InSlots known a) state) c.in-None.is is in
    let formed = c.requires.formed.formed in
    let left = subst (λ (a : Option Awaiting). next_of a known.slot < number_end) c.in-None.is c.requires.number in
    let seq_is : state.seq ≡ state.seq + 0 = omega arith in
    let next_is : counted state ≡ record { version = state.version; rides = state.rides; half = state.half; bytes = state.bytes ++ []; seq = state.seq + 0; opens = one_more state.opens; identity = state.identity } =
    λ i. record { version = state.version; rides = state.rides; half = state.half; bytes = sym (append-nil state.bytes) i; seq = seq_is i; opens = one_more state.opens; identity = state.identity } in
    subst (λ (a : Option Awaiting). Tried old new (InSlots c.append.new.known a) state (counted state) c.append.result) (sym c.in-None.is)
    (append_tried known c.append.new.known state [] 0 c.saturating_add-opens.result (one_more state.opens) (counted state) now.knows (c.saturating_add-opens.ensures ∙ ap (λ (s : Slot). one_more s.opens) now.knows.slot_is) next_is old new c.append.new.known.slot.check
    (g.met.D.SectorDevice.torn_coherent c.args.device.now honest) (g.met.D.SectorDevice.coherent c.append.new.device new_honest) (g.met.D.SectorDevice.torn_coherent c.append.new.device new_honest) same.size formed (omega (arith, left)) now
    (λ torn told. c.append.ensures.put (Some torn) (state_of state known.slot.blocks) told.noticed honest now.knows (λ image stays. now.stands image (torn, told, stays)))
    (λ torn. c.append.ensures.sector_0 (Some torn) honest) c.append.ensures.slot c.append.ensures.slot_stays (c.append.ensures.knows (state_of state known.slot.blocks) now.knows) (c.append.ensures.knows_still (state_of state known.slot.blocks) now.knows))

pub returns-in-None-clause-others : goal.returns-in-None-clause-others
returns-in-None-clause-others g c = λ honest settled.
    slots_spares c.args.known.now c.args.awaits.now (g.D.SectorDevice.disk c.args.device.now).seen (g.D.SectorDevice.disk c.append.new.device).seen (c.append.ensures.others honest)

pub returns-in_err-renew-in-Some-clause-tried : goal.returns-in_err-renew-in-Some-clause-tried
returns-in_err-renew-in-Some-clause-tried g c = λ state honest is.
    let old = g.D.SectorDevice.disk c.args.device.now in
    let new = g.D.SectorDevice.disk c.renew.new.device in
    let known = c.args.known.now in
    let awaiting = c.in-Some.awaiting in
    let same = c.renew.ensures.same in
    let new_honest = same.honest.0 honest in
    let now = subst (λ (a : Option Awaiting). IsOf old (InSlots known a) state) c.in-Some.is is in
    let formed = subst (IsRidingFormed old.sectors known) c.in-Some.is c.requires.formed in
    let left = subst (λ (a : Option Awaiting). next_of a known.slot < number_end) c.in-Some.is c.requires.number in
    let opens_is = c.saturating_add-opens.ensures ∙ ap (λ (s : Slot). one_more s.opens) now.knows.slot_is in
    let next_is = ap (λ (n : ℕ). record (counted state) { opens = n }) (sym opens_is) in
    subst (λ (k : Known). Tried old new (InSlots k c.args.awaits.now) state (counted state) c.from_residual.result) (sym c.in_err-renew-in-Some.ensures.slot_stays)
    (subst (λ (a : Option Awaiting). Tried old new (InSlots known a) state (counted state) c.from_residual.result) (sym c.in-Some.is)
    (renewal_failed old new known awaiting state (counted state) c.saturating_add-opens.result (g.met.D.SectorDevice.torn_coherent c.args.device.now honest) (g.met.D.SectorDevice.coherent c.args.device.now honest)
    (g.met.D.SectorDevice.coherent c.renew.new.device new_honest) (g.met.D.SectorDevice.torn_coherent c.renew.new.device new_honest) same.size formed left now next_is c.renew.result
    (λ torn told. c.renew.ensures.renewed (Some torn) (state_of state known.slot.blocks) told.noticed honest now.knows (λ image stays. now.alone image (torn, told, stays)) now.awaits)
    (λ torn. c.renew.ensures.sector_0 (Some torn) honest) c.from_residual.result c.from_residual.ensures.0))

pub returns-in_ok-renew-in-Some-clause-tried : goal.returns-in_ok-renew-in-Some-clause-tried
returns-in_ok-renew-in-Some-clause-tried g c = λ state honest is.
    let old = g.D.SectorDevice.disk c.args.device.now in
    let new = g.D.SectorDevice.disk c.renew.new.device in
    let known = c.args.known.now in
    let awaiting = c.in-Some.awaiting in
    let same = c.renew.ensures.same in
    let new_honest = same.honest.0 honest in
    let now = subst (λ (a : Option Awaiting). IsOf old (InSlots known a) state) c.in-Some.is is in
    let formed = subst (IsRidingFormed old.sectors known) c.in-Some.is c.requires.formed in
    let left = subst (λ (a : Option Awaiting). next_of a known.slot < number_end) c.in-Some.is c.requires.number in
    let opens_is = c.saturating_add-opens.ensures ∙ ap (λ (s : Slot). one_more s.opens) now.knows.slot_is in
    let next_is = ap (λ (n : ℕ). record (counted state) { opens = n }) (sym opens_is) in
    renewal_done old new known awaiting state (counted state) c.saturating_add-opens.result (g.met.D.SectorDevice.torn_coherent c.args.device.now honest) (g.met.D.SectorDevice.coherent c.args.device.now honest)
    (g.met.D.SectorDevice.coherent c.renew.new.device new_honest) (g.met.D.SectorDevice.torn_coherent c.renew.new.device new_honest) same.size formed left now next_is tt c.renew.new.known
    (λ torn told. c.in_ok-renew-in-Some.ensures.renewed (Some torn) (state_of state known.slot.blocks) told.noticed honest now.knows (λ image stays. now.alone image (torn, told, stays)) now.awaits)
    (λ torn. c.renew.ensures.sector_0 (Some torn) honest) c.in_ok-renew-in-Some.ensures.slot (c.in_ok-renew-in-Some.ensures.knows (state_of state known.slot.blocks) now.knows)
