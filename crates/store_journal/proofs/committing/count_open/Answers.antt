use Rattle.std.proofs.Common.{◌≡◌, ◌+◌, [], ◌++◌, true, sym, subst, arith}
use Rattle.std.proofs.lemmas.List.{append-nil}
use Rattle.half_journal.specs.States.{one_more}
use Rattle.store_journal.specs.Carries.{counted, half_of}
use Rattle.store_journal.specs.Held.{IsFormed, IsOf, SparesOther, numbers_of}
use Rattle.store_journal.specs.declared.held.Held.{Held}
use Rattle.store_journal.proofs.Halves.{half_spares, half_tried, knows_by}
use Rattle.store_journal.proofs.committing.count_open.Goals as goal

pub returns-in-InHalf-clause-tried : goal.returns-in-InHalf-clause-tried
returns-in-InHalf-clause-tried g c = λ state honest is.
    let old = g.D.SectorDevice.disk c.args.device.now in
    let known = c.in-InHalf.known in
    let now = subst (λ (h : Held). IsOf old h state) c.in-InHalf.is is in
    let formed = subst (IsFormed old.sectors) c.in-InHalf.is c.requires.formed in
    let seq_is : state.seq ≡ state.seq + 0 = omega arith in
    let next_is : half_of (counted state) ≡ record { version = state.version; half = state.half; bytes = state.bytes ++ []; seq = state.seq + 0; opens = one_more state.opens } =
    λ i. record { version = state.version; half = state.half; bytes = sym (append-nil state.bytes) i; seq = seq_is i; opens = one_more state.opens } in
    half_tried old (g.D.SectorDevice.disk c.commit.new.device) known c.commit.new.known state (counted state) _ c.commit.result formed.size now.knows now.plain now.plain now.identity_is now.identity_is
    (c.commit.ensures.tried (half_of state) honest now.knows now.carried tt) next_is (knows_by c.commit.new.known c.commit.result next_is (c.commit.ensures.knows (half_of state) now.knows)) c.commit.ensures.stays

pub returns-in-InHalf-clause-others : goal.returns-in-InHalf-clause-others
returns-in-InHalf-clause-others g c = λ honest settled.
    let old = g.D.SectorDevice.disk c.args.device.now in
    let new = g.D.SectorDevice.disk c.commit.new.device in
    subst (λ (h : Held). SparesOther h old.seen new.seen) (sym c.in-InHalf.is)
    (half_spares c.in-InHalf.known old.seen new.seen old.sectors (subst (IsFormed old.sectors) c.in-InHalf.is c.requires.formed) (c.commit.ensures.others honest tt))

pub returns-in-InSlots-clause-tried : goal.returns-in-InSlots-clause-tried
returns-in-InSlots-clause-tried g c = λ state honest is.
    let old = g.D.SectorDevice.disk c.args.device.now in
    c.count_in_slots.ensures.tried state honest (subst (λ (h : Held). IsOf old h state) c.in-InSlots.is is)

pub returns-in-InSlots-clause-others : goal.returns-in-InSlots-clause-others
returns-in-InSlots-clause-others g c = λ honest settled.
    let old = g.D.SectorDevice.disk c.args.device.now in
    let new = g.D.SectorDevice.disk c.count_in_slots.new.device in
    subst (λ (h : Held). SparesOther h old.seen new.seen) (sym c.in-InSlots.is) (c.count_in_slots.ensures.others honest (subst (λ (h : Held). (numbers_of h).settled ≡ true) c.in-InSlots.is settled))
