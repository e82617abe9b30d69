use Rattle.std.proofs.Common.{◌≡◌, ◌+◌, ◌-◌, ◌*◌, ◌≤◌, ℕ, length, take, drop, inr, refl, ap, subst, sym, ◌∙◌, arith, None, Some, true}
use Rattle.sector_device.proofs.Charges.{failed_joined}
use Rattle.sector_device.proofs.Moments.{joined}
use Rattle.commit_slots.specs.declared.slot.Slot.{Slot}
use Rattle.slot_commits.specs.Converts.{convert_calls}
use Rattle.slot_commits.specs.Formats.{formatted}
use Rattle.slot_commits.specs.Loads.{number_end}
use Rattle.store_journal.specs.Carries.{EitherCarried, turned}
use Rattle.store_journal.specs.Writes.{upgrade_calls}
use Rattle.store_journal.proofs.Upgrades.{in_half_kept, knows_whole, looked_moment, looked_stays, upgrade_done, upgrade_moment, upgrade_stays}
use Rattle.store_journal.proofs.upgrading.to_slots.Goals as goal

pub returns-in_err-number-clause-stays : goal.returns-in_err-number-clause-stays
returns-in_err-number-clause-stays g c = λ state honest is.
    let disk = g.D.SectorDevice.disk in
    let first = c.settle_numbers.ensures in
    looked_stays (disk c.args.device.now) (disk c.settle_numbers.new.device) c.args.known state (g.met.D.SectorDevice.coherent c.args.device.now (first.same.honest honest)) c.requires.formed.size (first.keeps honest) is

pub returns-in-Err-clause-stays : goal.returns-in-Err-clause-stays
returns-in-Err-clause-stays g c = λ state honest is.
    let disk = g.D.SectorDevice.disk in
    let first = c.settle_numbers.ensures in
    looked_stays (disk c.args.device.now) (disk c.settle_numbers.new.device) c.args.known state (g.met.D.SectorDevice.coherent c.args.device.now (first.same.honest honest)) c.requires.formed.size (first.keeps honest) is

pub returns-in-Ok-convert-clause-any_moment : goal.returns-in-Ok-convert-clause-any_moment
returns-in-Ok-convert-clause-any_moment g c = λ state honest is.
    let disk = g.D.SectorDevice.disk in
    let old = disk c.args.device.now in
    let mid = disk c.settle_numbers.new.device in
    let new = disk c.convert.new.device in
    let known = c.args.known in
    let target = c.args.target.now in
    let number = c.in_ok-number.number in
    let first = c.settle_numbers.ensures in
    let was = c.convert.ensures.same.honest.1 honest in
    let now = in_half_kept old mid known state (first.keeps was) is in
    let can = c.in_ok-number.ensures.can None tt was in
    let size : known.commit.sectors ≡ mid.sectors = c.requires.formed.size ∙ sym first.same.size in
    let coherent = g.met.D.SectorDevice.coherent c.settle_numbers.new.device was in
    let coherent_new = g.met.D.SectorDevice.coherent c.convert.new.device honest in
    let end : number + 2 ≤ number_end = omega (arith, c.in_ok-number.ensures.odd.1) in
    let converting = (c.convert.ensures.converted None can).any_moment in
    joined old mid new (EitherCarried state (turned true c.args.identity state target)) (looked_moment old mid known state (turned true c.args.identity state target) (first.keeps was) is)
    (upgrade_moment mid new known state c.args.identity target number coherent coherent_new size c.requires.half c.requires.between end now can.alone converting (c.convert.ensures.sector_0 None was))

pub returns-in-Ok-convert-clause-stays : goal.returns-in-Ok-convert-clause-stays
returns-in-Ok-convert-clause-stays g c = λ state honest is.
    let disk = g.D.SectorDevice.disk in
    let old = disk c.args.device.now in
    let mid = disk c.settle_numbers.new.device in
    let new = disk c.convert.new.device in
    let known = c.args.known in
    let target = c.args.target.now in
    let number = c.in_ok-number.number in
    let first = c.settle_numbers.ensures in
    let was = c.convert.ensures.same.honest.1 honest in
    let now = in_half_kept old mid known state (first.keeps was) is in
    let can = c.in_ok-number.ensures.can None tt was in
    let size : known.commit.sectors ≡ mid.sectors = c.requires.formed.size ∙ sym first.same.size in
    let coherent = g.met.D.SectorDevice.coherent c.settle_numbers.new.device was in
    let coherent_new = g.met.D.SectorDevice.coherent c.convert.new.device honest in
    let end : number + 2 ≤ number_end = omega (arith, c.in_ok-number.ensures.odd.1) in
    let converting = (c.convert.ensures.converted None can).any_moment in
    upgrade_stays mid new known state c.args.identity target number coherent coherent_new size c.requires.half c.requires.between end now can.alone converting

pub returns-in-Err-convert-clause-any_moment : goal.returns-in-Err-convert-clause-any_moment
returns-in-Err-convert-clause-any_moment g c = λ state honest is.
    let disk = g.D.SectorDevice.disk in
    let old = disk c.args.device.now in
    let mid = disk c.settle_numbers.new.device in
    let new = disk c.convert.new.device in
    let known = c.args.known in
    let target = c.args.target.now in
    let number = c.in_ok-number.number in
    let first = c.settle_numbers.ensures in
    let was = c.convert.ensures.same.honest.1 honest in
    let now = in_half_kept old mid known state (first.keeps was) is in
    let can = c.in_ok-number.ensures.can None tt was in
    let size : known.commit.sectors ≡ mid.sectors = c.requires.formed.size ∙ sym first.same.size in
    let coherent = g.met.D.SectorDevice.coherent c.settle_numbers.new.device was in
    let coherent_new = g.met.D.SectorDevice.coherent c.convert.new.device honest in
    let end : number + 2 ≤ number_end = omega (arith, c.in_ok-number.ensures.odd.1) in
    let converting = (c.convert.ensures.converted None can).any_moment in
    joined old mid new (EitherCarried state (turned true c.args.identity state target)) (looked_moment old mid known state (turned true c.args.identity state target) (first.keeps was) is)
    (upgrade_moment mid new known state c.args.identity target number coherent coherent_new size c.requires.half c.requires.between end now can.alone converting (c.convert.ensures.sector_0 None was))

pub returns-in-Err-convert-clause-stays : goal.returns-in-Err-convert-clause-stays
returns-in-Err-convert-clause-stays g c = λ state honest is.
    let disk = g.D.SectorDevice.disk in
    let old = disk c.args.device.now in
    let mid = disk c.settle_numbers.new.device in
    let new = disk c.convert.new.device in
    let known = c.args.known in
    let target = c.args.target.now in
    let number = c.in_ok-number.number in
    let first = c.settle_numbers.ensures in
    let was = c.convert.ensures.same.honest.1 honest in
    let now = in_half_kept old mid known state (first.keeps was) is in
    let can = c.in_ok-number.ensures.can None tt was in
    let size : known.commit.sectors ≡ mid.sectors = c.requires.formed.size ∙ sym first.same.size in
    let coherent = g.met.D.SectorDevice.coherent c.settle_numbers.new.device was in
    let coherent_new = g.met.D.SectorDevice.coherent c.convert.new.device honest in
    let end : number + 2 ≤ number_end = omega (arith, c.in_ok-number.ensures.odd.1) in
    let converting = (c.convert.ensures.converted None can).any_moment in
    upgrade_stays mid new known state c.args.identity target number coherent coherent_new size c.requires.half c.requires.between end now can.alone converting

pub returns-in-Ok-convert-clause-done : goal.returns-in-Ok-convert-clause-done
returns-in-Ok-convert-clause-done g c = λ state honest is.
    let disk = g.D.SectorDevice.disk in
    let old = disk c.args.device.now in
    let mid = disk c.settle_numbers.new.device in
    let new = disk c.convert.new.device in
    let known = c.args.known in
    let target = c.args.target.now in
    let number = c.in_ok-number.number in
    let first = c.settle_numbers.ensures in
    let was = c.convert.ensures.same.honest.1 honest in
    let now = in_half_kept old mid known state (first.keeps was) is in
    let slots = c.in-Ok.slots in
    let made = c.slot_for-slot.ensures in
    let there = c.in-Ok.ensures.numbers in
    let blocks = ap (λ (m : Slot). m.blocks) made in
    let slot_is = there.0 ∙ made in
    let tail_is = subst (λ (n : ℕ). take (length target - 4096 * n) slots.tail.items ≡ drop (4096 * n) target) blocks c.in-Ok.ensures.tail in
    let knows = knows_whole slots (formatted target known.commit.seq known.commit.opens c.args.identity) known.commit.sectors (number + 1) slot_is (there.1 ∙ ap (λ (m : Slot). m.check) made) refl tail_is in
    upgrade_done new known slots state c.args.identity target number is.knows.commit_is c.requires.half c.in_ok-number.ensures.odd.0 slot_is knows
    (λ torn told image left. (c.in-Ok-convert.ensures.converted (Some torn) (c.in_ok-number.ensures.can (Some torn) told.noticed was)).done image left)

pub returns-in-Err-convert-clause-refused : goal.returns-in-Err-convert-clause-refused
returns-in-Err-convert-clause-refused g c =
    let disk = g.D.SectorDevice.disk in
    let used = length c.args.target.now in
    inr (inr (refl, failed_joined (disk c.args.device.now) (disk c.settle_numbers.new.device) (disk c.convert.new.device) 129 (convert_calls used) (upgrade_calls used) (omega arith) c.in_ok-number.ensures.made c.in-Err-convert.ensures.charges))
