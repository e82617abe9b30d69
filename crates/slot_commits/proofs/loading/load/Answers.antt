use Rattle.std.proofs.Common.{◌≡◌, ◌<◌, ◌^◌, ℕ, List, length, subst, sym, ◌∙◌, arith, None}
use Rattle.commit_slots.specs.Slots.{IsSlotOf}
use Rattle.slot_commits.specs.Tears.{tearing_by}
use Rattle.slot_commits.specs.Loads.{HasRead}
use Rattle.slot_commits.proofs.Loadings.{done_awaits, done_made, done_notice, done_numbers, done_of, found_of, left_of, load_refused, nothing_left, nothing_refused, unread_device, unread_memory}
use Rattle.slot_commits.proofs.Taken.{keeps_joined}
use Rattle.slot_commits.proofs.loading.load.Goals as goal

pub returns-in-Err-Memory-clause-err : goal.returns-in-Err-Memory-clause-err
returns-in-Err-Memory-clause-err g c =
    let disk = g.D.SectorDevice.disk in
    let old = disk c.args.device.now in
    let mid = disk c.find.new.device in
    let some = rw c.in-Err-Memory.field-0-is at c.in-Err-Memory.ensures.charges in
    unread_memory old mid some.0 some.1 some.2

pub returns-in-Err-Device-clause-err : goal.returns-in-Err-Device-clause-err
returns-in-Err-Device-clause-err g c =
    let disk = g.D.SectorDevice.disk in
    let old = disk c.args.device.now in
    let mid = disk c.find.new.device in
    let failed = rw c.in-Err-Device.field-0-is at c.in-Err-Device.ensures.charges in
    unread_device old mid failed

pub returns-in-None-clause-err : goal.returns-in-None-clause-err
returns-in-None-clause-err g c =
    let disk = g.D.SectorDevice.disk in
    let old = disk c.args.device.now in
    let mid = disk c.find.new.device in
    let found = c.in-Ok.found in
    let made = c.in-Ok.ensures.charges in
    nothing_refused old mid found made c.in-Ok.ensures.found c.in-None.is c.unmade.result c.unmade.ensures.marked c.unmade.ensures.none

pub returns-then-is_spent-clause-err : goal.returns-then-is_spent-clause-err
returns-then-is_spent-clause-err g c =
    let disk = g.D.SectorDevice.disk in
    let old = disk c.args.device.now in
    let mid = disk c.find.new.device in
    let found = c.in-Ok.found in
    let made = c.in-Ok.ensures.charges in
    nothing_left old mid found made c.in-Ok.ensures.found c.in-Some.counted c.in-Some.is (c.is_spent.ensures.0 c.if-is_spent.true)

pub read_all-requires-clause-of : goal.read_all-requires-clause-of
read_all-requires-clause-of g c =
    let disk = g.D.SectorDevice.disk in
    let old = disk c.args.device.now in
    let mid = disk c.find.new.device in
    let found = c.in-Ok.found in
    let made = c.in-Ok.ensures.charges in
    let counted = c.in-Some.counted in
    let fits = c.in-Ok.ensures.fits in
    let of = found_of fits.0 found counted c.in-Some.is fits.2 in
    subst (λ (l : List ℕ). IsSlotOf mid.sectors counted.slot l) (sym c.deref.ensures.value) (subst (λ (n : ℕ). IsSlotOf n counted.slot counted.tail.items) (fits.1 ∙ sym c.find.ensures.same.size) of.0)

pub returns-in-Err-clause-err : goal.returns-in-Err-clause-err
returns-in-Err-clause-err g c =
    let disk = g.D.SectorDevice.disk in
    let old = disk c.args.device.now in
    let mid = disk c.find.new.device in
    let found = c.in-Ok.found in
    let made = c.in-Ok.ensures.charges in
    let new = disk c.read_all.new.device in
    let counted = c.in-Some.counted in
    let fits = c.in-Ok.ensures.fits in
    let of = found_of fits.0 found counted c.in-Some.is fits.2 in
    let of_old = subst (λ (n : ℕ). IsSlotOf n counted.slot counted.tail.items) fits.1 of.0 in
    let honest = c.read_all.ensures.same.honest in
    let wide : mid.honest → length old.seen ≡ old.sectors = λ h. let shape = g.met.D.SectorDevice.coherent c.args.device.now (c.find.ensures.same.honest h) in (shape.shape old.seen shape.seen).count in
    let seen : mid.honest → mid.seen ≡ old.seen = λ h. (c.find.ensures.keeps None h).seen in
    load_refused old mid new found counted c.in-Some.is made c.in-Ok.ensures.found of_old honest wide c.find.ensures.same.size seen c.in-Err.fault c.in-Err.ensures.err

pub returns-in-Err-clause-keeps : goal.returns-in-Err-clause-keeps
returns-in-Err-clause-keeps g c =
    let disk = g.D.SectorDevice.disk in
    let old = disk c.args.device.now in
    let mid = disk c.find.new.device in
    λ torn h. keeps_joined (tearing_by torn old) (tearing_by torn mid) (tearing_by torn (disk c.read_all.new.device)) (c.find.ensures.keeps torn (c.read_all.ensures.same.honest h)) (c.read_all.ensures.keeps torn h)

pub returns-clause-keeps : goal.returns-clause-keeps
returns-clause-keeps g c =
    let disk = g.D.SectorDevice.disk in
    let old = disk c.args.device.now in
    let mid = disk c.find.new.device in
    λ torn h. keeps_joined (tearing_by torn old) (tearing_by torn mid) (tearing_by torn (disk c.read_all.new.device)) (c.find.ensures.keeps torn (c.read_all.ensures.same.honest h)) (c.read_all.ensures.keeps torn h)

pub first_copy-requires : goal.first_copy-requires
first_copy-requires g c =
    let disk = g.D.SectorDevice.disk in
    let old = disk c.args.device.now in
    let mid = disk c.find.new.device in
    let found = c.in-Ok.found in
    let made = c.in-Ok.ensures.charges in
    (found_of c.in-Ok.ensures.fits.0 found c.in-Some.counted c.in-Some.is c.in-Ok.ensures.fits.2).1

pub returns-clause-ok : goal.returns-clause-ok
returns-clause-ok g c =
    let disk = g.D.SectorDevice.disk in
    let old = disk c.args.device.now in
    let mid = disk c.find.new.device in
    let found = c.in-Ok.found in
    let made = c.in-Ok.ensures.charges in
    let new = disk c.read_all.new.device in
    let counted = c.in-Some.counted in
    let fits = c.in-Ok.ensures.fits in
    let of = found_of fits.0 found counted c.in-Some.is fits.2 in
    let of_old = subst (λ (n : ℕ). IsSlotOf n counted.slot counted.tail.items) fits.1 of.0 in
    let honest = c.read_all.ensures.same.honest in
    let wide : mid.honest → length old.seen ≡ old.sectors = λ h. let shape = g.met.D.SectorDevice.coherent c.args.device.now (c.find.ensures.same.honest h) in (shape.shape old.seen shape.seen).count in
    let seen : mid.honest → mid.seen ≡ old.seen = λ h. (c.find.ensures.keeps None h).seen in
    let bytes = c.in-Ok-read_all.bytes.items in
    let read = subst (λ (l : List ℕ). HasRead mid new counted.slot l bytes) c.deref.ensures.value c.in-Ok-read_all.ensures.ok in
    let number = c.next_number.ensures in
    let first = c.first_copy.ensures in
    let left = left_of c.is_spent.result found.highest c.is_spent.ensures c.if-is_spent.false in
    let fits_now : c.next_number.result < 2 ^ 64 = omega (arith, number.most, left) in
    record {
      of = done_of old mid new found counted c.in-Some.is made c.in-Ok.ensures.found of_old honest wide c.find.ensures.same.size seen bytes read;
      size = sym read.size;
      check = read.check;
      first_fits = first.low;
      awaits = done_awaits old mid new found counted c.in-Some.is made c.in-Ok.ensures.found of_old honest wide c.find.ensures.same.size seen bytes read c.next_number.result c.first_copy.result number.above fits_now number.other number.same first.low first.first first.mate;
      numbers = done_numbers old mid new found counted c.in-Some.is made c.in-Ok.ensures.found of_old honest wide c.find.ensures.same.size seen bytes read left;
      notice = done_notice old mid new found counted c.in-Some.is made c.in-Ok.ensures.found of_old honest wide c.find.ensures.same.size seen bytes read c.notice_of.result (λ image beside. c.notice_of.ensures image counted.slot counted.tail.items beside.0 beside.1);
      made = done_made old mid new found counted c.in-Some.is made c.in-Ok.ensures.found of_old honest wide c.find.ensures.same.size seen bytes read;
    }
