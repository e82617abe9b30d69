use Rattle.std.proofs.Common.{◌≡◌, [], get_or, ap, ◌∙◌, arith, None}
use Rattle.sector_device.specs.Disk.{Image}
use Rattle.sector_device.proofs.Charges.{charges_err, failed_joined, made_joined}
use Rattle.slot_commits.proofs.Survey.{marked_by}
use Rattle.slot_commits.proofs.reading.looks_made.Goals as goal

pub returns-in_err-first-clause-charges : goal.returns-in_err-first-clause-charges
returns-in_err-first-clause-charges g c =
    let disk = g.D.SectorDevice.disk in
    let old = disk c.args.device.now in
    let one = disk c.read_sector.new.device in
    let two = disk c.read_sector-2.new.device in
    charges_err old two 4 c.from_residual-in_err-first.result c.from_residual-in_err-first.ensures.0 (failed_joined old one two 1 1 4 (omega arith) c.in_ok-zeroth.ensures.charges c.in_err-first.ensures.charges)

pub returns-in_err-second-clause-charges : goal.returns-in_err-second-clause-charges
returns-in_err-second-clause-charges g c =
    let disk = g.D.SectorDevice.disk in
    let old = disk c.args.device.now in
    let one = disk c.read_sector.new.device in
    let two = disk c.read_sector-2.new.device in
    let three = disk c.read_sector-3.new.device in
    charges_err old three 4 c.from_residual-in_err-second.result c.from_residual-in_err-second.ensures.0
    (failed_joined old two three 2 1 4 (omega arith) (made_joined old one two 1 1 c.in_ok-zeroth.ensures.charges c.in_ok-first.ensures.charges) c.in_err-second.ensures.charges)

pub returns-in_err-third-clause-charges : goal.returns-in_err-third-clause-charges
returns-in_err-third-clause-charges g c =
    let disk = g.D.SectorDevice.disk in
    let old = disk c.args.device.now in
    let one = disk c.read_sector.new.device in
    let two = disk c.read_sector-2.new.device in
    let three = disk c.read_sector-3.new.device in
    let four = disk c.read_sector-4.new.device in
    charges_err old four 4 c.from_residual-in_err-third.result c.from_residual-in_err-third.ensures.0
    (failed_joined old three four 3 1 4 (omega arith) (made_joined old two three 2 1 (made_joined old one two 1 1 c.in_ok-zeroth.ensures.charges c.in_ok-first.ensures.charges) c.in_ok-second.ensures.charges) c.in_err-third.ensures.charges)

pub returns-clause-marked : goal.returns-clause-marked
returns-clause-marked g c = λ h.
    let disk = g.D.SectorDevice.disk in
    let old = disk c.args.device.now in
    let one = disk c.read_sector.new.device in
    let two = disk c.read_sector-2.new.device in
    let three = disk c.read_sector-3.new.device in
    let honest3 = c.read_sector-4.ensures.same.honest h in
    let honest2 = c.read_sector-3.ensures.same.honest honest3 in
    let honest1 = c.read_sector-2.ensures.same.honest honest2 in
    let seen1 : one.seen ≡ old.seen = (c.read_sector.ensures.keeps None honest1).seen in
    let seen2 : two.seen ≡ old.seen = (c.read_sector-2.ensures.keeps None honest2).seen ∙ seen1 in
    let seen3 : three.seen ≡ old.seen = (c.read_sector-3.ensures.keeps None honest3).seen ∙ seen2 in
    marked_by old.seen c.marks.result c.in_ok-zeroth.zeroth c.in_ok-first.first c.in_ok-second.second c.in_ok-third.third (c.in_ok-zeroth.ensures.sector honest1) (c.in_ok-first.ensures.sector honest2 ∙ ap (λ (i : Image). get_or i 32 []) seen1)
    (c.in_ok-second.ensures.sector honest3 ∙ ap (λ (i : Image). get_or i 64 []) seen2) (c.in_ok-third.ensures.sector h ∙ ap (λ (i : Image). get_or i 96 []) seen3) c.marks.ensures
