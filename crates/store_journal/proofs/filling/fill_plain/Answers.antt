use Rattle.std.proofs.Common.{◌≡◌, ℕ, ◌+◌, ◌≤◌, refl, subst, ap, ◌∙◌, take, length, arith, false}
use Rattle.store_journal.specs.Layout.{IsSized, capacity_of}
use Rattle.sector_device.specs.Sectors.{sectors_of}
use Rattle.sector_device.specs.Charges.{Made}
use Rattle.sector_device.proofs.Charges.{failed_joined, made_joined}
use Rattle.store_journal.proofs.Fillings.{at_any_moment, fill_failed}
use Rattle.store_journal.specs.Filling.{filled}
use Rattle.store_journal.proofs.filling.fill_plain.Goals as goal

pub returns-in-Err-fill-clause-err : goal.returns-in-Err-fill-clause-err
returns-in-Err-fill-clause-err g c =
    let disk = g.D.SectorDevice.disk in
    let old = disk c.args.device.now in
    let sized = subst (IsSized false) c.sectors-sectors.ensures (c.if-not-is_sized.ensures.0 refl) in
    let fits = subst (λ (n : ℕ). length c.args.bytes.now ≤ n) (c.capacity.ensures ∙ ap (capacity_of false) c.sectors-sectors.ensures) c.if-capacity-bytes.false in
    fill_failed old (disk c.fill.new.device) (filled false c.args.bytes.now c.args.seq c.args.opens 0) sized fits
    (failed_joined old (disk c.read_first.new.device) (disk c.fill.new.device) 2 (sectors_of (length c.args.bytes.now) + 3) _ (omega arith) c.in-Ok.ensures.charges c.in-Err-fill.ensures.charges)

pub returns-in-Err-fill-clause-any_moment : goal.returns-in-Err-fill-clause-any_moment
returns-in-Err-fill-clause-any_moment g c = λ honest.
    let disk = g.D.SectorDevice.disk in
    let mid_honest = c.fill.ensures.same.honest.1 honest in
    let given = c.in-Ok.ensures.first mid_honest in
    at_any_moment (disk c.args.device.now) (disk c.read_first.new.device) (disk c.fill.new.device) (filled false c.args.bytes.now c.args.seq c.args.opens 0) refl refl (c.read_first.ensures.images mid_honest) (c.in-Ok.ensures.settled mid_honest)
    (λ magic. let true_too = c.if-has_magic.ensures.1 (ap (take 8) given ∙ magic) in absurd (cc true_too)) (c.fill.ensures.any_moment mid_honest)

pub returns-in-Ok-fill-clause-any_moment : goal.returns-in-Ok-fill-clause-any_moment
returns-in-Ok-fill-clause-any_moment g c = λ honest.
    let disk = g.D.SectorDevice.disk in
    let mid_honest = c.fill.ensures.same.honest.1 honest in
    let given = c.in-Ok.ensures.first mid_honest in
    at_any_moment (disk c.args.device.now) (disk c.read_first.new.device) (disk c.fill.new.device) (filled false c.args.bytes.now c.args.seq c.args.opens 0) refl refl (c.read_first.ensures.images mid_honest) (c.in-Ok.ensures.settled mid_honest)
    (λ magic. let true_too = c.if-has_magic.ensures.1 (ap (take 8) given ∙ magic) in absurd (cc true_too)) (c.fill.ensures.any_moment mid_honest)

pub returns-in-Ok-fill-clause-ok : goal.returns-in-Ok-fill-clause-ok
returns-in-Ok-fill-clause-ok g c =
    let disk = g.D.SectorDevice.disk in
    let old = disk c.args.device.now in
    let new = disk c.fill.new.device in
    let n = sectors_of (length c.args.bytes.now) in
    let calls : 2 + (n + 3) ≡ n + 5 = omega arith in
    record {
      sized = subst (IsSized false) c.sectors-sectors.ensures (c.if-not-is_sized.ensures.0 refl);
      fits = subst (λ (n : ℕ). length c.args.bytes.now ≤ n) (c.capacity.ensures ∙ ap (capacity_of false) c.sectors-sectors.ensures) c.if-capacity-bytes.false;
      fresh = λ honest magic. let true_too = c.if-has_magic.ensures.1 (ap (take 8) (c.in-Ok.ensures.first (c.fill.ensures.same.honest.1 honest)) ∙ magic) in absurd (cc true_too);
      carries = λ honest image left. (c.in-Ok-fill.ensures.done (c.fill.ensures.same.honest.1 honest) image left, refl);
      made = subst (Made old new) calls (made_joined old (disk c.read_first.new.device) new 2 (n + 3) c.in-Ok.ensures.charges c.in-Ok-fill.ensures.charges);
    }
