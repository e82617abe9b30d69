use Rattle.std.proofs.Common.{◌≡◌, refl, true, false, subst, sym, ◌∙◌, arith}
use Rattle.sector_device.proofs.Charges.{failed_joined, made_joined}
use Rattle.store_journal.specs.Layout.{IsSized}
use Rattle.store_journal.proofs.Formats.{format_failed}
use Rattle.store_journal.proofs.start.format_plain.Goals as goal

pub returns-in-Err-format_empty-clause-err : goal.returns-in-Err-format_empty-clause-err
returns-in-Err-format_empty-clause-err g c =
    let disk = g.D.SectorDevice.disk in
    format_failed false (disk c.args.device.now) (disk c.format_empty.new.device) (subst (IsSized false) c.sectors-sectors.ensures (c.if-not-is_sized.ensures.0 refl))
    (failed_joined (disk c.args.device.now) (disk c.looks_made.new.device) (disk c.format_empty.new.device) 1 2 3 (omega arith) c.in-Ok.ensures.charges c.in-Err-format_empty.ensures.charges)

pub returns-in-Ok-format_empty-clause-ok : goal.returns-in-Ok-format_empty-clause-ok
returns-in-Ok-format_empty-clause-ok g c =
    let disk = g.D.SectorDevice.disk in
    let sized = subst (IsSized false) c.sectors-sectors.ensures (c.if-not-is_sized.ensures.0 refl) in
    record {
      sized = sized;
      fresh = λ honest magic. let contrary : true ≡ false = sym ((c.in-Ok.ensures.made (c.format_empty.ensures.same.honest.1 honest)).1 magic) ∙ c.if-made.false in absurd (cc contrary);
      empty = λ honest image left. (c.in-Ok-format_empty.ensures.done (c.format_empty.ensures.same.honest.1 honest) image left, refl);
      made = made_joined (disk c.args.device.now) (disk c.looks_made.new.device) (disk c.format_empty.new.device) 1 2 c.in-Ok.ensures.charges c.in-Ok-format_empty.ensures.charges;
    }
