use Rattle.std.proofs.Common.{ℕ, ◌≡◌, [], Some, refl, true, false, subst, sym, ◌∙◌, arith}
use Rattle.sector_device.proofs.Charges.{failed_joined, made_joined}
use Rattle.store_journal.specs.Layout.{IsSized}
use Rattle.store_journal.specs.Models.{IsTold}
use Rattle.commit_slots.specs.Finding.{IsMarked}
use Rattle.store_journal.proofs.Fillings.{all_carry}
use Rattle.store_journal.proofs.Formats.{format_failed}
use Rattle.store_journal.proofs.start.format_riding.Goals as goal

pub returns-in-Err-format_slots-clause-err : goal.returns-in-Err-format_slots-clause-err
returns-in-Err-format_slots-clause-err g c =
    let disk = g.D.SectorDevice.disk in
    format_failed true (disk c.args.device.now) (disk c.format_slots.new.device) (subst (IsSized true) c.sectors-sectors.ensures (c.if-not-is_sized.ensures.0 refl))
    (failed_joined (disk c.args.device.now) (disk c.looks_made_riding.new.device) (disk c.format_slots.new.device) 5 134 139 (omega arith) c.in-Ok.ensures.charges c.in-Err-format_slots.ensures.charges)

pub returns-in-Ok-format_slots-clause-ok : goal.returns-in-Ok-format_slots-clause-ok
returns-in-Ok-format_slots-clause-ok g c =
    let disk = g.D.SectorDevice.disk in
    let old = disk c.args.device.now in
    let mid = disk c.looks_made_riding.new.device in
    let new = disk c.format_slots.new.device in
    let sized = subst (IsSized true) c.sectors-sectors.ensures (c.if-not-is_sized.ensures.0 refl) in
    let size : new.sectors ≡ old.sectors = c.format_slots.ensures.same.size ∙ c.looks_made_riding.ensures.same.size in
    let fresh : mid.honest → IsMarked old.seen → ⊥ = λ honest marked. let contrary : true ≡ false = sym ((c.in-Ok.ensures.made honest).1 marked) ∙ c.if-made.false in absurd (cc contrary) in
    record {
      sized = sized;
      fresh = λ honest. fresh (c.format_slots.ensures.same.honest.1 honest);
      empty = λ honest.
          let was = c.format_slots.ensures.same.honest.1 honest in
          all_carry [] 0 0 c.args.identity new (g.met.D.SectorDevice.torn_coherent c.format_slots.new.device honest) (omega (arith, size, sized.at_least)) (omega (arith, size, sized.at_most))
          (λ torn told image left.
          (c.in-Ok-format_slots.ensures.formatted (Some torn) told.noticed was
          (λ before stays marked. fresh was (subst IsMarked (c.in-Ok.ensures.alone was before (torn, subst (λ (n : ℕ). IsTold n torn) c.format_slots.ensures.same.size told, stays)) marked))).done image left);
      made = made_joined old mid new 5 134 c.in-Ok.ensures.charges c.in-Ok-format_slots.ensures.charges;
    }
