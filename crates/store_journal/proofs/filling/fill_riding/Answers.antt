use Rattle.std.proofs.Common.{ℕ, ◌≡◌, ◌≤◌, ◌∙◌, ◌/◌, ◌*◌, ◌+◌, Some, refl, true, false, subst, sym, ap, length, arith}
use Rattle.sector_device.specs.Disk.{Disk, LeavesOnly}
use Rattle.sector_device.proofs.Charges.{failed_joined, made_joined}
use Rattle.commit_slots.specs.Finding.{IsMarked}
use Rattle.store_journal.specs.Filling.{filled}
use Rattle.store_journal.specs.Layout.{IsSized, capacity_of}
use Rattle.store_journal.specs.Models.{IsTold}
use Rattle.store_journal.proofs.Fillings.{all_carry, fill_failed, looked_moment, riding_moment, still_moment}
use Rattle.store_journal.proofs.filling.fill_riding.Goals as goal

pub returns-in-Err-format_slots-clause-err : goal.returns-in-Err-format_slots-clause-err
returns-in-Err-format_slots-clause-err g c =
    let disk = g.D.SectorDevice.disk in
    let old = disk c.args.device.now in
    let sized = subst (IsSized true) c.sectors-sectors.ensures (c.if-not-is_sized.ensures.0 refl) in
    let fits = subst (λ (n : ℕ). length c.args.bytes.now ≤ n) (c.capacity.ensures ∙ ap (capacity_of true) c.sectors-sectors.ensures) c.if-capacity-bytes.false in
    fill_failed old (disk c.format_slots.new.device) (filled true c.args.bytes.now c.args.seq c.args.opens c.args.identity) sized fits
    (failed_joined old (disk c.looks_made_riding.new.device) (disk c.format_slots.new.device) 5 (134 + 8 * (length c.args.bytes.now / 4096)) _ (omega arith) c.in-Ok.ensures.charges c.in-Err-format_slots.ensures.charges)

pub returns-then-not-is_sized-clause-any_moment : goal.returns-then-not-is_sized-clause-any_moment
returns-then-not-is_sized-clause-any_moment g c = λ honest.
    still_moment c.args.bytes.now c.args.seq c.args.opens c.args.identity (g.D.SectorDevice.disk c.args.device.now) (g.met.D.SectorDevice.coherent c.args.device.now honest) (g.met.D.SectorDevice.torn_coherent c.args.device.now honest)

pub returns-then-capacity-bytes-clause-any_moment : goal.returns-then-capacity-bytes-clause-any_moment
returns-then-capacity-bytes-clause-any_moment g c = λ honest.
    still_moment c.args.bytes.now c.args.seq c.args.opens c.args.identity (g.D.SectorDevice.disk c.args.device.now) (g.met.D.SectorDevice.coherent c.args.device.now honest) (g.met.D.SectorDevice.torn_coherent c.args.device.now honest)

pub returns-in-Err-clause-any_moment : goal.returns-in-Err-clause-any_moment
returns-in-Err-clause-any_moment g c = λ honest.
    looked_moment c.args.bytes.now c.args.seq c.args.opens c.args.identity (g.D.SectorDevice.disk c.args.device.now) (g.D.SectorDevice.disk c.looks_made_riding.new.device) (c.looks_made_riding.ensures.torn honest)

pub returns-then-made-clause-any_moment : goal.returns-then-made-clause-any_moment
returns-then-made-clause-any_moment g c = λ honest.
    looked_moment c.args.bytes.now c.args.seq c.args.opens c.args.identity (g.D.SectorDevice.disk c.args.device.now) (g.D.SectorDevice.disk c.looks_made_riding.new.device) (c.looks_made_riding.ensures.torn honest)

pub returns-in-Err-format_slots-clause-any_moment : goal.returns-in-Err-format_slots-clause-any_moment
returns-in-Err-format_slots-clause-any_moment g c = λ honest.
    let disk = g.D.SectorDevice.disk in
    let old = disk c.args.device.now in
    let mid = disk c.looks_made_riding.new.device in
    let sized = subst (IsSized true) c.sectors-sectors.ensures (c.if-not-is_sized.ensures.0 refl) in
    let size : mid.sectors ≡ old.sectors = c.looks_made_riding.ensures.same.size in
    let was = c.format_slots.ensures.same.honest.1 honest in
    let fresh : IsMarked old.seen → ⊥ = λ marked. let contrary : true ≡ false = sym ((c.in-Ok.ensures.made was).1 marked) ∙ c.if-made.false in absurd (cc contrary) in
    riding_moment c.args.bytes.now c.args.seq c.args.opens c.args.identity old mid (disk c.format_slots.new.device) c.format_slots.result (omega (arith, size, sized.at_least)) (omega (arith, size, sized.at_most)) c.format_slots.ensures.same.size
    (c.looks_made_riding.ensures.torn was) fresh
    (λ torn told. c.format_slots.ensures.formatted (Some torn) told.noticed was (λ before stays marked. fresh (subst IsMarked (c.in-Ok.ensures.alone was before (torn, told, stays)) marked)))

pub returns-in-Ok-format_slots-clause-any_moment : goal.returns-in-Ok-format_slots-clause-any_moment
returns-in-Ok-format_slots-clause-any_moment g c = λ honest.
    let disk = g.D.SectorDevice.disk in
    let old = disk c.args.device.now in
    let mid = disk c.looks_made_riding.new.device in
    let sized = subst (IsSized true) c.sectors-sectors.ensures (c.if-not-is_sized.ensures.0 refl) in
    let size : mid.sectors ≡ old.sectors = c.looks_made_riding.ensures.same.size in
    let was = c.format_slots.ensures.same.honest.1 honest in
    let fresh : IsMarked old.seen → ⊥ = λ marked. let contrary : true ≡ false = sym ((c.in-Ok.ensures.made was).1 marked) ∙ c.if-made.false in absurd (cc contrary) in
    riding_moment c.args.bytes.now c.args.seq c.args.opens c.args.identity old mid (disk c.format_slots.new.device) c.format_slots.result (omega (arith, size, sized.at_least)) (omega (arith, size, sized.at_most)) c.format_slots.ensures.same.size
    (c.looks_made_riding.ensures.torn was) fresh
    (λ torn told. c.format_slots.ensures.formatted (Some torn) told.noticed was (λ before stays marked. fresh (subst IsMarked (c.in-Ok.ensures.alone was before (torn, told, stays)) marked)))

pub returns-in-Ok-format_slots-clause-ok : goal.returns-in-Ok-format_slots-clause-ok
returns-in-Ok-format_slots-clause-ok g c =
    let disk = g.D.SectorDevice.disk in
    let old = disk c.args.device.now in
    let mid = disk c.looks_made_riding.new.device in
    let new = disk c.format_slots.new.device in
    let sized = subst (IsSized true) c.sectors-sectors.ensures (c.if-not-is_sized.ensures.0 refl) in
    let fits = subst (λ (n : ℕ). length c.args.bytes.now ≤ n) (c.capacity.ensures ∙ ap (capacity_of true) c.sectors-sectors.ensures) c.if-capacity-bytes.false in
    let size : new.sectors ≡ old.sectors = c.format_slots.ensures.same.size ∙ c.looks_made_riding.ensures.same.size in
    let fresh : mid.honest → IsMarked old.seen → ⊥ = λ honest marked. let contrary : true ≡ false = sym ((c.in-Ok.ensures.made honest).1 marked) ∙ c.if-made.false in absurd (cc contrary) in
    record {
      sized = sized;
      fits = fits;
      fresh = λ honest. fresh (c.format_slots.ensures.same.honest.1 honest);
      carries = λ honest.
          let was = c.format_slots.ensures.same.honest.1 honest in
          all_carry c.args.bytes.now c.args.seq c.args.opens c.args.identity new (g.met.D.SectorDevice.torn_coherent c.format_slots.new.device honest) (omega (arith, size, sized.at_least)) (omega (arith, size, sized.at_most))
          (λ torn told image left.
          (c.in-Ok-format_slots.ensures.formatted (Some torn) told.noticed was
          (λ before stays marked. fresh was (subst IsMarked (c.in-Ok.ensures.alone was before (torn, subst (λ (n : ℕ). IsTold n torn) c.format_slots.ensures.same.size told, stays)) marked))).done image left);
      made = made_joined old mid new 5 (134 + 8 * (length c.args.bytes.now / 4096)) c.in-Ok.ensures.charges c.in-Ok-format_slots.ensures.charges;
    }
