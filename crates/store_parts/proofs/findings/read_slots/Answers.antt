use Rattle.std.proofs.Common.{ℕ, ap, length, arith, subst, sym}
use Rattle.std.proofs.lemmas.List.{length_push}
use Rattle.sector_device.proofs.Charges.{read_none, read_joined}
use Rattle.sector_device.specs.Disk.{Image}
use Rattle.store_parts.specs.Parts.{IsSectorOrZeros}
use Rattle.store_parts.proofs.Tails.{sector_more}
use Rattle.store_parts.proofs.Keeps.{keeps_joined, keeps_none}
use Rattle.store_parts.proofs.findings.read_slots.Goals as goal

pub loop-at-init : goal.loop-at-init
loop-at-init g c =
    let device = c.args.device.now in
    let disk = g.D.SectorDevice.disk in
    record {
      same = read_none (disk device);
      later = omega arith;
      keeps = λ h. keeps_none (disk device) (g.met.D.SectorDevice.coherent device h);
      long = ap length c.new-slots.ensures.items;
      slots = λ h. λ k lt. absurd (let long = ap length c.new-slots.ensures.items in omega (arith, long, lt));
    }

pub loop-at-preserved : goal.loop-at-preserved
loop-at-preserved g c =
    let disk = g.D.SectorDevice.disk in
    let old = disk c.args.device.now in
    let mid = disk c.loop-at.device in
    let new = disk c.sector_if_there.new.device in
    let inv = c.loop-at.invariant in
    let read = c.sector_if_there.ensures in
    record {
      same = read_joined old mid new inv.same read.same;
      later = omega (arith, inv.later, read.later);
      keeps = λ h. keeps_joined old mid new (inv.keeps (read.same.honest h)) (read.unwritten h);
      long = omega (arith, ap length c.in_ok-push.ensures.items, length_push c.loop-at.slots.items c.sector_if_there.result, inv.long);
      slots = λ h.
          let sector = subst (λ (image : Image). IsSectorOrZeros image c.loop-at.at c.sector_if_there.result) (inv.keeps (read.same.honest h)).seen (read.read h) in
          sector_more old.seen c.loop-at.slots.items c.push.new.self.items c.sector_if_there.result c.in_ok-push.ensures.items
          (subst (λ (n : ℕ). IsSectorOrZeros old.seen n c.sector_if_there.result) (sym inv.long) sector) (inv.slots (read.same.honest h));
    }

pub returns-in_err-push-clause-unwritten : goal.returns-in_err-push-clause-unwritten
returns-in_err-push-clause-unwritten g c = λ h.
    let disk = g.D.SectorDevice.disk in
    let read = c.sector_if_there.ensures in
    keeps_joined (disk c.args.device.now) (disk c.loop-at.device) (disk c.sector_if_there.new.device) (c.loop-at.invariant.keeps (read.same.honest h)) (read.unwritten h)
