use Rattle.std.proofs.Common.{◌≡◌, ◌+◌, ◌∷◌, IfSome, drop, subst, sym, arith}
use Rattle.sector_device.specs.Disk.{Image}
use Rattle.sector_device.proofs.Charges.{read_joined}
use Rattle.store_parts.specs.Parts.{HasPart}
use Rattle.store_parts.proofs.Keeps.{keeps_joined}
use Rattle.store_salvage.specs.Making.{IsMade}
use Rattle.store_salvage.proofs.Later.{all_later}
use Rattle.store_salvage.proofs.making.newest.Goals as goal

pub loop-place-preserved : goal.loop-place-preserved
loop-place-preserved g c =
    let disk = g.D.SectorDevice.disk in
    let old = disk c.args.device.now in
    let mid = disk c.loop-place.device in
    let new = disk c.with_part.new.device in
    let inv = c.loop-place.invariant in
    let made = c.in_ok-best.ensures in
    record {
      same = read_joined old mid new inv.same made.same;
      later = omega (arith, inv.later, made.later);
      keeps = λ h. keeps_joined old mid new (inv.keeps (made.same.honest h)) (made.unwritten h);
      parts = all_later (HasPart old.sectors) c.deref-part-items.result.now c.loop-place.place inv.parts;
      good = made.good;
      made = λ h.
          let seen = (inv.keeps (made.same.honest h)).seen in
          subst (λ (image : Image). IfSome c.in_ok-best.best (IsMade image c.args.found.now)) seen
          (made.made h (subst (λ (image : Image). IfSome c.loop-place.best (IsMade image c.args.found.now)) (sym seen) (inv.made (made.same.honest h))));
    }
