use Rattle.std.proofs.Common.{◌<◌, arith}
use Rattle.sector_device.proofs.Charges.{read_joined}
use Rattle.damaged_files.proofs.Listed.{heard_more, within_more}
use Rattle.damaged_files.proofs.examined.unread_sectors.Goals as goal

pub loop-at-preserved : goal.loop-at-preserved
loop-at-preserved g c =
    let disk = g.D.SectorDevice.disk in
    let old = disk c.args.device.now in
    let mid = disk c.loop-at.device in
    let new = disk c.with_sector.new.device in
    let inv = c.loop-at.invariant in
    let at = c.loop-at.at in
    let xs = c.loop-at.unread.items in
    let ys = c.in_ok-unread.unread.items in
    let test = c.loop-at-test.true in
    let end = c.sectors-at-end.ensures in
    let lt : at < old.sectors = omega (arith, test, end) in
    record {
      same = read_joined old mid new inv.same c.with_sector.ensures.same;
      later = let more = c.with_sector.ensures.later in omega (arith, inv.later, more);
      within = within_more (λ n. n < old.sectors) xs ys at _ _ c.in_ok-unread.ensures.told inv.within lt;
      heard = heard_more xs ys at old.failures mid.failures new.failures _ c.in_ok-unread.ensures.told inv.heard;
    }
