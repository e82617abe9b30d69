use Rattle.std.proofs.Common.{refl}
use Rattle.sector_device.proofs.Refused.{spent_counts}
use Rattle.sector_device.proofs.Tearing.{reads_fused}
use Rattle.sector_device.proofs.fuse.FuseSectorDevice.read.Goals as goal

pub returns-then-not-takes_call-clause-counts : goal.returns-then-not-takes_call-clause-counts
returns-then-not-takes_call-clause-counts g c = spent_counts g.D.SectorDevice.disk c.args.self.now _ _ refl (c.if-not-takes_call.ensures.spent refl)

pub returns-clause-torn : goal.returns-clause-torn
returns-clause-torn g c = λ torn h. reads_fused g.D.SectorDevice.disk c.args.self.now _ torn c.args.at c.read.new.into c.read.result (c.read.ensures.torn torn h)
