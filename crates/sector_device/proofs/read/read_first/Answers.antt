use Rattle.std.proofs.Common.{◌∙◌, ap, arith, get_or, [], Result}
use Rattle.std.proofs.lemmas.Result.{IfOk-from_err, on_ok_weaker}
use Rattle.sector_device.specs.Disk.{Disk, Image, IsCoherent, Syncs, tearing}
use Rattle.sector_device.specs.Sectors.{KeepsImages}
use Rattle.sector_device.proofs.Charges.{made_one, failed_one, failed_more, charges_err, charges_one, charges_joined, read_one, read_joined}
use Rattle.sector_device.proofs.Moments.{started, goes_on}
use Rattle.sector_device.proofs.Reading.{keeps_more}
use Rattle.sector_device.proofs.read.read_first.Goals as goal

-- a sync keeps the images
synced : {T E : Type 0} (old new : Disk) (result : Result T E) → IsCoherent old → Syncs old new result → KeepsImages old new
synced old new result coherent syncs = record {
  seen = syncs.seen;
  left = syncs.adds_none;
  any_moment = goes_on old old new old.left (started old old.left coherent (λ image left. left)) syncs.time syncs.adds_none;
}

pub returns-in_err-sync-clause-same : goal.returns-in_err-sync-clause-same
returns-in_err-sync-clause-same g c = read_one _ _ c.sync.result c.sync.ensures.counts

pub returns-in_err-sync-clause-charges : goal.returns-in_err-sync-clause-charges
returns-in_err-sync-clause-charges g c = charges_err _ _ 2 c.from_residual.result c.from_residual.ensures.0 (failed_more _ _ 1 2 (omega arith) (failed_one _ _ _ c.in_err-sync.ensures.counts))

pub returns-in_err-sync-clause-images : goal.returns-in_err-sync-clause-images
returns-in_err-sync-clause-images g c = λ h. (let before = c.sync.ensures.counts.honest h in synced _ _ c.sync.result (g.met.D.SectorDevice.coherent c.args.device.now before) (c.sync.ensures.syncs before))

pub returns-in_err-sync-clause-first : goal.returns-in_err-sync-clause-first
returns-in_err-sync-clause-first g c = λ h. IfOk-from_err c.from_residual.result _ c.from_residual.ensures.0

pub returns-in_err-sync-clause-settled : goal.returns-in_err-sync-clause-settled
returns-in_err-sync-clause-settled g c = λ h. IfOk-from_err c.from_residual.result _ c.from_residual.ensures.0

pub returns-clause-same : goal.returns-clause-same
returns-clause-same g c = read_joined _ _ _ (read_one _ _ c.sync.result c.sync.ensures.counts) (read_one _ _ c.read.result c.read.ensures.counts)

pub returns-clause-charges : goal.returns-clause-charges
returns-clause-charges g c = charges_joined _ _ _ 1 1 c.read.result (made_one _ _ _ c.in_ok-sync.ensures.counts) (charges_one _ _ c.read.result c.read.ensures.counts)

pub returns-clause-images : goal.returns-clause-images
returns-clause-images g c = λ h.
    (let middle = c.read.ensures.counts.honest h in
    let before = c.sync.ensures.counts.honest middle in
    keeps_more _ _ _ 0 c.read.new.into c.read.result (synced _ _ c.sync.result (g.met.D.SectorDevice.coherent c.args.device.now before) (c.sync.ensures.syncs before)) (c.read.ensures.reads h))

pub returns-clause-first : goal.returns-clause-first
returns-clause-first g c = λ h.
    (let before = c.sync.ensures.counts.honest (c.read.ensures.counts.honest h) in
    on_ok_weaker c.read.result (λ given. given ∙ ap (λ (i : Image). get_or i 0 []) (c.sync.ensures.syncs before).seen) (c.read.ensures.reads h).given)

pub returns-clause-settled : goal.returns-clause-settled
returns-clause-settled g c = λ h.
    (let before = c.sync.ensures.counts.honest (c.read.ensures.counts.honest h) in
    on_ok_weaker c.read.result (λ given image left. (c.in_ok-sync.ensures.syncs before).settled image (((c.read.ensures.reads h).left image).0 left)) (c.read.ensures.reads h).given)

pub returns-in_err-sync-clause-torn : goal.returns-in_err-sync-clause-torn
returns-in_err-sync-clause-torn g c = λ torn h. (let before = c.sync.ensures.counts.honest h in synced (tearing torn (g.D.SectorDevice.disk c.args.device.now)) (tearing torn (g.D.SectorDevice.disk c.sync.new.self)) c.sync.result (g.met.D.SectorDevice.torn_coherent c.args.device.now before torn).coherent (c.sync.ensures.torn torn before))

pub returns-in_err-sync-clause-torn_settled : goal.returns-in_err-sync-clause-torn_settled
returns-in_err-sync-clause-torn_settled g c = λ torn h. IfOk-from_err c.from_residual.result _ c.from_residual.ensures.0

pub returns-clause-torn : goal.returns-clause-torn
returns-clause-torn g c = λ torn h.
    (let middle = c.read.ensures.counts.honest h in
    let before = c.sync.ensures.counts.honest middle in
    keeps_more (tearing torn (g.D.SectorDevice.disk c.args.device.now)) (tearing torn (g.D.SectorDevice.disk c.sync.new.self)) (tearing torn (g.D.SectorDevice.disk c.read.new.self)) 0 c.read.new.into c.read.result (synced (tearing torn (g.D.SectorDevice.disk c.args.device.now)) (tearing torn (g.D.SectorDevice.disk c.sync.new.self)) c.sync.result (g.met.D.SectorDevice.torn_coherent c.args.device.now before torn).coherent (c.sync.ensures.torn torn before)) (c.read.ensures.torn torn h))

pub returns-clause-torn_settled : goal.returns-clause-torn_settled
returns-clause-torn_settled g c = λ torn h.
    (let before = c.sync.ensures.counts.honest (c.read.ensures.counts.honest h) in
    on_ok_weaker c.read.result (λ given image left. (c.in_ok-sync.ensures.torn torn before).settled image (((c.read.ensures.torn torn h).left image).0 left)) (c.read.ensures.reads h).given)
