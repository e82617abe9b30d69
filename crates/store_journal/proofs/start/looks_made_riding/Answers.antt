use Rattle.std.proofs.Common.{None, Some, ◌∙◌}
use Rattle.sector_device.specs.Disk.{tearing}
use Rattle.sector_device.proofs.Charges.{charges_joined, made_one}
use Rattle.slot_commits.proofs.Puts.{keeps_synced}
use Rattle.store_journal.proofs.Formats.{always_ok, keeps_joined}
use Rattle.store_journal.proofs.Weak.{weak_keeps}
use Rattle.store_journal.proofs.start.looks_made_riding.Goals as goal

pub returns-clause-charges : goal.returns-clause-charges
returns-clause-charges g c =
    let disk = g.D.SectorDevice.disk in
    charges_joined (disk c.args.device.now) (disk c.sync.new.self) (disk c.looks_made.new.device) 1 4 c.looks_made.result (made_one (disk c.args.device.now) (disk c.sync.new.self) _ c.in_ok-sync.ensures.counts) c.looks_made.ensures.charges

pub returns-clause-images : goal.returns-clause-images
returns-clause-images g c = λ honest.
    let disk = g.D.SectorDevice.disk in
    let old_honest = c.sync.ensures.counts.honest (c.looks_made.ensures.same.honest honest) in
    keeps_joined (disk c.args.device.now) (disk c.sync.new.self) (disk c.looks_made.new.device)
    (keeps_synced None (disk c.args.device.now) (disk c.sync.new.self) c.sync.result (g.met.D.SectorDevice.coherent c.args.device.now old_honest) (c.sync.ensures.syncs old_honest)) (c.looks_made.ensures.keeps None honest)

pub returns-clause-alone : goal.returns-clause-alone
returns-clause-alone g c = λ honest.
    let old_honest = c.sync.ensures.counts.honest (c.looks_made.ensures.same.honest honest) in
    always_ok c.looks_made.result (λ image left. (c.in_ok-sync.ensures.torn left.0 old_honest).settled image ((c.looks_made.ensures.keeps (Some left.0) honest).left image left.2))

pub returns-clause-torn : goal.returns-clause-torn
returns-clause-torn g c = λ honest.
    let disk = g.D.SectorDevice.disk in
    let old = disk c.args.device.now in
    let mid = disk c.sync.new.self in
    let new = disk c.looks_made.new.device in
    let old_honest = c.sync.ensures.counts.honest (c.looks_made.ensures.same.honest honest) in
    weak_keeps old new (c.looks_made.ensures.same.size ∙ c.sync.ensures.counts.size)
    (((c.looks_made.ensures.keeps None honest).seen ∙ (c.sync.ensures.syncs old_honest).seen))
    (λ torn told.
    keeps_joined (tearing torn old) (tearing torn mid) (tearing torn new)
    (keeps_synced (Some torn) old mid c.sync.result (g.met.D.SectorDevice.torn_coherent c.args.device.now old_honest torn).coherent (c.sync.ensures.torn torn old_honest)) (c.looks_made.ensures.keeps (Some torn) honest))

pub returns-in_err-sync-clause-torn : goal.returns-in_err-sync-clause-torn
returns-in_err-sync-clause-torn g c = λ honest.
    let disk = g.D.SectorDevice.disk in
    let old = disk c.args.device.now in
    let new = disk c.sync.new.self in
    let old_honest = c.sync.ensures.counts.honest honest in
    weak_keeps old new c.sync.ensures.counts.size (c.sync.ensures.syncs old_honest).seen
    (λ torn told. keeps_synced (Some torn) old new c.sync.result (g.met.D.SectorDevice.torn_coherent c.args.device.now old_honest torn).coherent (c.sync.ensures.torn torn old_honest))
