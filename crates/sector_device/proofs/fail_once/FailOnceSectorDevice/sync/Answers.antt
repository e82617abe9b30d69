use Rattle.std.proofs.Common.{refl}
use Rattle.sector_device.specs.Disk.{tearing}
use Rattle.sector_device.proofs.FailedOnce.{not_yet, called, untouched, other_counts, other_fails, due_counts, due_fails, syncs_too, syncs_err, syncs_none}
use Rattle.sector_device.proofs.fail_once.FailOnceSectorDevice.sync.Goals as goal

pub returns-then-not-is_due-clause-counts : goal.returns-then-not-is_due-clause-counts
returns-then-not-is_due-clause-counts g c = other_counts _ _ _ _ c.sync.result c.args.self.now.unlimited (c.if-not-is_due.ensures.other refl).1 c.sync.ensures.counts

pub returns-then-not-is_due-clause-syncs : goal.returns-then-not-is_due-clause-syncs
returns-then-not-is_due-clause-syncs g c = λ h. syncs_too _ _ c.args.self.now.failed c.is_due.new.failed c.sync.result (c.sync.ensures.syncs h)

pub returns-then-not-is_due-clause-fails : goal.returns-then-not-is_due-clause-fails
returns-then-not-is_due-clause-fails g c = other_fails c.args.self.now _ c.sync.result (c.is_due.ensures.counted, refl) (c.if-not-is_due.ensures.other refl).0 c.sync.ensures.counts

pub returns-then-not-is_due-clause-passed : goal.returns-then-not-is_due-clause-passed
returns-then-not-is_due-clause-passed g c = λ due pass. absurd ((c.if-not-is_due.ensures.other refl).0 due)

pub returns-then-self-clause-counts : goal.returns-then-self-clause-counts
returns-then-self-clause-counts g c =
    let due = c.if-not-is_due.ensures.due refl in
    due_counts _ _ _ _ _ (not_yet c.args.self.now.failed c.args.self.now.left c.args.self.now.once due.0) due.1 (called _ _ c.sync-then-self.result c.sync-then-self.ensures.counts)

pub returns-then-self-clause-syncs : goal.returns-then-self-clause-syncs
returns-then-self-clause-syncs g c = λ h. syncs_too _ _ c.args.self.now.failed c.is_due.new.failed _ (syncs_err _ _ c.sync-then-self.result _ (c.sync-then-self.ensures.syncs h))

pub returns-then-self-clause-fails : goal.returns-then-self-clause-fails
returns-then-self-clause-fails g c = due_fails c.args.self.now _ _ (c.is_due.ensures.counted, refl) (c.if-not-is_due.ensures.due refl).0 (λ withheld. absurd (cc (c.if-self.true, withheld)))

pub returns-then-self-clause-passed : goal.returns-then-self-clause-passed
returns-then-self-clause-passed g c = λ due pass. (c.sync-then-self.result, c.sync-then-self.ensures.counts, c.sync-then-self.ensures.syncs)

pub returns-else-self-clause-counts : goal.returns-else-self-clause-counts
returns-else-self-clause-counts g c =
    let due = c.if-not-is_due.ensures.due refl in
    due_counts _ _ _ _ _ (not_yet c.args.self.now.failed c.args.self.now.left c.args.self.now.once due.0) due.1 (untouched (g.D.SectorDevice.disk c.args.self.now.device))

pub returns-else-self-clause-syncs : goal.returns-else-self-clause-syncs
returns-else-self-clause-syncs g c = λ h. syncs_too _ _ c.args.self.now.failed c.is_due.new.failed _ (syncs_none (g.D.SectorDevice.disk c.args.self.now.device) _ h)

pub returns-else-self-clause-fails : goal.returns-else-self-clause-fails
returns-else-self-clause-fails g c = due_fails c.args.self.now _ _ (c.is_due.ensures.counted, refl) (c.if-not-is_due.ensures.due refl).0 (λ withheld. refl)

pub returns-else-self-clause-passed : goal.returns-else-self-clause-passed
returns-else-self-clause-passed g c = λ due pass. absurd (cc (c.if-self.false, pass))

pub returns-then-not-is_due-clause-torn : goal.returns-then-not-is_due-clause-torn
returns-then-not-is_due-clause-torn g c = λ torn h. syncs_too (tearing torn (g.D.SectorDevice.disk c.args.self.now.device)) (tearing torn (g.D.SectorDevice.disk c.sync.new.self)) c.args.self.now.failed c.is_due.new.failed c.sync.result (c.sync.ensures.torn torn h)

pub returns-then-self-clause-torn : goal.returns-then-self-clause-torn
returns-then-self-clause-torn g c = λ torn h. syncs_too (tearing torn (g.D.SectorDevice.disk c.args.self.now.device)) (tearing torn (g.D.SectorDevice.disk c.sync-then-self.new.self)) c.args.self.now.failed c.is_due.new.failed _ (syncs_err (tearing torn (g.D.SectorDevice.disk c.args.self.now.device)) (tearing torn (g.D.SectorDevice.disk c.sync-then-self.new.self)) c.sync-then-self.result _ (c.sync-then-self.ensures.torn torn h))

pub returns-else-self-clause-torn : goal.returns-else-self-clause-torn
returns-else-self-clause-torn g c = λ torn h. syncs_too (tearing torn (g.D.SectorDevice.disk c.args.self.now.device)) (tearing torn (g.D.SectorDevice.disk c.args.self.now.device)) c.args.self.now.failed c.is_due.new.failed _ (syncs_none (tearing torn (g.D.SectorDevice.disk c.args.self.now.device)) _ h)
