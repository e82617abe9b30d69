use Rattle.std.proofs.Common.{refl}
use Rattle.sector_device.specs.Disk.{tearing}
use Rattle.sector_device.proofs.FailedOnce.{not_yet, called, untouched, other_counts, other_fails, due_counts, due_fails, reads_too, reads_err, reads_none}
use Rattle.sector_device.proofs.fail_once.FailOnceSectorDevice.read.Goals as goal

pub returns-then-not-is_due-clause-counts : goal.returns-then-not-is_due-clause-counts
returns-then-not-is_due-clause-counts g c = other_counts _ _ _ _ c.read.result c.args.self.now.unlimited (c.if-not-is_due.ensures.other refl).1 c.read.ensures.counts

pub returns-then-not-is_due-clause-reads : goal.returns-then-not-is_due-clause-reads
returns-then-not-is_due-clause-reads g c = λ h. reads_too _ _ c.args.self.now.failed c.is_due.new.failed c.args.at c.read.new.into c.read.result (c.read.ensures.reads h)

pub returns-then-not-is_due-clause-stays : goal.returns-then-not-is_due-clause-stays
returns-then-not-is_due-clause-stays g c = c.read.ensures.stays

pub returns-then-not-is_due-clause-honest : goal.returns-then-not-is_due-clause-honest
returns-then-not-is_due-clause-honest g c = λ stays. (stays, c.read.ensures.counts.honest)

pub returns-then-not-is_due-clause-fails : goal.returns-then-not-is_due-clause-fails
returns-then-not-is_due-clause-fails g c = other_fails c.args.self.now _ c.read.result (c.is_due.ensures.counted, refl) (c.if-not-is_due.ensures.other refl).0 c.read.ensures.counts

pub returns-then-not-is_due-clause-passed : goal.returns-then-not-is_due-clause-passed
returns-then-not-is_due-clause-passed g c = λ due pass. absurd ((c.if-not-is_due.ensures.other refl).0 due)

pub returns-then-self-clause-counts : goal.returns-then-self-clause-counts
returns-then-self-clause-counts g c =
    let due = c.if-not-is_due.ensures.due refl in
    due_counts _ _ _ _ _ (not_yet c.args.self.now.failed c.args.self.now.left c.args.self.now.once due.0) due.1 (called _ _ c.read-then-self.result c.read-then-self.ensures.counts)

pub returns-then-self-clause-reads : goal.returns-then-self-clause-reads
returns-then-self-clause-reads g c = λ h. reads_too _ _ c.args.self.now.failed c.is_due.new.failed c.args.at c.read-then-self.new.into _ (reads_err _ _ c.args.at c.read-then-self.new.into c.read-then-self.result _ (c.read-then-self.ensures.reads h))

pub returns-then-self-clause-honest : goal.returns-then-self-clause-honest
returns-then-self-clause-honest g c = λ stays. (stays, c.read-then-self.ensures.counts.honest)

pub returns-then-self-clause-fails : goal.returns-then-self-clause-fails
returns-then-self-clause-fails g c = due_fails c.args.self.now _ _ (c.is_due.ensures.counted, refl) (c.if-not-is_due.ensures.due refl).0 (λ withheld. absurd (cc (c.if-self.true, withheld)))

pub returns-then-self-clause-passed : goal.returns-then-self-clause-passed
returns-then-self-clause-passed g c = λ due pass. (c.read-then-self.result, c.read-then-self.ensures.counts, c.read-then-self.ensures.reads)

pub returns-else-self-clause-counts : goal.returns-else-self-clause-counts
returns-else-self-clause-counts g c =
    let due = c.if-not-is_due.ensures.due refl in
    due_counts _ _ _ _ _ (not_yet c.args.self.now.failed c.args.self.now.left c.args.self.now.once due.0) due.1 (untouched (g.D.SectorDevice.disk c.args.self.now.device))

pub returns-else-self-clause-reads : goal.returns-else-self-clause-reads
returns-else-self-clause-reads g c = λ h. reads_too _ _ c.args.self.now.failed c.is_due.new.failed c.args.at c.args.into.now _ (reads_none (g.D.SectorDevice.disk c.args.self.now.device) c.args.at c.args.into.now _)

pub returns-else-self-clause-honest : goal.returns-else-self-clause-honest
returns-else-self-clause-honest g c = λ stays. (stays, λ h. h)

pub returns-else-self-clause-fails : goal.returns-else-self-clause-fails
returns-else-self-clause-fails g c = due_fails c.args.self.now _ _ (c.is_due.ensures.counted, refl) (c.if-not-is_due.ensures.due refl).0 (λ withheld. refl)

pub returns-else-self-clause-passed : goal.returns-else-self-clause-passed
returns-else-self-clause-passed g c = λ due pass. absurd (cc (c.if-self.false, pass))

pub returns-then-not-is_due-clause-torn : goal.returns-then-not-is_due-clause-torn
returns-then-not-is_due-clause-torn g c = λ torn h. reads_too (tearing torn (g.D.SectorDevice.disk c.args.self.now.device)) (tearing torn (g.D.SectorDevice.disk c.read.new.self)) c.args.self.now.failed c.is_due.new.failed c.args.at c.read.new.into c.read.result (c.read.ensures.torn torn h)

pub returns-then-self-clause-torn : goal.returns-then-self-clause-torn
returns-then-self-clause-torn g c = λ torn h.
    reads_too (tearing torn (g.D.SectorDevice.disk c.args.self.now.device)) (tearing torn (g.D.SectorDevice.disk c.read-then-self.new.self)) c.args.self.now.failed c.is_due.new.failed c.args.at c.read-then-self.new.into _
    (reads_err (tearing torn (g.D.SectorDevice.disk c.args.self.now.device)) (tearing torn (g.D.SectorDevice.disk c.read-then-self.new.self)) c.args.at c.read-then-self.new.into c.read-then-self.result _ (c.read-then-self.ensures.torn torn h))

pub returns-else-self-clause-torn : goal.returns-else-self-clause-torn
returns-else-self-clause-torn g c = λ torn h. reads_too (tearing torn (g.D.SectorDevice.disk c.args.self.now.device)) (tearing torn (g.D.SectorDevice.disk c.args.self.now.device)) c.args.self.now.failed c.is_due.new.failed c.args.at c.args.into.now _ (reads_none (tearing torn (g.D.SectorDevice.disk c.args.self.now.device)) c.args.at c.args.into.now _)
