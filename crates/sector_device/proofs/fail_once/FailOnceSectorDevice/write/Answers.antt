use Rattle.std.proofs.Common.{refl}
use Rattle.sector_device.proofs.FailedOnce.{not_yet, called, untouched, other_counts, other_fails, due_counts, due_fails, writes_too, writes_err, writes_none}
use Rattle.sector_device.proofs.Tearing.{tears_too, tears_none}
use Rattle.sector_device.proofs.fail_once.FailOnceSectorDevice.write.Goals as goal

pub returns-then-not-is_due-clause-counts : goal.returns-then-not-is_due-clause-counts
returns-then-not-is_due-clause-counts g c = other_counts _ _ _ _ c.write.result c.args.self.now.unlimited (c.if-not-is_due.ensures.other refl).1 c.write.ensures.counts

pub returns-then-not-is_due-clause-writes : goal.returns-then-not-is_due-clause-writes
returns-then-not-is_due-clause-writes g c = λ h. writes_too _ _ c.args.self.now.failed c.is_due.new.failed c.args.at c.args.from.now c.write.result (c.write.ensures.writes h)

pub returns-then-not-is_due-clause-fails : goal.returns-then-not-is_due-clause-fails
returns-then-not-is_due-clause-fails g c = other_fails c.args.self.now _ c.write.result (c.is_due.ensures.counted, refl) (c.if-not-is_due.ensures.other refl).0 c.write.ensures.counts

pub returns-then-not-is_due-clause-passed : goal.returns-then-not-is_due-clause-passed
returns-then-not-is_due-clause-passed g c = λ due pass. absurd ((c.if-not-is_due.ensures.other refl).0 due)

pub returns-then-self-clause-counts : goal.returns-then-self-clause-counts
returns-then-self-clause-counts g c =
    let due = c.if-not-is_due.ensures.due refl in
    due_counts _ _ _ _ _ (not_yet c.args.self.now.failed c.args.self.now.left c.args.self.now.once due.0) due.1 (called _ _ c.write-then-self.result c.write-then-self.ensures.counts)

pub returns-then-self-clause-writes : goal.returns-then-self-clause-writes
returns-then-self-clause-writes g c = λ h. writes_too _ _ c.args.self.now.failed c.is_due.new.failed c.args.at c.args.from.now _ (writes_err _ _ c.args.at c.args.from.now c.write-then-self.result _ (c.write-then-self.ensures.writes h))

pub returns-then-self-clause-fails : goal.returns-then-self-clause-fails
returns-then-self-clause-fails g c = due_fails c.args.self.now _ _ (c.is_due.ensures.counted, refl) (c.if-not-is_due.ensures.due refl).0 (λ withheld. absurd (cc (c.if-self.true, withheld)))

pub returns-then-self-clause-passed : goal.returns-then-self-clause-passed
returns-then-self-clause-passed g c = λ due pass. (c.write-then-self.result, c.write-then-self.ensures.counts, c.write-then-self.ensures.writes)

pub returns-else-self-clause-counts : goal.returns-else-self-clause-counts
returns-else-self-clause-counts g c =
    let due = c.if-not-is_due.ensures.due refl in
    due_counts _ _ _ _ _ (not_yet c.args.self.now.failed c.args.self.now.left c.args.self.now.once due.0) due.1 (untouched (g.D.SectorDevice.disk c.args.self.now.device))

pub returns-else-self-clause-writes : goal.returns-else-self-clause-writes
returns-else-self-clause-writes g c = λ h. writes_too _ _ c.args.self.now.failed c.is_due.new.failed c.args.at c.args.from.now _ (writes_none (g.D.SectorDevice.disk c.args.self.now.device) c.args.at c.args.from.now _ h)

pub returns-else-self-clause-fails : goal.returns-else-self-clause-fails
returns-else-self-clause-fails g c = due_fails c.args.self.now _ _ (c.is_due.ensures.counted, refl) (c.if-not-is_due.ensures.due refl).0 (λ withheld. refl)

pub returns-else-self-clause-passed : goal.returns-else-self-clause-passed
returns-else-self-clause-passed g c = λ due pass. absurd (cc (c.if-self.false, pass))

pub returns-then-not-is_due-clause-torn : goal.returns-then-not-is_due-clause-torn
returns-then-not-is_due-clause-torn g c = λ torn h. tears_too torn (g.D.SectorDevice.disk c.args.self.now.device) (g.D.SectorDevice.disk c.write.new.self) c.args.self.now.failed c.is_due.new.failed c.args.at c.args.from.now (c.write.ensures.torn torn h)

pub returns-then-self-clause-torn : goal.returns-then-self-clause-torn
returns-then-self-clause-torn g c = λ torn h. tears_too torn (g.D.SectorDevice.disk c.args.self.now.device) (g.D.SectorDevice.disk c.write-then-self.new.self) c.args.self.now.failed c.is_due.new.failed c.args.at c.args.from.now (c.write-then-self.ensures.torn torn h)

pub returns-else-self-clause-torn : goal.returns-else-self-clause-torn
returns-else-self-clause-torn g c = λ torn h. tears_too torn (g.D.SectorDevice.disk c.args.self.now.device) (g.D.SectorDevice.disk c.args.self.now.device) c.args.self.now.failed c.is_due.new.failed c.args.at c.args.from.now (tears_none torn (g.D.SectorDevice.disk c.args.self.now.device) c.args.at c.args.from.now)
