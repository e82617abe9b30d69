use Rattle.sector_device.proofs.Moments.{started}
use Rattle.store_journal.specs.Carries.{Carries}
use Rattle.store_journal.specs.JournalView.{carried_of}
use Rattle.store_journal.specs.Models.{model}
use Rattle.store_journal.proofs.Weak.{model_coherent}
use Rattle.store_journal.proofs.journal.Journal.seal.Goals as goal

-- no call was made
pub returns-then-not-has_number-clause-any_moment : goal.returns-then-not-has_number-clause-any_moment
returns-then-not-has_number-clause-any_moment g c = λ honest works.
    let view = c.args.self.now in
    let disk = g.D.SectorDevice.disk view.device in
    started (model view.rides disk) (Carries (carried_of view)) (model_coherent view.rides disk (g.met.D.SectorDevice.coherent view.device honest) (g.met.D.SectorDevice.torn_coherent view.device honest)) (c.is_broken.ensures.kept.carried honest works)
