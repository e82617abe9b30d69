use Rattle.std.proofs.Common.{sym}
use Rattle.store_commits.specs.Copying.{copy_of, target_of}
use Rattle.store_commits.proofs.Modelled.{both_models}
use Rattle.doc_store.proofs.Formats.{still_images}
use Rattle.doc_store.proofs.store.Store.know_images.Goals as goal

pub returns-clause-still : goal.returns-clause-still
returns-clause-still g c = rw (← c.self.view_is) (λ honest works.
    let journal = c.self.inside.journal in
    still_images g.D.SectorDevice.disk journal c.self.inside.machine (copy_of (target_of c.self.inside.copy)) c.self.invariant.held
    (both_models g.D.SectorDevice.disk g.met.D.SectorDevice.coherent g.met.D.SectorDevice.torn_coherent journal.rides journal.device) works honest)
