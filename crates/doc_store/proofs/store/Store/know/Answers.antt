use Rattle.store_commits.specs.Copying.{copy_of, target_of}
use Rattle.store_commits.proofs.Modelled.{both_models}
use Rattle.store_commits.proofs.Extents.{standing_as}
use Rattle.doc_store.proofs.store.Store.know.Goals as goal

pub returns-clause-stands_as : goal.returns-clause-stands_as
returns-clause-stands_as g c =
    let journal = c.self.inside.journal in
    rw (← c.self.view_is) (standing_as (g.D.SectorDevice.disk journal.device) journal c.self.inside.machine (copy_of (target_of c.self.inside.copy)) (both_models g.D.SectorDevice.disk g.met.D.SectorDevice.coherent g.met.D.SectorDevice.torn_coherent journal.rides journal.device) c.self.invariant.held)
