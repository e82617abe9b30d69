use Rattle.store_commits.proofs.Modelled.{both_models}
use Rattle.doc_store.proofs.Counting.{still_carried}
use Rattle.doc_store.proofs.settling.settle.Goals as goal

-- the device was not called
pub returns-then-not-has_number-clause-any_moment : goal.returns-then-not-has_number-clause-any_moment
returns-then-not-has_number-clause-any_moment g c =
    let disk = g.D.SectorDevice.disk in
    let journal = c.args.journal.now in
    still_carried disk journal journal c.args.bytes.now c.args.machine.now c.requires.size c.requires.bytes
    (both_models disk g.met.D.SectorDevice.coherent g.met.D.SectorDevice.torn_coherent journal.rides journal.device) c.know.ensures c.requires.works
