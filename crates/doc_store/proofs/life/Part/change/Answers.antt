use Rattle.std.proofs.Common.{refl}
use Rattle.doc_machine.specs.Transaction.{transaction_of}
use Rattle.store_commits.proofs.Modelled.{both_models}
use Rattle.doc_store.proofs.Single.{ran_no_memory}
use Rattle.doc_store.proofs.life.Part.change.Goals as goal

pub returns-in_default-clause-ran : goal.returns-in_default-clause-ran
returns-in_default-clause-ran g c =
    ran_no_memory g.D.SectorDevice.disk (both_models g.D.SectorDevice.disk g.met.D.SectorDevice.coherent g.met.D.SectorDevice.torn_coherent) c.args.store.now c.args.store.now (transaction_of c.args.transaction) c.plain.result refl c.plain.ensures c.requires.standing
