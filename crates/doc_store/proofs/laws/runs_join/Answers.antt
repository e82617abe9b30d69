use Rattle.store_commits.proofs.Modelled.{both_models}
use Rattle.store_commits.proofs.Running.{ran_joined, ran_nothing}
use Rattle.doc_store.proofs.laws.runs_join.Goals as goal

pub returns : goal.returns
returns g c = record { none = ran_nothing g.D.SectorDevice.disk (both_models g.D.SectorDevice.disk g.met.D.SectorDevice.coherent g.met.D.SectorDevice.torn_coherent); joined = ran_joined g.D.SectorDevice.disk (both_models g.D.SectorDevice.disk g.met.D.SectorDevice.coherent g.met.D.SectorDevice.torn_coherent) }
