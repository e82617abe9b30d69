use Rattle.std.specs.Prelude.{[]}
use Rattle.store_commits.proofs.Modelled.{both_models}
use Rattle.store_commits.proofs.Running.{ran_nothing}
use Rattle.doc_store.proofs.Promised.{run_keeps}
use Rattle.doc_store.proofs.laws.runs_keep_the_promise.Goals as goal

pub returns : goal.returns
returns g c =
    let disk = g.D.SectorDevice.disk in
    record { none = λ x standing. run_keeps disk x x [] [] (ran_nothing disk (both_models g.D.SectorDevice.disk g.met.D.SectorDevice.coherent g.met.D.SectorDevice.torn_coherent) x standing); runs = run_keeps disk }
