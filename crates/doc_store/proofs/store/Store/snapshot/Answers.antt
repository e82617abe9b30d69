use Rattle.store_commits.specs.Batch.{to_snapshot}
use Rattle.store_commits.proofs.Modelled.{both_models}
use Rattle.doc_store.proofs.Single.{commits_made, ran_snapshot, snapshot_why}
use Rattle.doc_store.proofs.store.Store.snapshot.Goals as goal

pub returns-clause-made : goal.returns-clause-made
returns-clause-made g c =
    let done = c.write_anew.ensures in
    let x = c.args.self.now in
    let y = c.write_anew.new.self in
    commits_made g.D.SectorDevice.disk x y (to_snapshot x.account) c.write_anew.result done.passed done.failed (snapshot_why x.account y.account c.write_anew.result done.answer) done.uncalled

pub returns-clause-ran : goal.returns-clause-ran
returns-clause-ran g c =
    let done = c.write_anew.ensures in
    ran_snapshot g.D.SectorDevice.disk (both_models g.D.SectorDevice.disk g.met.D.SectorDevice.coherent g.met.D.SectorDevice.torn_coherent) c.args.self.now c.write_anew.new.self c.know.ensures.standing done.honest c.write_anew.result
    done.answer (returns-clause-made g c) done.uncalled done.moments done.moments_err
