use Rattle.std.proofs.Common.{ap}
use Rattle.std.proofs.lemmas.Result.{IfErr-weaker}
use Rattle.store_commits.specs.Account.{StoreView}
use Rattle.store_commits.specs.Sealing.{to_seal}
use Rattle.store_commits.proofs.Modelled.{both_models}
use Rattle.doc_store.proofs.Seals.{ran_seal, seal_passed, seal_why}
use Rattle.doc_store.proofs.Single.{commits_made}
use Rattle.doc_store.proofs.store.Store.seal.Goals as goal

pub returns-clause-made : goal.returns-clause-made
returns-clause-made g c =
    let done = c.commit_nothing-answer.ensures in
    let disk = g.D.SectorDevice.disk in
    let x = c.args.self.now in
    let y = c.commit_nothing-answer.new.self in
    let r = c.commit_nothing-answer.result in
    commits_made disk x y (to_seal x.account) r (seal_passed disk x y r done.answer done.made c.know-2.ensures.stands_as) done.failed (seal_why x.account y.account r done.answer)
    (IfErr-weaker r _ _ (λ q same ne. ap (λ (v : StoreView g.row.D.Denot). v.device) (same ne)) done.unchanged)

pub returns-clause-ran : goal.returns-clause-ran
returns-clause-ran g c =
    let done = c.commit_nothing-answer.ensures in
    ran_seal g.D.SectorDevice.disk (both_models g.D.SectorDevice.disk g.met.D.SectorDevice.coherent g.met.D.SectorDevice.torn_coherent) c.args.self.now c.commit_nothing-answer.new.self c.know.ensures.standing done.honest c.commit_nothing-answer.result
    done.answer (returns-clause-made g c) done.unchanged done.moments done.moments_err
