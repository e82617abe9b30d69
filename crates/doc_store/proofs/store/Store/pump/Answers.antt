use Rattle.std.proofs.Common.{ap}
use Rattle.std.proofs.lemmas.Result.{IfErr-weaker}
use Rattle.store_commits.specs.Account.{StoreView}
use Rattle.store_commits.specs.Run.{to_step}
use Rattle.store_commits.proofs.Modelled.{both_models}
use Rattle.doc_store.proofs.Pumps.{step_passed}
use Rattle.doc_store.proofs.Single.{commits_made, ran_step, step_why}
use Rattle.doc_store.proofs.store.Store.pump.Goals as goal

pub returns-clause-made : goal.returns-clause-made
returns-clause-made g c =
    let done = c.copy_more-answer.ensures in
    let disk = g.D.SectorDevice.disk in
    let x = c.args.self.now in
    let y = c.copy_more-answer.new.self in
    let r = c.copy_more-answer.result in
    commits_made disk x y (to_step x.account c.args.max) r (step_passed disk x y c.args.max r done.answer done.made c.know-2.ensures.stands_as) done.failed (step_why x.account y.account c.args.max r done.answer)
    (IfErr-weaker r _ _ (λ q same ne. ap (λ (v : StoreView g.row.D.Denot). v.device) (same ne)) done.unchanged)

pub returns-clause-ran : goal.returns-clause-ran
returns-clause-ran g c =
    let done = c.copy_more-answer.ensures in
    ran_step g.D.SectorDevice.disk (both_models g.D.SectorDevice.disk g.met.D.SectorDevice.coherent g.met.D.SectorDevice.torn_coherent) c.args.self.now c.copy_more-answer.new.self c.know.ensures.standing done.honest c.args.max c.copy_more-answer.result
    done.answer (returns-clause-made g c) done.unchanged done.moments done.moments_err
