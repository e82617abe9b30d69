use Rattle.std.proofs.Common.{refl, ap, map}
use Rattle.std.proofs.lemmas.Result.{err_from_is_err_and}
use Rattle.doc_machine.specs.Transaction.{transaction_of}
use Rattle.store_commits.proofs.Modelled.{both_models}
use Rattle.doc_store.proofs.Single.{alone_ran, alone_transacts, alone_unchanged, answer_alone, ran_no_memory}
use Rattle.doc_store.proofs.store.Store.change.Goals as goal

pub returns-in_err-alone-clause-ran : goal.returns-in_err-alone-clause-ran
returns-in_err-alone-clause-ran g c =
    let p = err_from_is_err_and c.from_residual.result c.from_residual.ensures.1 in
    rw (p.1, p.2) (ran_no_memory g.D.SectorDevice.disk (both_models g.D.SectorDevice.disk g.met.D.SectorDevice.coherent g.met.D.SectorDevice.torn_coherent) c.args.self.now c.args.self.now (transaction_of c.args.transaction) _ refl refl c.know.ensures.standing)

pub returns-in_err-replies-clause-ran : goal.returns-in_err-replies-clause-ran
returns-in_err-replies-clause-ran g c =
    let p = err_from_is_err_and c.from_residual-in_err-replies.result c.from_residual-in_err-replies.ensures.1 in
    rw (p.1, p.2) (ran_no_memory g.D.SectorDevice.disk (both_models g.D.SectorDevice.disk g.met.D.SectorDevice.coherent g.met.D.SectorDevice.torn_coherent) c.args.self.now c.transact_batch.new.self (transaction_of c.args.transaction) _ c.in_err-replies.ensures.memory.1 c.in_err-replies.ensures.memory.0
    c.know.ensures.standing)

-- ---- the batch

pub only_answer-requires : goal.only_answer-requires
only_answer-requires g c =
    answer_alone g.D.SectorDevice.disk c.args.self.now c.transact_batch.new.self (transaction_of c.args.transaction) (map transaction_of c.in_ok-alone.field-0.items) c.in_ok-replies.replies.items
    (ap (map transaction_of) c.in_ok-alone.ensures) c.in_ok-replies.ensures.batched

pub returns : goal.returns
returns g c =
    let disk = g.D.SectorDevice.disk in
    let new = c.transact_batch.new.self in
    let t = transaction_of c.args.transaction in
    let ts = map transaction_of c.in_ok-alone.field-0.items in
    let rs = c.in_ok-replies.replies.items in
    let only = ap (map transaction_of) c.in_ok-alone.ensures in
    let batched = c.in_ok-replies.ensures.batched in
    let r = c.only_answer.result in
    let is = c.only_answer.ensures in
    record {
      answer = alone_transacts disk c.args.self.now new t ts rs only batched r is;
      ran = alone_ran disk c.args.self.now new t ts rs only batched r is;
      standing = c.transact_batch.ensures.standing;
      unchanged = alone_unchanged disk c.args.self.now new t ts rs only batched r is;
      good = c.transact_batch.ensures.good;
    }
