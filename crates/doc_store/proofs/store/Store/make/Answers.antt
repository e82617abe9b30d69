use Rattle.std.proofs.Common.{◌≡◌, IfOk, OnErr, map, subst}
use Rattle.doc_machine.specs.Transaction.{transaction_of}
use Rattle.store_commits.specs.Account.{StoreView}
use Rattle.store_commits.specs.Copying.{target_of}
use Rattle.store_commits.specs.Given.{GivesBack}
use Rattle.store_commits.specs.Inside.{store_view}
use Rattle.store_commits.specs.Run.{Batched}
use Rattle.store_commits.proofs.Standing.{standing}
use Rattle.doc_store.proofs.store.Store.make.Goals as goal

pub returns-clause-batched : goal.returns-clause-batched
returns-clause-batched g c =
    let new = c.commit_batch.new in
    let now = store_view new.journal new.machine (target_of new.copy) in
    subst (λ (v : StoreView g.row.D.Denot). IfOk c.commit_batch.result (λ committed. Batched g.D.SectorDevice.disk v now (map transaction_of c.args.transactions.items) committed.replies.items)) c.self.view_is c.commit_batch.ensures.batched

pub returns-clause-frames : goal.returns-clause-frames
returns-clause-frames g c =
    subst (λ (v : StoreView g.row.D.Denot). IfOk c.commit_batch.result (GivesBack v.account (map transaction_of c.args.transactions.items))) c.self.view_is c.commit_batch.ensures.frames

pub returns-clause-memory : goal.returns-clause-memory
returns-clause-memory g c =
    let new = c.commit_batch.new in
    let now = store_view new.journal new.machine (target_of new.copy) in
    subst (λ (v : StoreView g.row.D.Denot). OnErr c.commit_batch.result (now ≡ v)) c.self.view_is c.commit_batch.ensures.memory

pub returns-clause-standing : goal.returns-clause-standing
returns-clause-standing g c =
    let new = c.commit_batch.new in
    standing (g.D.SectorDevice.disk new.journal.device) new.journal new.machine c.commit_batch.ensures.stored.held
