use Rattle.std.proofs.Common.{List, map, ap, subst}
use Rattle.doc_machine.specs.Transaction.{Transaction, transaction_of}
use Rattle.store_commits.specs.Batch.{changes}
use Rattle.store_commits.specs.Run.{Batched}
use Rattle.recorded_store.specs.Recorded.{Records, recorded_of}
use Rattle.serve_lines.proofs.batch.change_all.Goals as goal

pub returns-clause-made : goal.returns-clause-made
returns-clause-made g c =
    subst (λ (l : List Transaction). Batched g.D.SectorDevice.disk c.args.store.now.store c.transact_batch.new.self.store l c.in_ok-said.said.items) (ap (λ v. map transaction_of v.items) c.replace-transactions.ensures.value) c.in_ok-said.ensures.batched

pub returns-clause-recorded : goal.returns-clause-recorded
returns-clause-recorded g c =
    subst (λ (l : List Transaction). Records (recorded_of c.args.store.now) (changes l) c.in_ok-said.said.items (recorded_of c.transact_batch.new.self)) (ap (λ v. map transaction_of v.items) c.replace-transactions.ensures.value) c.in_ok-said.ensures.recorded
