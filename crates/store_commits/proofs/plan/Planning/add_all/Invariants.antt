use Rattle.std.proofs.Common.{◌≡◌, ◌++◌, [], List, map}
use Rattle.std.specs.Vec.Iter.{into_iter_items}
use Rattle.doc_machine.specs.Trial.{state_at}
use Rattle.doc_machine.specs.Transaction.{transaction_of}
use Rattle.store_commits.specs.Account.{Account}
use Rattle.store_commits.specs.Batch.{Slot, asked}
use Rattle.store_commits.specs.Inside.{IsPlanning}
use Rattle.store_commits.proofs.plan.Planning.add_all.Given as goal

abbrev pub invariant-loop-transaction : goal.invariant-loop-transaction
invariant-loop-transaction l = record {
  planned : (a : Account) → IsPlanning a [] l.fn.self l.fn.trial
      → (slots : List Slot) × (asked slots ≡ map transaction_of l.yielded) × IsPlanning a slots l.self l.trial;
  origin : state_at 0 l.trial ≡ state_at 0 l.fn.trial;
  left : l.fn.transactions.items ≡ l.yielded ++ into_iter_items l.transaction-iterator;
}
