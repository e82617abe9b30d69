use Rattle.std.proofs.Common.{◌≡◌, ◌++◌, map}
use Rattle.std.specs.Vec.Iter.{into_iter_items}
use Rattle.record_text.specs.Change.{change_of}
use Rattle.doc_machine.specs.Transaction.{single, transaction_of}
use Rattle.doc_store.proofs.alone.singles.Given as goal

abbrev pub invariant-loop-command : goal.invariant-loop-command
invariant-loop-command l = record {
  made : map transaction_of l.transactions.items ≡ map (λ c. single (change_of c)) l.yielded;
  left : l.fn.commands.items ≡ l.yielded ++ into_iter_items l.command-iterator;
}
