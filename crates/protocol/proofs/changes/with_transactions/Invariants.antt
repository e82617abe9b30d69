use Rattle.std.proofs.Common.{List}
use Rattle.std.specs.VecDeque.Iter.{deque_iter_rest}
use Rattle.doc_machine.specs.Transaction.{Transaction}
use Rattle.protocol.specs.Changes.{AreToldFrom}
use Rattle.protocol.proofs.Told.{TellsOn}
use Rattle.protocol.proofs.changes.with_transactions.Given as goal

abbrev pub invariant-loop-transaction : goal.invariant-loop-transaction
invariant-loop-transaction l =
    let rest = deque_iter_rest l.transaction-iterator in record {
      can_next : goal.iterator-loop-transaction.can_next l.transaction-iterator;
      is_finite : goal.iterator-loop-transaction.is_finite l.transaction-iterator;
      left : (ts : List Transaction) × AreToldFrom l.before rest ts;
      line : (ts : List Transaction) → AreToldFrom l.fn.from (deque_iter_rest l.fn.told) ts → TellsOn l.fn.from ts l.fn.line.items l.longer.items l.later l.before rest;
    }
