use Rattle.std.proofs.Common.{◌≡◌, ◌≤◌, ◌+◌, ◌++◌, replicate}
use Rattle.std.specs.VecDeque.{deque_capacity, deque_len}
use Rattle.doc_changes.specs.Refusals.{plain}
use Rattle.protocol.specs.declared.reply.Reply.TheVariants.{Refused}
use Rattle.serve_lines.proofs.batch.refuse.Given as goal

abbrev pub invariant-loop : goal.invariant-loop
invariant-loop l = record {
  ready : l.ready.items ≡ l.fn.ready.items ++ replicate l.counter (Refused (plain l.fn.number));
  len : deque_len l.ready ≡ deque_len l.fn.ready + l.counter;
  room : deque_capacity l.fn.ready ≤ deque_capacity l.ready;
}
