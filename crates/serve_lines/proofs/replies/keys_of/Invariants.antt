use Rattle.std.proofs.Common.{◌≡◌, ◌++◌, drop, map}
use Rattle.doc_machine.specs.Transaction.{transaction_of}
use Rattle.serve_lines.specs.LineReplies.{key_in}
use Rattle.serve_lines.specs.Session.{key_of}
use Rattle.serve_lines.proofs.replies.keys_of.Given as goal

abbrev pub invariant-loop-transaction : goal.invariant-loop-transaction
invariant-loop-transaction l =
    map key_in l.keys.items ++ map key_of (map transaction_of (drop l.transaction-index l.transactions)) ≡ map key_of (map transaction_of l.transactions)
