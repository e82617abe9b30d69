use Rattle.std.proofs.Common.{◌≡◌, ◌++◌, drop, map}
use Rattle.record_text.specs.Change.{change_of}
use Rattle.doc_machine.proofs.transaction.copy_all.Given as goal

abbrev pub invariant-loop-command : goal.invariant-loop-command
invariant-loop-command l = map change_of l.copies.items ++ map change_of (drop l.command-index l.commands) ≡ map change_of l.commands
