use Rattle.std.proofs.Common.{sym, subst, map, IfOk}
use Rattle.record_text.specs.Change.{change_of}
use Rattle.doc_machine.specs.Spelled.{change_in}
use Rattle.doc_machine.specs.Transaction.{IsTransacted, transaction_of}
use Rattle.doc_machine.specs.declared.transaction.Transaction.{Transaction}
use Rattle.doc_machine.proofs.Transactions.{transacted_several, transacted_single}
use Rattle.doc_machine.proofs.machine.trial.Trial.transact.Goals as goal

pub returns-in-Single-clause-made : goal.returns-in-Single-clause-made
returns-in-Single-clause-made c =
    let one = c.step_alone in
    subst (λ (t : Transaction). IfOk one.result (λ seq. IsTransacted c.args.self.now (transaction_of t) seq one.new.self)) (sym c.in-Single.is)
    (transacted_single c.args.self.now (change_of c.in-Single.command) one.new.self one.result one.ensures.accepted one.ensures.made one.ensures.seq)

pub returns-in-Several-clause-made : goal.returns-in-Several-clause-made
returns-in-Several-clause-made c =
    let all = c.step_all in
    subst (λ (t : Transaction). IfOk all.result (λ seq. IsTransacted c.args.self.now (transaction_of t) seq all.new.self)) (sym c.in-Several.is)
    (transacted_several c.args.self.now (map change_of c.in-Several.commands.items) all.new.self all.result all.ensures.accepted all.ensures.made all.ensures.seq)

pub returns-in-Spelled-clause-made : goal.returns-in-Spelled-clause-made
returns-in-Spelled-clause-made c =
    let one = c.step_spelled in
    subst (λ (t : Transaction). IfOk one.result (λ seq. IsTransacted c.args.self.now (transaction_of t) seq one.new.self)) (sym c.in-Spelled.is)
    (transacted_single c.args.self.now (change_in c.in-Spelled.patch) one.new.self one.result one.ensures.accepted one.ensures.made one.ensures.seq)
