use Rattle.std.proofs.Common.{sym}
use Rattle.told_transactions.proofs.Transactions.{before_first, has_one}
use Rattle.told_transactions.proofs.begun.number_before.Goals as goal

pub returns-in_err-frame-clause-number : goal.returns-in_err-frame-clause-number
returns-in_err-frame-clause-number c = λ t more are is. has_one t more are c.args.bytes.now (sym is) c.in_err-frame.ensures.begins

pub returns-clause-number : goal.returns-clause-number
returns-clause-number c = λ t more are is.
    let f = c.in_ok-frame.frame in
    before_first t more are c.args.bytes.now (sym is) f.kind f.seq f.body.now c.in_ok-frame.field-0-1.now c.in_ok-frame.ensures.begins c.checked_sub.result c.checked_sub.ensures
