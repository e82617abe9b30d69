use Rattle.std.proofs.Common.{sym}
use Rattle.record_text.specs.Change.{change_of}
use Rattle.doc_changes.specs.Step.{IsOwn, Refuses}
use Rattle.doc_changes.proofs.Judgements.{judged_whole, refused_last, err_same}
use Rattle.doc_changes.proofs.Known.{own_alone}
use Rattle.doc_changes.proofs.documents.Documents.judge.Goals as goal

pub returns-in_err-check_seq-clause-refused : goal.returns-in_err-check_seq-clause-refused
returns-in_err-check_seq-clause-refused c =
    err_same c.from_residual-in_err-check_seq.result c.in_err-check_seq.field-0.0 (Refuses c.args.self.now (change_of c.args.command.now))
    (refused_last c.args.self.now (change_of c.args.command.now) c.in_ok-judged.judged c.in_err-check_seq.field-0.0 c.in_ok-judged.ensures (sym c.in_err-check_seq.ensures))
    c.from_residual-in_err-check_seq.ensures.1

pub returns-clause-judged : goal.returns-clause-judged
returns-clause-judged c =
    let s = c.args.self.now in
    let change = change_of c.args.command.now in
    judged_whole s change _ (c.accepted_changes_are_framed.ensures s change) c.in_ok-judged.ensures (sym c.in_ok-check_seq.ensures)

pub returns-in_err-judged-clause-own : goal.returns-in_err-judged-clause-own
returns-in_err-judged-clause-own c =
    err_same c.from_residual.result c.in_err-judged.field-0.0 IsOwn
    (own_alone c.args.self.now.profile c.args.self.now.documents (change_of c.args.command.now) c.in_err-judged.field-0.0 c.in_err-judged.ensures) c.from_residual.ensures.1
