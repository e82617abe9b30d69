use Rattle.std.proofs.Common.{◌≡◌, None, arith, sym, subst, ◌∙◌, ap, take}
use Rattle.std.proofs.lemmas.Str.{IsUtf8-string_bytes}
use Rattle.doc_changes.specs.Marks.{Mark, mark_refusal}
use Rattle.doc_changes.specs.State.{noted}
use Rattle.doc_changes.specs.Step.{IsOwn}
use Rattle.doc_changes.proofs.Judgements.{err_same}
use Rattle.doc_machine.specs.Marking.{marking_of}
use Rattle.doc_machine.specs.Transaction.{RefusesTransaction, all_of, marked, pure_changes}
use Rattle.doc_machine.specs.Trial.{TrialView, state_at}
use Rattle.doc_machine.proofs.Transactions.{mark_stays, refuses_changes, refuses_marking, taken_back, transacted_marked, tried_some}
use Rattle.doc_machine.proofs.machine.trial.Trial.step_marked.Goals as goal

pub returns-in_err-check_marking-clause-refused : goal.returns-in_err-check_marking-clause-refused
returns-in_err-check_marking-clause-refused c =
    let s = c.args.self.now.state in
    let m = marking_of c.args.marking in
    let cs = pure_changes c.args.changes in
    err_same c.from_residual.result c.in_err-check_marking.field-0.0 (RefusesTransaction s (marked m cs))
    (refuses_marking s m cs c.in_err-check_marking.field-0.0 (sym c.in_err-check_marking.ensures.refused)) c.from_residual.ensures.1

pub returns-in_err-check_marking-clause-own : goal.returns-in_err-check_marking-clause-own
returns-in_err-check_marking-clause-own c = err_same c.from_residual.result c.in_err-check_marking.field-0.0 IsOwn c.in_err-check_marking.ensures.own c.from_residual.ensures.1

pub returns-in_err-seq-clause-refused : goal.returns-in_err-seq-clause-refused
returns-in_err-seq-clause-refused c =
    let s = c.args.self.now.state in
    let m = marking_of c.args.marking in
    let cs = pure_changes c.args.changes in
    err_same c.from_residual-in_err-seq.result c.in_err-seq.field-0.0 (RefusesTransaction s (marked m cs))
    (refuses_changes s m cs c.in_err-seq.field-0.0 (sym c.in_ok-check_marking.ensures.refused) c.in_err-seq.ensures.refused) c.from_residual-in_err-seq.ensures.1

pub returns-in_err-seq-clause-own : goal.returns-in_err-seq-clause-own
returns-in_err-seq-clause-own c = err_same c.from_residual-in_err-seq.result c.in_err-seq.field-0.0 IsOwn c.in_err-seq.ensures.own c.from_residual-in_err-seq.ensures.1

pub set-requires-clause-tried : goal.set-requires-clause-tried
set-requires-clause-tried c =
    tried_some c.args.self.now c.step_changes.new.self (marking_of c.args.marking) (pure_changes c.args.changes) (sym c.in_ok-check_marking.ensures.refused) c.in_ok-seq.ensures.accepted c.in_ok-seq.ensures.made

pub set-requires-clause-accepted : goal.set-requires-clause-accepted
set-requires-clause-accepted c =
    subst (λ (m : Mark). mark_refusal c.step_changes.new.self.state.profile m.key m.value ≡ None) (sym c.mark_at.ensures)
    (mark_stays c.args.self.now c.step_changes.new.self (marking_of c.args.marking) (pure_changes c.args.changes) (sym c.in_ok-check_marking.ensures.refused) c.in_ok-seq.ensures.accepted c.in_ok-seq.ensures.made)

pub set-requires-clause-counted : goal.set-requires-clause-counted
set-requires-clause-counted c =
    let number = ap (λ (m : Mark). m.seq) c.mark_at.ensures in
    omega (arith, number, c.in_ok-seq.ensures.seq)

pub returns-in-Ok-clause-made : goal.returns-in-Ok-clause-made
returns-in-Ok-clause-made c =
    transacted_marked c.args.self.now c.step_changes.new.self (marking_of c.args.marking) (pure_changes c.args.changes) (sym c.in_ok-check_marking.ensures.refused) c.in_ok-seq.ensures.accepted c.in_ok-seq.ensures.made
    c.set.new.self c.in_ok-seq.seq (IsUtf8-string_bytes c.args.marking.value) c.in_ok-seq.ensures.seq (c.in-Ok.ensures.state ∙ ap (λ (m : Mark). noted m c.step_changes.new.self.state) c.mark_at.ensures) c.set.ensures.past

pub returns-in-Err-clause-unchanged : goal.returns-in-Err-clause-unchanged
returns-in-Err-clause-unchanged c =
    let n = c.len-tried.result in
    let same = c.in-Err.ensures.unchanged in
    taken_back c.args.self.now c.step_changes.new.self c.keep.new.self (all_of (pure_changes c.args.changes)) n c.in_ok-seq.ensures.made c.len-tried.ensures.len
    (c.keep.ensures.state ∙ ap (state_at n) same) (c.keep.ensures.past ∙ ap (λ (v : TrialView). take n v.past) same)
