use Rattle.std.proofs.Common.{◌≡◌, ◌+◌, ◌<◌, refl, sym, arith, ◌∙◌, ap, subst, map, List, None}
use Rattle.std.specs.List.{AllByRecursion}
use Rattle.record_text.specs.Change.{change_of}
use Rattle.doc_changes.specs.declared.limits.TheConstants.{LAST_SEQ}
use Rattle.doc_changes.specs.State.{State, Document, Good, IsStorable}
use Rattle.doc_changes.specs.Step.{after, refusal_of}
use Rattle.doc_changes.specs.Undo.{IsMade}
use Rattle.doc_changes.specs.StateView.{document_of}
use Rattle.doc_machine.specs.MachineView.{state_of}
use Rattle.doc_changes.proofs.Made.{accepted_below, good_below}
use Rattle.doc_machine.proofs.Readied.{ready_on}
use Rattle.doc_machine.proofs.machine.Machine.step.Goals as goal

pub make-requires-clause-storable : goal.make-requires-clause-storable
make-requires-clause-storable c = subst (λ es. AllByRecursion IsStorable (map document_of es)) (sym c.in_ok-reserve.ensures.entries) c.self.invariant.storable

pub make-requires-clause-ready : goal.make-requires-clause-ready
make-requires-clause-ready c = (
  c.self.inside.profile,
  ready_on _ (state_of c.self.inside) (map document_of c.reserve.new.self.entries) (change_of c.args.command) c.in_ok-ready.ready (c.look-2.ensures.same ∙ sym c.self.view_is)
      (ap (map document_of) c.in_ok-reserve.ensures.entries) c.in_ok-ready.ensures.ready,
)

pub invariant_of-self-2 : goal.invariant_of-self-2
invariant_of-self-2 c =
    let s = state_of c.self.inside in
    let m = subst (λ es. IsMade s.profile (map document_of es) (change_of c.args.command) (c.self.inside.seq + 1) c.in_ok-make.field-0 (map document_of c.make.new.documents.entries)) c.in_ok-reserve.ensures.entries
    (c.in_ok-make.ensures.made s.profile (ready_on _ (state_of c.self.inside) (map document_of c.reserve.new.self.entries) (change_of c.args.command) c.in_ok-ready.ready (c.look-2.ensures.same ∙ sym c.self.view_is)
    (ap (map document_of) c.in_ok-reserve.ensures.entries) c.in_ok-ready.ensures.ready)) in
    let low : s.seq < LAST_SEQ = omega (arith, c.self.invariant.counted, c.if-self.false) in
    subst Good (sym (ap (λ (ds : List Document). record { documents = ds; marks = c.self.inside.marks; seq = c.self.inside.seq + 1; profile = c.self.inside.profile }) m.after)) (good_below s (change_of c.args.command) m.judged c.self.invariant low m.is_judged)

pub returns-clause-good : goal.returns-clause-good
returns-clause-good c = invariant_of-self-2 c

pub returns-clause-step : goal.returns-clause-step
returns-clause-step c =
    let s = state_of c.self.inside in
    let m = subst (λ es. IsMade s.profile (map document_of es) (change_of c.args.command) (c.self.inside.seq + 1) c.in_ok-make.field-0 (map document_of c.make.new.documents.entries)) c.in_ok-reserve.ensures.entries
    (c.in_ok-make.ensures.made s.profile (ready_on _ (state_of c.self.inside) (map document_of c.reserve.new.self.entries) (change_of c.args.command) c.in_ok-ready.ready (c.look-2.ensures.same ∙ sym c.self.view_is)
    (ap (map document_of) c.in_ok-reserve.ensures.entries) c.in_ok-ready.ensures.ready)) in
    let low : s.seq < LAST_SEQ = omega (arith, c.self.invariant.counted, c.if-self.false) in
    let now_is = ap (λ (ds : List Document). record { documents = ds; marks = c.self.inside.marks; seq = c.self.inside.seq + 1; profile = c.self.inside.profile }) m.after in
    let accepted = accepted_below s (change_of c.args.command) m.judged m.is_judged low in
    (subst (λ (t : State). refusal_of t (change_of c.args.command) ≡ None) c.self.view_is accepted, now_is ∙ ap (λ (t : State). after t (change_of c.args.command)) c.self.view_is, refl)
