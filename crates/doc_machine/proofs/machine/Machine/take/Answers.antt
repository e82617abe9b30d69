use Rattle.std.proofs.Common.{◌≤◌, sym, ◌∙◌, ap, subst, map, List}
use Rattle.std.specs.List.{AllByRecursion}
use Rattle.record_text.specs.Change.{change_of}
use Rattle.record_text.specs.Frame.{entry}
use Rattle.doc_machine.specs.Entries.{with_entry, Takes}
use Rattle.doc_changes.specs.State.{State, Document, Good, IsStorable}
use Rattle.doc_changes.specs.Step.{refusals_in}
use Rattle.doc_changes.specs.Undo.{IsMade}
use Rattle.doc_changes.specs.StateView.{document_of}
use Rattle.doc_machine.specs.MachineView.{state_of}
use Rattle.doc_changes.proofs.After.{good_made}
use Rattle.doc_changes.proofs.Reasons.{none_first}
use Rattle.doc_machine.proofs.Readied.{ready_on}
use Rattle.doc_machine.proofs.machine.Machine.take.Goals as goal

pub make-requires-clause-storable : goal.make-requires-clause-storable
make-requires-clause-storable c = subst (λ es. AllByRecursion IsStorable (map document_of es)) (sym c.in_ok-reserve.ensures.entries) c.self.invariant.storable

pub make-requires-clause-ready : goal.make-requires-clause-ready
make-requires-clause-ready c = (
  c.self.inside.profile,
  ready_on _ (state_of c.self.inside) (map document_of c.reserve.new.self.entries) (change_of c.args.command) c.in_ok-ready.ready (c.look.ensures.same ∙ sym c.self.view_is)
      (ap (map document_of) c.in_ok-reserve.ensures.entries) c.in_ok-ready.ensures.ready,
)

pub invariant_of-self-2 : goal.invariant_of-self-2
invariant_of-self-2 c =
    let s = state_of c.self.inside in
    let change = change_of c.args.command in
    let m = subst (λ es. IsMade s.profile (map document_of es) change c.args.seq c.in_ok-make.field-0 (map document_of c.make.new.documents.entries)) c.in_ok-reserve.ensures.entries
    (c.in_ok-make.ensures.made s.profile (ready_on _ (state_of c.self.inside) (map document_of c.reserve.new.self.entries) (change_of c.args.command) c.in_ok-ready.ready (c.look.ensures.same ∙ sym c.self.view_is)
    (ap (map document_of) c.in_ok-reserve.ensures.entries) c.in_ok-ready.ensures.ready)) in
    let low = subst (λ (t : State). c.args.seq ≤ t.seq) (sym c.self.view_is) c.requires in
    subst Good (sym (ap (λ (ds : List Document). record { documents = ds; marks = c.self.inside.marks; seq = c.self.inside.seq; profile = c.self.inside.profile }) m.after))
    (good_made s change c.args.seq m.judged low c.self.invariant (none_first (refusals_in s.profile s.documents change) m.is_judged.accepted) m.is_judged.sound m.is_judged.made)

pub returns-clause-good : goal.returns-clause-good
returns-clause-good c = invariant_of-self-2 c

pub returns-clause-taken : goal.returns-clause-taken
returns-clause-taken c =
    let s = state_of c.self.inside in
    let change = change_of c.args.command in
    let m = subst (λ es. IsMade s.profile (map document_of es) change c.args.seq c.in_ok-make.field-0 (map document_of c.make.new.documents.entries)) c.in_ok-reserve.ensures.entries
    (c.in_ok-make.ensures.made s.profile (ready_on _ (state_of c.self.inside) (map document_of c.reserve.new.self.entries) (change_of c.args.command) c.in_ok-ready.ready (c.look.ensures.same ∙ sym c.self.view_is)
    (ap (map document_of) c.in_ok-reserve.ensures.entries) c.in_ok-ready.ensures.ready)) in
    let low = subst (λ (t : State). c.args.seq ≤ t.seq) (sym c.self.view_is) c.requires in
    let takes : Takes s (entry c.args.seq change) = record { not_ahead = low; accepted = m.is_judged.accepted } in
    (subst (λ (t : State). Takes t (entry c.args.seq change)) c.self.view_is takes, ap (λ (ds : List Document). record { documents = ds; marks = c.self.inside.marks; seq = c.self.inside.seq; profile = c.self.inside.profile }) m.after ∙ ap (λ (t : State). with_entry t (entry c.args.seq change)) c.self.view_is)
