use Rattle.std.proofs.Common.{◌≤◌, sym, ◌∙◌, ap, subst, map, List}
use Rattle.record_text.specs.Change.{change_of}
use Rattle.doc_changes.specs.State.{State, Document, Good}
use Rattle.doc_changes.specs.Step.{refusals_in}
use Rattle.doc_changes.specs.Undo.{IsMadeForGood}
use Rattle.doc_changes.specs.StateView.{document_of}
use Rattle.doc_machine.specs.MachineView.{state_of}
use Rattle.doc_changes.proofs.After.{good_made}
use Rattle.doc_changes.proofs.Reasons.{none_first}
use Rattle.doc_machine.proofs.Readied.{ready_on}
use Rattle.doc_machine.proofs.machine.Machine.take_for_good.Goals as goal

pub make_for_good-requires-clause-ready : goal.make_for_good-requires-clause-ready
make_for_good-requires-clause-ready c = (
  c.self.inside.profile,
  ready_on _ (state_of c.self.inside) (map document_of c.reserve.new.self.entries) (change_of c.args.command) c.in_ok-ready.ready (c.look.ensures.same ∙ sym c.self.view_is)
      (ap (map document_of) c.in_ok-reserve.ensures.entries) c.in_ok-ready.ensures.ready,
)

pub invariant_of-result : goal.invariant_of-result
invariant_of-result c =
    let s = state_of c.self.inside in
    let change = change_of c.args.command in
    let now = map document_of c.make_for_good.new.documents.entries in
    let m = subst (λ es. IsMadeForGood s.profile (map document_of es) change c.args.seq now) c.in_ok-reserve.ensures.entries
    (c.in_ok-make_for_good.ensures.made s.profile (ready_on _ (state_of c.self.inside) (map document_of c.reserve.new.self.entries) (change_of c.args.command) c.in_ok-ready.ready (c.look.ensures.same ∙ sym c.self.view_is)
    (ap (map document_of) c.in_ok-reserve.ensures.entries) c.in_ok-ready.ensures.ready)) in
    let low = subst (λ (t : State). c.args.seq ≤ t.seq) (sym c.self.view_is) c.requires in
    let accepted = none_first (refusals_in s.profile s.documents change) m.is_judged.accepted in
    subst Good (sym (ap (λ (ds : List Document). record { documents = ds; marks = c.self.inside.marks; seq = c.self.inside.seq; profile = c.self.inside.profile }) m.after))
    (good_made s change c.args.seq m.judged low c.self.invariant accepted m.is_judged.sound m.is_judged.made)

pub returns-clause-good : goal.returns-clause-good
returns-clause-good c = invariant_of-result c
