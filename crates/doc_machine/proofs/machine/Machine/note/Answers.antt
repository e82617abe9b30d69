use Rattle.std.proofs.Common.{◌≤◌, List, sym, ap, subst}
use Rattle.std.proofs.lemmas.Str.{IsUtf8-string_bytes}
use Rattle.doc_changes.specs.MarkView.{mark_in}
use Rattle.doc_changes.specs.Marks.{Mark}
use Rattle.doc_changes.specs.State.{Good, State}
use Rattle.doc_changes.proofs.Marked.{good_noted}
use Rattle.doc_machine.specs.MachineView.{state_of}
use Rattle.doc_machine.proofs.machine.Machine.note.Goals as goal

pub invariant_of-self-2 : goal.invariant_of-self-2
invariant_of-self-2 c =
    let s = state_of c.self.inside in
    let low = subst (λ (t : State). c.args.mark.seq ≤ t.seq) (sym c.self.view_is) c.requires in
    subst Good (ap (λ (ms : List Mark). record s { marks = ms }) (sym c.in_ok-set.ensures.set))
    (good_noted s (mark_in c.args.mark) c.self.invariant (sym c.in_ok-check.ensures.refused) (IsUtf8-string_bytes c.args.mark.value) low)

pub returns-clause-good : goal.returns-clause-good
returns-clause-good c = invariant_of-self-2 c
