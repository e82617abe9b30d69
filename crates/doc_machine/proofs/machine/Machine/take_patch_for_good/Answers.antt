use Rattle.std.proofs.Common.{◌≤◌, sym, ◌∙◌, ap, subst, List, None}
use Rattle.record_text.specs.Change.{patch}
use Rattle.record_text.specs.Frame.{entry}
use Rattle.doc_changes.specs.State.{Document, State}
use Rattle.doc_machine.specs.Entries.{Takes, with_entry}
use Rattle.doc_machine.specs.MachineView.{state_of}
use Rattle.doc_machine.proofs.machine.Machine.take_patch_for_good.Goals as goal

pub invariant_of-result : goal.invariant_of-result
invariant_of-result c =
    let low = subst (λ (t : State). c.args.seq ≤ t.seq) (sym c.self.view_is) c.requires in
    c.in_ok-patch_read_for_good.ensures.good c.self.inside.marks c.self.inside.profile c.self.inside.seq low c.self.invariant

pub returns-clause-good : goal.returns-clause-good
returns-clause-good c = invariant_of-result c

pub returns-clause-taken : goal.returns-clause-taken
returns-clause-taken c = λ ops read sound.
    let s = state_of c.self.inside in
    let e = entry c.args.seq (patch c.args.name.now ops None) in
    let m = c.in_ok-patch_read_for_good.ensures.made c.self.inside.profile ops read sound in
    let low = subst (λ (t : State). c.args.seq ≤ t.seq) (sym c.self.view_is) c.requires in
    let takes : Takes s e = record { not_ahead = low; accepted = m.is_judged.accepted } in (
      subst (λ (t : State). Takes t e) c.self.view_is takes,
      ap (λ (ds : List Document). record { documents = ds; marks = c.self.inside.marks; seq = c.self.inside.seq; profile = c.self.inside.profile }) m.after ∙ ap (λ (t : State). with_entry t e) c.self.view_is,
    )
