use Rattle.std.proofs.Common.{codes, refl, ◌∙◌}
use Rattle.doc_machine.specs.Marking.{marking_of}
use Rattle.doc_machine.specs.Transaction.{pure_changes}
use Rattle.std.proofs.Common.{subst, option_map, Option}
use Rattle.doc_tree.specs.TreeView.{members_view, view}
use Rattle.doc_machine.specs.declared.transaction.Changes.{Changes as Held}
use Rattle.protocol.specs.Marks.{put_some}
use Rattle.protocol.specs.Read.{AreChanges}
use Rattle.protocol.proofs.Marks.{asked_once}
use Rattle.protocol.proofs.marked.marked.Goals as goal

pub returns-in_default : goal.returns-in_default
returns-in_default c = λ m cs mark is range.
    let once = asked_once (option_map view c.take_out-at_if_mark.result) (members_view c.args.members.entries) (members_view c.take_out-at_if_mark.new.members.entries) m cs c.take_out-at_if_mark.ensures is in
    c.in_default.ensures m mark once.0

pub returns-in-None : goal.returns-in-None
returns-in-None c = λ m cs mark is range.
    let left = members_view c.take_out-at_if_mark.new.members.entries in
    let once = asked_once (option_map view c.take_out-at_if_mark.result) (members_view c.args.members.entries) left m cs c.take_out-at_if_mark.ensures is in
    let none = subst (λ (o : Option Held). AreChanges left o) c.in-None.is c.in_ok-changes.ensures in
    none cs once.1 range

pub returns-in-Some-2 : goal.returns-in-Some-2
returns-in-Some-2 c =
    let left = members_view c.take_out-at_if_mark.new.members.entries in
    let are = subst (λ (o : Option Held). AreChanges left o) c.in-Some-2.is c.in_ok-changes.ensures in
    let said = c.in-Some.ensures in
    (marking_of c.in-Some.marking, pure_changes c.in-Some-2.changes, refl, said.0, c.take_out-at_if_mark.ensures.1 ∙ (λ i. put_some (codes "if_mark") (said.1 i) (are.0 i)), are.1)
