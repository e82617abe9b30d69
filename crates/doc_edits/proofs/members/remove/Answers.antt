use Rattle.std.proofs.Common.{Some}
use Rattle.doc_tree.specs.TreeView.{view, members_view}
use Rattle.doc_edits.proofs.Leaves.{found, member_removed, member_missing_to_remove}
use Rattle.doc_edits.proofs.Missing.{as_missing}
use Rattle.doc_edits.proofs.Grown.{removed_member_size, comma_of_members}
use Rattle.std.proofs.Common.{sym}
use Rattle.doc_edits.proofs.members.remove.Goals as goal

pub returns-in-None-clause-made : goal.returns-in-None-clause-made
returns-in-None-clause-made c = as_missing c.nothing.result _ c.nothing.ensures.fault (member_missing_to_remove c.args.name.now c.args.members.now.entries c.in-None.ensures.value)

pub returns-in-Some-clause-made : goal.returns-in-Some-clause-made
returns-in-Some-clause-made c = member_removed c.args.name.now c.args.members.now.entries _ c.in-Some.old c.in-Some.ensures.value c.remove.ensures.entries

pub returns-in-Some-clause-taken : goal.returns-in-Some-clause-taken
returns-in-Some-clause-taken c = sym (found c.args.name.now c.args.members.now.entries (Some c.in-Some.old) c.in-Some.ensures.value)

pub returns-in-Some-clause-sized : goal.returns-in-Some-clause-sized
returns-in-Some-clause-sized c =
    let others = comma_of_members c.remove.new.self.entries _ c.is_empty-has_others.ensures in
    let s = removed_member_size c.args.name.now (view c.in-Some.old) (members_view c.args.members.now.entries) _ _ (returns-in-Some-clause-made c) (found c.args.name.now c.args.members.now.entries (Some c.in-Some.old) c.in-Some.ensures.value) others in
    (_, c.bytes_beside.ensures, s)
