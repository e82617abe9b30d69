use Rattle.std.proofs.Common.{Some, sym, ap, ◌∙◌}
use Rattle.doc_tree.specs.TreeView.{view, members_view}
use Rattle.doc_edits.proofs.Leaves.{found, member_replaced, member_missing_to_replace}
use Rattle.doc_edits.proofs.Missing.{as_missing}
use Rattle.doc_edits.proofs.Grown.{replaced_member_size}
use Rattle.doc_edits.proofs.members.replace.Goals as goal

pub returns-in-Some-clause-made : goal.returns-in-Some-clause-made
returns-in-Some-clause-made c = member_replaced c.args.name.now c.args.members.now.entries _ c.in-Some.place.now c.args.value c.replace.new.dest c.replace.ensures.after c.in-Some.ensures.value (c.get_mut.follows.holds c.replace.new.dest).0

pub returns-in-None-clause-made : goal.returns-in-None-clause-made
returns-in-None-clause-made c = as_missing c.of.result _ c.of.ensures.fault (member_missing_to_replace c.args.name.now (view c.args.value) c.args.members.now.entries c.in-None.ensures.value)

pub returns-in-Some-clause-sized : goal.returns-in-Some-clause-sized
returns-in-Some-clause-sized c = replaced_member_size c.args.name.now (view c.args.value) (view c.replace.result) (members_view c.args.members.now.entries) _ (returns-in-Some-clause-made c) (found c.args.name.now c.args.members.now.entries (Some c.replace.result) (ap Some c.replace.ensures.value ∙ c.in-Some.ensures.value))

pub returns-in-Some-clause-taken : goal.returns-in-Some-clause-taken
returns-in-Some-clause-taken c = sym (found c.args.name.now c.args.members.now.entries (Some c.replace.result) (ap Some c.replace.ensures.value ∙ c.in-Some.ensures.value))
