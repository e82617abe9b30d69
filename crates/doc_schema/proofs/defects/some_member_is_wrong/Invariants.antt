use Rattle.std.proofs.Common.{◌≡◌}
use Rattle.doc_tree.specs.TreeView.{view, members_view}
use Rattle.doc_schema.specs.Defects.{is_wrong, some_member}
use Rattle.doc_schema.proofs.defects.some_member_is_wrong.Given as goal

abbrev pub invariant-loop-name : goal.invariant-loop-name
invariant-loop-name l = some_member l.profile (is_wrong l.profile l.defect (view l.root) l.at_root) (members_view l.name-iterator) ≡ some_member l.profile (is_wrong l.profile l.defect (view l.root) l.at_root) (members_view l.members.entries)
