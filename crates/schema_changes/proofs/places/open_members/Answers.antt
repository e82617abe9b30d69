use Rattle.std.proofs.Common.{sym, ap, subst, ◌∙◌}
use Rattle.doc_tree.specs.TreeView.{view}
use Rattle.doc_tree.proofs.Views.{view-Object}
use Rattle.schema_changes.specs.Again.{IsSorted}
use Rattle.schema_changes.proofs.Children.{sorted_view}
use Rattle.schema_changes.proofs.places.open_members.Goals as goal

pub returns-in-Object : goal.returns-in-Object
returns-in-Object c = subst IsSorted (sym (ap view c.in-Object.is ∙ view-Object c.in-Object.members)) (sorted_view c.in-Object.members.entries c.iter.ensures.ordered)
