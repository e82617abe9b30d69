use Rattle.std.proofs.Common.{sym, ap, ◌∙◌}
use Rattle.doc_tree.specs.TreeView.{view}
use Rattle.schema_rules.specs.Assertions.{at_least}
use Rattle.schema_rules.proofs.Counts.{on_object-view}
use Rattle.schema_rules.proofs.sizes.has_members_from.Goals as goal

pub returns-in-Object : goal.returns-in-Object
returns-in-Object c =
    let test = at_least (view c.args.value.now) in
    c.at_least.ensures ∙ ap test c.len.ensures.len ∙ sym (on_object-view test _ c.in-Object.members c.in-Object.is)
