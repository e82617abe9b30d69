use Rattle.std.proofs.Common.{length, sym, ap, ◌∙◌}
use Rattle.doc_tree.specs.TreeView.{view}
use Rattle.schema_rules.specs.Assertions.{at_most}
use Rattle.schema_rules.proofs.Counts.{on_list-view}
use Rattle.schema_rules.proofs.sizes.has_items_up_to.Goals as goal

pub returns-in-List : goal.returns-in-List
returns-in-List c =
    let test = at_most (view c.args.value.now) in
    c.at_most.ensures ∙ ap (λ items. test (length items)) c.as_slice.ensures.value ∙ sym (on_list-view test _ c.in-List.items c.in-List.is)
