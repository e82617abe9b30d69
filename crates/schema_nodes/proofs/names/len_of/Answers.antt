use Rattle.std.proofs.Common.{length, sym, ap, ◌∙◌}
use Rattle.doc_tree.specs.Lists.{elements_list}
use Rattle.doc_tree.specs.TreeView.{view}
use Rattle.doc_tree.proofs.Elements.{length-elements_list}
use Rattle.doc_tree.proofs.Views.{view-List}
use Rattle.schema_rules.specs.Parts.{elements_in}
use Rattle.schema_nodes.proofs.names.len_of.Goals as goal

pub returns-in-List : goal.returns-in-List
returns-in-List c = ap length c.as_slice.ensures.value ∙ sym (length-elements_list c.in-List.items.items) ∙ sym (ap (λ d. length (elements_list (elements_in d))) (ap view c.in-List.is ∙ view-List c.in-List.items))
