use Rattle.std.proofs.Common.{sym, ap, ◌∙◌}
use Rattle.doc_tree.proofs.Views.{view-List}
use Rattle.path_select.proofs.Views.{elements_count-elements_view}
use Rattle.path_select.specs.Selectors.{item_count}
use Rattle.doc_tree.specs.TreeView.{view}
use Rattle.path_select.proofs.select.item_count.Goals as goal

pub returns-in-List : goal.returns-in-List
returns-in-List c = c.len.ensures ∙ c.in-List.items.ok.0 ∙ sym (elements_count-elements_view c.in-List.items.items) ∙ ap item_count (sym (ap view c.in-List.is ∙ view-List c.in-List.items))
